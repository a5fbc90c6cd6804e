-- How close a path keeps to a possible segment.
use Rattle.std.proofs.Common.{◌≡◌, ℕ, zero, suc, ◌+◌, ◌-◌, ◌*◌, ◌<◌, ◌≤◌, inl, inr, ℤ, pos, ◌-ℤ◌, ◌*ℤ◌, List, length, sym, subst, ap, ◌∙◌, add-zero, arith}
use Rattle.std.proofs.lemmas.Int.{ints, unsigned_abs-mul}
use Rattle.std.proofs.lemmas.Bool.{cases_eq}
use Rattle.std.proofs.Math.Decide.{dec_le}
use Rattle.std.proofs.Math.Nat.{mul-le-mul_left}
use Rattle.std.specs.Prelude.{unsigned_abs}
use Rattle.pt_core.specs.ClosedWalk.{IsClosedWalk, point_at}
use Rattle.pt_core.specs.declared.point.Point.{Point}
use Rattle.pt_core.proofs.Sizes.{product_most}
use Rattle.pt_core.proofs.Terms.{same_value}
use Rattle.pt_core.proofs.Terms.Term.{num, less, times}
use Rattle.path_cones.specs.Straight.{StaysWithin, IsNear, IsPossible, vector_of, path_from}
use Rattle.path_cones.specs.Cones.{cross_of}
use Rattle.path_cones.specs.declared.vector.Vector.{Vector}
use Rattle.path_cones.proofs.Cyclic.{lap_on}
use Rattle.path_cones.proofs.Turning.{cross_term}

-- how far a vector goes along rows and columns together
abbrev way_of : Vector → ℕ
way_of e = unsigned_abs e.x + unsigned_abs e.y

-- a walk goes no farther than it has steps
steps_most : (points : List Point) → IsClosedWalk points → (i d : ℕ) → way_of (vector_of (point_at points i) (point_at points (i + d))) ≤ d
steps_most points walk i zero = rw add-zero (omega (arith, ints))
steps_most points walk i (suc d) =
    let so_far = steps_most points walk i d in
    let next : i + suc d ≡ suc (i + d) = omega arith in
    rw next (elim (walk.steps (i + d)) [
      | inl row ↦ elim row.1 [ inl e ↦ (let same = row.0 in omega (arith, ints)) | inr e ↦ (let same = row.0 in omega (arith, ints)) ]
      | inr column ↦ elim column.1 [ inl e ↦ (let same = column.0 in omega (arith, ints)) | inr e ↦ (let same = column.0 in omega (arith, ints)) ]
    ])

-- ---- near a half-line

apart_sum : (p q mx my ex ey : ℤ) → q *ℤ (mx *ℤ ey -ℤ my *ℤ ex) ≡ (q *ℤ mx -ℤ p *ℤ ex) *ℤ ey -ℤ (q *ℤ my -ℤ p *ℤ ey) *ℤ ex
apart_sum p q mx my ex ey =
    let by = λ (m : ℤ) (e : ℤ). less (times (num q) (num m)) (times (num p) (num e)) in
    same_value
    (times (num q) (less (times (num mx) (num ey)) (times (num my) (num ex))))
    (less (times (by mx ex) (num ey)) (times (by my ey) (num ex)))
    (omega arith)

within_most : (q : ℕ) (z : ℤ) → StaysWithin q z → unsigned_abs z ≤ q
within_most q z is = let low = is.low in let high = is.high in omega (arith, ints)

divided_most : (q a b : ℕ) → 1 ≤ q → q * a ≤ q * b → a ≤ b
divided_most q a b some h =
    elim (dec_le a b) [
      | yes l ↦ l
      | no g ↦ (let above : b + 1 ≤ a = omega arith in absurd (omega (arith, mul-le-mul_left q above)))
    ]

difference_most : (a b : ℤ) (m n : ℕ) → unsigned_abs a ≤ m → unsigned_abs b ≤ n → unsigned_abs (a -ℤ b) ≤ m + n
difference_most a b m n h k = omega (arith, ints)

-- a point near a half-line has a small cross product with its end
pub near_most : (m e : Vector) → IsNear m e → unsigned_abs (cross_of m e) ≤ unsigned_abs e.x + unsigned_abs e.y
near_most m e near =
    let q : ℕ = near.q in
    let right : ℤ = pos q *ℤ m.x -ℤ pos near.p *ℤ e.x in
    let above : ℤ = pos q *ℤ m.y -ℤ pos near.p *ℤ e.y in
    let is = apart_sum (pos near.p) (pos q) m.x m.y e.x e.y in
    let one = product_most right e.y q (unsigned_abs e.y) (within_most q right near.in_x) (omega arith) in
    let other = product_most above e.x q (unsigned_abs e.x) (within_most q above near.in_y) (omega arith) in
    let size : q * unsigned_abs (cross_of m e) ≤ q * unsigned_abs e.y + q * unsigned_abs e.x =
    (let P : ℕ → Type 0 = λ n. n ≤ q * unsigned_abs e.y + q * unsigned_abs e.x in
    subst P (ap unsigned_abs (sym is) ∙ unsigned_abs-mul (pos q) (cross_of m e)) (difference_most (right *ℤ e.y) (above *ℤ e.x) (q * unsigned_abs e.y) (q * unsigned_abs e.x) one other)) in
    divided_most q (unsigned_abs (cross_of m e)) (way_of e) near.positive (omega arith)

-- so have the half-line's two ends
at_start : (p : Point) (e : Vector) → cross_of (vector_of p p) e ≡ pos 0
at_start p e =
    same_value (less (times (less (num p.x) (num p.x)) (num e.y)) (times (less (num p.y) (num p.y)) (num e.x))) (num (pos 0)) (omega arith)

at_end : (e : Vector) → cross_of e e ≡ pos 0
at_end e = same_value (cross_term e e) (num (pos 0)) (omega arith)

-- ---- along a possible segment

-- the path from the point before i on, counted from i
from_before : (points : List Point) (i k : ℕ) → 1 ≤ length points → i ≤ k → path_from points (i + (length points - 1)) (k - i + 1) ≡ point_at points k
from_before points i k some h =
    let e : k - i + 1 + (i + (length points - 1)) ≡ k + length points = omega arith in
    ap (point_at points) e ∙ lap_on points k

between_near : (points : List Point) → 1 ≤ length points → (i j k : ℕ) → IsPossible points i j → i < k → k < j
    → IsNear (vector_of (point_at points i) (point_at points k)) (vector_of (point_at points i) (point_at points j))
between_near points some i j k possible h l =
    let near = possible.straight.near (i - i + 1) (k - i + 1) (j - i + 1) (omega arith) (omega arith) (omega arith) in
    let first = from_before points i i some (omega arith) in
    let middle = from_before points i k some (omega arith) in
    let last = from_before points i j some (omega arith) in
    rw (first, middle, last) at near

-- the cross product of each of the points that it stands for is at most its steps
pub cross_most : (points : List Point) (i j k : ℕ) → IsClosedWalk points → IsPossible points i j → i ≤ k → k ≤ j
    → unsigned_abs (cross_of (vector_of (point_at points i) (point_at points k)) (vector_of (point_at points i) (point_at points j))) ≤ j - i
cross_most points i j k walk possible h l =
    let chord : Vector = vector_of (point_at points i) (point_at points j) in
    let here : Vector = vector_of (point_at points i) (point_at points k) in
    let P : ℤ → Type 0 = λ z. unsigned_abs z ≤ j - i in
    elim (cases_eq k i) [
      | inl same ↦ (
          let zero_here : cross_of here chord ≡ pos 0 = ap (λ n. cross_of (vector_of (point_at points i) (point_at points n)) chord) same ∙ at_start (point_at points i) chord in
          subst P (sym zero_here) (omega arith))
      | inr later ↦ elim (cases_eq k j) [
        | inl same ↦ (
            let zero_here : cross_of here chord ≡ pos 0 = ap (λ n. cross_of (vector_of (point_at points i) (point_at points n)) chord) same ∙ at_end chord in
            subst P (sym zero_here) (omega arith))
        | inr sooner ↦ (
            let rises = possible.rises in
            let least = walk.least in
            let end : i + (j - i) ≡ j = omega arith in
            let steps = rw end at (steps_most points walk i (j - i)) in
            omega (arith, near_most here chord (between_near points (omega arith) i j k possible (omega arith) (omega arith)), steps))
      ]
    ]

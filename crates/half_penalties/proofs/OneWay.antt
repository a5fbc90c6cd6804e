-- Paths that go one way.
use Rattle.std.proofs.Common.{◌≡◌, ◌≢◌, ℕ, zero, suc, ◌+◌, ◌-◌, ◌≤◌, inl, inr, ℤ, ◌+ℤ◌, ◌-ℤ◌, List, sym, ap, ◌∙◌, add-zero, arith}
use Rattle.std.proofs.lemmas.Int.{ints}
use Rattle.std.specs.Prelude.{unsigned_abs}
use Rattle.pt_core.specs.ClosedWalk.{IsClosedWalk, point_at}
use Rattle.pt_core.specs.declared.point.Point.{Point}
use Rattle.pt_core.proofs.Terms.{num, plus, less, times, same_value}
use Rattle.prefix_moments.specs.Sums.{rightward_of, above_of}
use Rattle.half_penalties.specs.Inner.HalfPenalties.{along_of, GoesOneWay, IsSlant}
use Rattle.half_penalties.proofs.Forms.{slants}

-- a walk goes no farther than it has steps
steps_most : (points : List Point) → IsClosedWalk points → (i d : ℕ) → unsigned_abs (rightward_of points i (i + d)) + unsigned_abs (above_of points i (i + d)) ≤ d
steps_most points walk i zero = rw add-zero (omega (arith, ints))
steps_most points walk i (suc d) =
    let so_far = steps_most points walk i d in
    let next : i + suc d ≡ suc (i + d) = omega arith in
    rw next (elim (walk.steps (i + d)) [
      | inl row ↦ elim row.1 [ inl e ↦ (let same = row.0 in omega (arith, ints)) | inr e ↦ (let same = row.0 in omega (arith, ints)) ]
      | inr column ↦ elim column.1 [ inl e ↦ (let same = column.0 in omega (arith, ints)) | inr e ↦ (let same = column.0 in omega (arith, ints)) ]
    ])

-- nor does it along a diagonal
along_within : (slant right above : ℤ) → IsSlant slant → unsigned_abs (along_of slant right above) ≤ unsigned_abs right + unsigned_abs above
along_within slant right above is =
    elim (slants slant is) [ inl e ↦ (rw e (omega (arith, ints))) | inr e ↦ (rw e (omega (arith, ints))) ]

along_most : (points : List Point) → IsClosedWalk points → (slant : ℤ) → IsSlant slant → (i j : ℕ) → i ≤ j
    → unsigned_abs (along_of slant (rightward_of points i j) (above_of points i j)) ≤ j - i
along_most points walk slant is i j onwards =
    let end : i + (j - i) ≡ j = omega arith in
    let steps = rw end at (steps_most points walk i (j - i)) in
    omega (arith, along_within slant (rightward_of points i j) (above_of points i j) is, steps)

-- how far a path goes along, in three parts
in_parts : (slant a x y z b u v w : ℤ)
    → along_of slant (z -ℤ a) (w -ℤ b)
    ≡ (along_of slant (x -ℤ a) (u -ℤ b) +ℤ along_of slant (y -ℤ x) (v -ℤ u)) +ℤ along_of slant (z -ℤ y) (w -ℤ v)
in_parts slant a x y z b u v w =
    let along = λ (p : ℤ) (q : ℤ) (r : ℤ) (s : ℤ). plus (less (num p) (num q)) (times (num slant) (less (num r) (num s))) in
    same_value (along z a w b) (plus (plus (along x a u b) (along y x v u)) (along z y w v)) (omega arith)

none_back : (a b c : ℤ) (m n k : ℕ) → unsigned_abs a ≤ m → unsigned_abs b ≤ n → unsigned_abs c ≤ k → unsigned_abs ((a +ℤ b) +ℤ c) ≡ m + n + k → unsigned_abs b ≡ n
none_back a b c m n k p q r e = omega (arith, ints, e)

-- where a whole path goes one way, each part of it does
pub parts_go_one_way : (points : List Point) → IsClosedWalk points → (slant : ℤ) → IsSlant slant → (first last : ℕ) → GoesOneWay points slant first last
    → (i j : ℕ) → first ≤ i → i ≤ j → j ≤ last → GoesOneWay points slant i j
parts_go_one_way points walk slant is first last whole i j h k l =
    let p : ℕ → Point = point_at points in
    let along : ℕ → ℕ → ℤ = λ i j. along_of slant (rightward_of points i j) (above_of points i j) in
    let parts = in_parts slant ((p first).x) ((p i).x) ((p j).x) ((p last).x) ((p first).y) ((p i).y) ((p j).y) ((p last).y) in
    let steps : last - first ≡ (i - first) + (j - i) + (last - j) = omega arith in
    none_back (along first i) (along i j) (along j last) (i - first) (j - i) (last - j)
    (along_most points walk slant is first i h) (along_most points walk slant is i j k) (along_most points walk slant is j last l)
    (ap unsigned_abs (sym parts) ∙ whole ∙ steps)

-- where it is too short along both, it goes neither way
pub neither_way : (points : List Point) (first last : ℕ) (right above : ℤ) → right ≡ rightward_of points first last → above ≡ above_of points first last
    → unsigned_abs (right +ℤ above) ≢ last - first → unsigned_abs (right -ℤ above) ≢ last - first → (slant : ℤ) → IsSlant slant → ¬ GoesOneWay points slant first last
neither_way points first last right above er ea rising falling slant is = λ whole.
    let along : unsigned_abs (along_of slant right above) ≡ last - first = rw (er, ea) whole in
    elim (slants slant is) [
      | inl e ↦ (let whole = rw e at along in rising (omega (arith, ints, whole)))
      | inr e ↦ (let whole = rw e at along in falling (omega (arith, ints, whole)))
    ]

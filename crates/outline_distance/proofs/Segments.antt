-- The half-line of a segment is near each point of the path between its ends.
use Rattle.std.proofs.Common.{◌≡◌, inl, inr, ℕ, ◌+◌, ◌-◌, ◌<◌, ◌≤◌, ℤ, pos, ◌-ℤ◌, ◌*ℤ◌, List, length, ◌∙◌, ap, subst, arith}
use Rattle.std.proofs.lemmas.Int.{ints}
use Rattle.std.proofs.lemmas.Bool.{cases_lt}
use Rattle.pt_core.specs.ClosedWalk.{point_at}
use Rattle.pt_core.specs.declared.point.Point.{Point}
use Rattle.straight_paths.specs.Straight.{IsPossible, IsNear, StaysWithin, vector_of, path_from}
use Rattle.path_cones.proofs.Cyclic.{lap_on}

place_on : (points : List Point) (i k : ℕ) → 1 ≤ length points → i ≤ k
    → path_from points (i + (length points - 1)) (k - i + 1) ≡ point_at points k
place_on points i k some h =
    let e : (k - i + 1) + (i + (length points - 1)) ≡ k + length points = omega arith in
    ap (point_at points) e ∙ lap_on points k

pub triple : (points : List Point) (i j a b c : ℕ) → IsPossible points i j → i ≤ a → a < b → b < c → c ≤ j
    → IsNear (vector_of (point_at points a) (point_at points b)) (vector_of (point_at points a) (point_at points c))
triple points i j a b c possible h l m n =
    let some : 1 ≤ length points = omega (arith, possible.leaves_three) in
    let near = possible.straight.near (a - i + 1) (b - i + 1) (c - i + 1) (omega arith) (omega arith) (omega arith) in
    let P : Point → Point → Point → Type 0 = λ u v w. IsNear (vector_of u v) (vector_of u w) in
    let u = place_on points i a some (omega arith) in
    let v = place_on points i b some (omega arith) in
    let w = place_on points i c some (omega arith) in
    let path = path_from points (i + (length points - 1)) in
    subst (λ (z : Point). P (point_at points a) (point_at points b) z) w
    (subst (λ (y : Point). P (point_at points a) y (path (c - i + 1))) v
    (subst (λ (x : Point). P x (path (b - i + 1)) (path (c - i + 1))) u near))

no_way_within : (a e : ℤ) → StaysWithin 1 (pos 1 *ℤ (a -ℤ a) -ℤ pos 0 *ℤ e)
no_way_within a e = record { low = omega (arith, ints); high = omega (arith, ints) }

whole_way_within : (d : ℤ) → StaysWithin 1 (pos 1 *ℤ d -ℤ pos 1 *ℤ d)
whole_way_within d = record { low = omega (arith, ints); high = omega (arith, ints) }

start_near : (p r : Point) → IsNear (vector_of p p) (vector_of p r)
start_near p r = record { p = 0; q = 1; positive = omega arith; in_x = no_way_within p.x (r.x -ℤ p.x); in_y = no_way_within p.y (r.y -ℤ p.y) }

end_near : (p r : Point) → IsNear (vector_of p r) (vector_of p r)
end_near p r = record { p = 1; q = 1; positive = omega arith; in_x = whole_way_within (r.x -ℤ p.x); in_y = whole_way_within (r.y -ℤ p.y) }

pub half_line : (points : List Point) (i j k : ℕ) → IsPossible points i j → i ≤ k → k ≤ j
    → IsNear (vector_of (point_at points i) (point_at points k)) (vector_of (point_at points i) (point_at points j))
half_line points i j k possible a b = elim (cases_lt i k) [
  | inr first ↦
      let e : i ≡ k = omega arith in
      let P : ℕ → Type 0 = λ m. IsNear (vector_of (point_at points i) (point_at points m)) (vector_of (point_at points i) (point_at points j)) in
      subst P e (start_near (point_at points i) (point_at points j))
  | inl later ↦ elim (cases_lt k j) [
    | inl earlier ↦ triple points i j i k j possible (omega arith) later earlier (omega arith)
    | inr last ↦
        let e : j ≡ k = omega arith in
        let P : ℕ → Type 0 = λ m. IsNear (vector_of (point_at points i) (point_at points m)) (vector_of (point_at points i) (point_at points j)) in
        subst P e (end_near (point_at points i) (point_at points j))
  ]
]

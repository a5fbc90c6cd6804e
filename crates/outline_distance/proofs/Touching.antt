-- Where a joined curve goes along with a side, it is near a place between the side's ends.
use Rattle.std.proofs.Common.{◌≡◌, ℕ, suc, ◌+◌, ◌-◌, ◌*◌, ◌<◌, ◌≤◌, ℤ, pos, negsuc, neg_ℤ, ◌+ℤ◌, ◌-ℤ◌, ◌*ℤ◌, ◌≤ℤ◌, length, get_or, refl, sym, ap, subst, ◌∙◌, inl, inr, arith}
use Rattle.std.proofs.lemmas.Bool.{cases_lt}
use Rattle.std.proofs.lemmas.Int.{ints, unsigned_abs-mul}
use Rattle.std.proofs.lemmas.List.{get_or-take, length-take}
use Rattle.std.proofs.lemmas.List.Elements.{All-get_or}
use Rattle.std.proofs.lemmas.Nat.{mul-le}
use Rattle.std.specs.Prelude.{slice_range, unsigned_abs}
use Rattle.pt_core.specs.declared.point.Point.{Point}
use Rattle.pt_core.proofs.Terms.{same_value}
use Rattle.pt_core.proofs.Terms.Term.{num, plus, less, times, opposite}
use Rattle.curve_join.specs.Bends.{bend_at, bends_of}
use Rattle.curve_join.specs.Cubic.{touching_of}
use Rattle.curve_join.specs.Join.{FollowsSide, MayJoin, cubic_at, inner_bends, no_bend}
use Rattle.curve_join.specs.Outline.{Outline, vertex}
use Rattle.curve_join.specs.Vector.{dot_of, square_of, vector_cross, way_of}
use Rattle.curve_join.specs.declared.bend.Bend.{Bend}
use Rattle.curve_join.proofs.Cuts.{bends_at, length-bends_of, slice_at, slice_length}
use Rattle.outline_distance.specs.Distance.{PassesBy}
use Rattle.outline_distance.proofs.Ways.{weighed}

-- ---- numbers

-- of two squares the lesser one has the lesser root
root_most : (a b : ℕ) → a * a ≤ b * b → a ≤ b
root_most a b h = elim (cases_lt b a) [
  | inl over ↦ (let more = mul-le (suc b) (suc b) a a over over in absurd (omega arith))
  | inr within ↦ within
]

-- a share of a way isn't longer than the way, and a distance across it is within
share_most : (part cross tol square : ℕ) → part * part ≤ square → cross * cross ≤ tol * tol * square → part * cross ≤ tol * square
share_most part cross tol square h k =
    let both = mul-le (part * part) (cross * cross) square (tol * tol * square) h k in
    root_most (part * cross) (tol * square) (omega arith)

squared : (a : ℤ) → a *ℤ a ≡ pos (unsigned_abs a * unsigned_abs a)
squared (pos a) = omega (arith, ints)
squared (negsuc a) = omega (arith, ints)

-- the parts of a way, by the square of its length
parts_most : (x y : ℤ) → (unsigned_abs x * unsigned_abs x ≤ unsigned_abs (x *ℤ x +ℤ y *ℤ y)) × (unsigned_abs y * unsigned_abs y ≤ unsigned_abs (x *ℤ x +ℤ y *ℤ y))
parts_most x y = (omega (arith, ints, squared x, squared y), omega (arith, ints, squared x, squared y))

-- ---- from the foot on the side to the place

across_first : (a b x y : ℤ) → (a *ℤ a +ℤ b *ℤ b) *ℤ x -ℤ (a *ℤ x +ℤ b *ℤ y) *ℤ a ≡ neg_ℤ (b *ℤ (a *ℤ y -ℤ b *ℤ x))
across_first a b x y = same_value
    (less (times (plus (times (num a) (num a)) (times (num b) (num b))) (num x)) (times (plus (times (num a) (num x)) (times (num b) (num y))) (num a)))
    (opposite (times (num b) (less (times (num a) (num y)) (times (num b) (num x)))))
    (omega arith)

across_second : (a b x y : ℤ) → (a *ℤ a +ℤ b *ℤ b) *ℤ y -ℤ (a *ℤ x +ℤ b *ℤ y) *ℤ b ≡ a *ℤ (a *ℤ y -ℤ b *ℤ x)
across_second a b x y = same_value
    (less (times (plus (times (num a) (num a)) (times (num b) (num b))) (num y)) (times (plus (times (num a) (num x)) (times (num b) (num y))) (num b)))
    (times (num a) (less (times (num a) (num y)) (times (num b) (num x))))
    (omega arith)

size_of_opposite : (z : ℤ) → unsigned_abs (neg_ℤ z) ≡ unsigned_abs z
size_of_opposite z = omega (arith, ints)

whole_is : (x y : ℤ) → pos (unsigned_abs (x *ℤ x +ℤ y *ℤ y)) ≡ x *ℤ x +ℤ y *ℤ y
whole_is x y = omega (arith, ints, squared x, squared y)

-- ---- one coordinate of it, by the part of the way in the other

module _ (square along tol : ℕ) (a e c cross part : ℤ) (within : along ≤ square)
    (short : unsigned_abs part * unsigned_abs part ≤ square) (near : unsigned_abs cross * unsigned_abs cross ≤ tol * tol * square)
    (is : unsigned_abs (pos square *ℤ (c -ℤ a) -ℤ pos along *ℤ (e -ℤ a)) ≡ unsigned_abs part * unsigned_abs cross) where
  all_of_it : pos (square - along) +ℤ pos along ≡ pos square
  all_of_it = omega (arith, ints)

  by_parts : pos (square - along) *ℤ (c -ℤ a) +ℤ pos along *ℤ (c -ℤ e) ≡ pos square *ℤ (c -ℤ a) -ℤ pos along *ℤ (e -ℤ a)
  by_parts = weighed (pos (square - along)) (pos along) a e c ∙ ap (λ n. n *ℤ (c -ℤ a) -ℤ pos along *ℤ (e -ℤ a)) all_of_it

  pub off_side : unsigned_abs (pos (square - along) *ℤ (c -ℤ a) +ℤ pos along *ℤ (c -ℤ e)) ≤ ((square - along) + along) * tol
  off_side =
      let size = ap unsigned_abs by_parts ∙ is in
      let most = share_most (unsigned_abs part) (unsigned_abs cross) tol square short near in
      let whole : ((square - along) + along) ≡ square = omega arith in
      let total = ap (λ n. n * tol) whole in
      omega (arith, size, most, total)

-- ---- both

module _ (tol along : ℕ) (a e c : Point) (some : 0 < square_of (way_of a e)) (is : dot_of (way_of a e) (way_of a c) ≡ pos along)
    (within : along ≤ square_of (way_of a e))
    (near : unsigned_abs (vector_cross (way_of a e) (way_of a c)) * unsigned_abs (vector_cross (way_of a e) (way_of a c)) ≤ tol * tol * square_of (way_of a e)) where
  square : ℕ
  square = square_of (way_of a e)

  by_way : (z : ℤ) (w : ℤ) (v : ℤ)
      → ((way_of a e).x *ℤ (way_of a e).x +ℤ (way_of a e).y *ℤ (way_of a e).y) *ℤ z -ℤ dot_of (way_of a e) (way_of a c) *ℤ w ≡ v
      → pos (square_of (way_of a e)) *ℤ z -ℤ pos along *ℤ w ≡ v
  by_way z w v e' =
      ap (λ n. n *ℤ z -ℤ pos along *ℤ w) (whole_is (way_of a e).x (way_of a e).y)
      ∙ ap (λ n. ((way_of a e).x *ℤ (way_of a e).x +ℤ (way_of a e).y *ℤ (way_of a e).y) *ℤ z -ℤ n *ℤ w) (sym is) ∙ e'

  size_x : unsigned_abs (pos (square_of (way_of a e)) *ℤ (c.x -ℤ a.x) -ℤ pos along *ℤ (e.x -ℤ a.x))
      ≡ unsigned_abs (way_of a e).y * unsigned_abs (vector_cross (way_of a e) (way_of a c))
  size_x =
      ap unsigned_abs (by_way (c.x -ℤ a.x) (e.x -ℤ a.x) _ (across_first (way_of a e).x (way_of a e).y (way_of a c).x (way_of a c).y))
      ∙ size_of_opposite ((way_of a e).y *ℤ vector_cross (way_of a e) (way_of a c))
      ∙ unsigned_abs-mul (way_of a e).y (vector_cross (way_of a e) (way_of a c))

  size_y : unsigned_abs (pos (square_of (way_of a e)) *ℤ (c.y -ℤ a.y) -ℤ pos along *ℤ (e.y -ℤ a.y))
      ≡ unsigned_abs (way_of a e).x * unsigned_abs (vector_cross (way_of a e) (way_of a c))
  size_y =
      ap unsigned_abs (by_way (c.y -ℤ a.y) (e.y -ℤ a.y) _ (across_second (way_of a e).x (way_of a e).y (way_of a c).x (way_of a c).y))
      ∙ unsigned_abs-mul (way_of a e).x (vector_cross (way_of a e) (way_of a c))

  pub side_touches : PassesBy tol a e c
  side_touches =
      let parts = parts_most (way_of a e).x (way_of a e).y in
      record {
        before = square_of (way_of a e) - along;
        after = along;
        some = omega arith;
        in_x = off_side (square_of (way_of a e)) along tol a.x e.x c.x (vector_cross (way_of a e) (way_of a c)) (way_of a e).y within parts.1 near size_x;
        in_y = off_side (square_of (way_of a e)) along tol a.y e.y c.y (vector_cross (way_of a e) (way_of a c)) (way_of a e).x within parts.0 near size_y;
      }

with_dot : (tol : ℕ) (a e c : Point) (z : ℤ) → dot_of (way_of a e) (way_of a c) ≡ z → pos 0 ≤ℤ z → z ≤ℤ pos (square_of (way_of a e))
    → 0 < square_of (way_of a e)
    → unsigned_abs (vector_cross (way_of a e) (way_of a c)) * unsigned_abs (vector_cross (way_of a e) (way_of a c)) ≤ tol * tol * square_of (way_of a e)
    → PassesBy tol a e c
with_dot tol a e c (pos along) is least most some near = side_touches tol along a e c some is (omega (arith, ints)) near
with_dot tol a e c (negsuc along) is least most some near = absurd (omega (arith, ints))

-- ---- the bends of an outline

inner_at : (o : Outline) (i j k : ℕ) → j ≤ length o.pieces → i ≤ k → k + 1 < j
    → get_or (inner_bends (slice_range (bends_of o) i j)) (k - i) no_bend ≡ bend_at o k
inner_at o i j k within from to =
    let count = slice_length (bends_of o) i j (omega (arith, length-bends_of o)) in
    let e : i + (k - i) ≡ k = omega arith in
    get_or-take (length (slice_range (bends_of o) i j) - 1) (slice_range (bends_of o) i j) (k - i) no_bend (omega (arith, count))
    ∙ slice_at (bends_of o) i j (k - i) no_bend (omega arith)
    ∙ ap (λ n. get_or (bends_of o) n no_bend) e
    ∙ bends_at o k (omega arith)

pub touches_sides : (tol : ℕ) (o : Outline) (i j k : ℕ) → j ≤ length o.pieces → MayJoin tol (slice_range (bends_of o) i j) → i ≤ k → k + 1 < j
    → PassesBy tol (vertex o k) (vertex o (k + 1))
    (touching_of (cubic_at (slice_range (bends_of o) i j)) (way_of (vertex o k) (vertex o (k + 1))))
touches_sides tol o i j k within may from to =
    let run = slice_range (bends_of o) i j in
    let count = slice_length (bends_of o) i j (omega (arith, length-bends_of o)) in
    let there = length-take (length run - 1) run in
    let P : Bend → Type 0 = FollowsSide tol (cubic_at run) in
    let follows = subst P (inner_at o i j k within from to)
    (All-get_or P (inner_bends run) (k - i) no_bend (omega (arith, count, there)) may.sides) in
    with_dot tol (vertex o k) (vertex o (k + 1)) (touching_of (cubic_at run) (way_of (vertex o k) (vertex o (k + 1)))) _ refl
    follows.not_before follows.not_behind follows.some follows.near

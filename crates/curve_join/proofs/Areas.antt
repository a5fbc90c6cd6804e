-- The area of a run is small, and it is the difference of two prefix sums less the triangle of the origin and the
-- chord.
use Rattle.std.proofs.Common.{◌≡◌, ℕ, zero, suc, ◌+◌, ◌-◌, ◌*◌, ◌<◌, ◌≤◌, ◌^◌, ◌%◌, ℤ, pos, ◌+ℤ◌, ◌-ℤ◌, ◌*ℤ◌, List, [], ◌∷◌, length, get_or, take, drop, length-drop, sym, ap, subst, ◌∙◌, to_z, of_z, refl, arith}
use Rattle.std.proofs.Math.Nat.{add-mod_right}
use Rattle.std.proofs.lemmas.Int.{ints, fits_signed_from_abs}
use Rattle.std.proofs.lemmas.List.{get_or-drop, get_or_read, length-take}
use Rattle.std.proofs.lemmas.List.FromFn.{get_or-map-range_with_len, length-map-range_with_len}
use Rattle.std.proofs.lemmas.List.Elements.{All-head, All-tail, All-take}
use Rattle.std.specs.Int.RustNames.{FitsSigned}
use Rattle.std.specs.List.{All, slice_range}
use Rattle.std.specs.Prelude.{slice_index_or, unsigned_abs}
use mir.Syntax.{w128}
use Rattle.pt_core.proofs.Terms.{Term, same_value}
use Rattle.pt_core.proofs.Terms.Term.{num, plus, less, times}
use Rattle.pt_core.specs.ClosedWalk.{origin}
use Rattle.pt_core.specs.Outlines.{end_of}
use Rattle.pt_core.specs.declared.piece.Piece.TheVariants.{Corner}
use Rattle.pt_core.specs.declared.point.Point.{Point}
use Rattle.curve_join.proofs.Cuts.{bends_at, length-bends_of, slice_at}
use Rattle.curve_join.proofs.Widths.{cross_most, difference_most, long_back, product_most, sum_most, within_far}
use Rattle.curve_join.proofs.Meetings.{way_within}
use Rattle.curve_join.proofs.RunSums.{total_more}
use Rattle.curve_join.specs.Inner.Areas.{AreLinked, area_up_to, areas_of}
use Rattle.curve_join.specs.Inner.Bends.{IsWorkable}
use Rattle.curve_join.specs.Bends.{bends_of}
use Rattle.curve_join.specs.Join.{area_at, area_from, first_bend, no_bend, total_area}
use Rattle.curve_join.specs.Outline.{Outline}
use Rattle.curve_join.specs.Vector.{IsPlaced, vector_cross, way_of}
use Rattle.curve_join.specs.declared.bend.Bend.{Bend}

-- the size of one share of an area, and of a sum of shares
pub share_small : (start : Point) → IsPlaced (2 ^ 26) start → (b : Bend) → IsWorkable b → unsigned_abs (area_from start b) ≤ 22 * 2 ^ 58
share_small start placed b small =
    let v = way_of start b.start in
    let w = way_of start b.end in
    let chord = cross_most v w (way_within start b.start v placed small.start refl) (within_far w (way_within start b.end w placed small.end refl)) in
    sum_most b.area (pos 10 *ℤ vector_cross v w) (12 * 2 ^ 58) (10 * 2 ^ 58) small.area
    (product_most (pos 10) (vector_cross v w) 10 (2 ^ 58) (omega arith) chord)

pub total_small : (start : Point) → IsPlaced (2 ^ 26) start → (run : List Bend) → All IsWorkable run → unsigned_abs (total_area start run) ≤ length run * (22 * 2 ^ 58)
total_small start placed [] small = omega arith
total_small start placed (b ∷ run) small =
    let here = share_small start placed b (All-head IsWorkable b run small) in
    let there = total_small start placed run (All-tail IsWorkable b run small) in
    omega (arith, ints)

pub area_most : (start : Point) → IsPlaced (2 ^ 26) start → (run : List Bend) → All IsWorkable run → (most : ℕ) → length run ≤ most
    → unsigned_abs (total_area start run) ≤ most * (22 * 2 ^ 58)
area_most start placed run small most few = omega (arith, total_small start placed run small)

pub area_small : (run : List Bend) → All IsWorkable run → 2 ≤ length run → length run ≤ 64 → (z : ℤ) → z ≡ area_at run → unsigned_abs z ≤ 2 ^ 70
area_small run small some few z ez = rw ez (omega (arith, area_most (first_bend run).start (small 0 no_bend (omega arith)).start run small 64 few))

pub area_there : (run : List Bend) → All IsWorkable run → 2 ≤ length run → length run ≤ 64 → (z : ℤ) → z ≡ area_at run → to_z w128 (of_z w128 z) ≡ area_at run
area_there run small some few z ez = long_back z (omega (arith, area_small run small some few z ez)) ∙ ez

pub at_origin : IsPlaced (2 ^ 26) origin
at_origin = record { x = omega arith; y = omega arith }

pub up_to_most : (bends : List Bend) (k : ℕ) → All IsWorkable bends → length bends ≤ 2 ^ 31 → unsigned_abs (area_up_to bends k) ≤ 2 ^ 94
up_to_most bends k small most =
    omega (arith, area_most origin at_origin (take k bends) (All-take IsWorkable k bends small) (2 ^ 31) (omega (arith, length-take k bends)))

-- the difference of two areas fits in 128 bits
module _ (a b : ℤ) (ha : unsigned_abs a ≤ 2 ^ 100) (hb : unsigned_abs b ≤ 2 ^ 100) where
  difference_small : unsigned_abs (a -ℤ b) ≤ 2 ^ 101
  difference_small = omega (arith, difference_most a b (2 ^ 100) (2 ^ 100) ha hb)

  pub difference_is : to_z w128 (of_z w128 (to_z w128 (of_z w128 a) -ℤ to_z w128 (of_z w128 b))) ≡ a -ℤ b
  difference_is = (let small = difference_small in rw (long_back a (omega arith), long_back b (omega arith), long_back (a -ℤ b) (omega arith)) refl)

  pub difference_fits : FitsSigned w128 (to_z w128 (of_z w128 a) -ℤ to_z w128 (of_z w128 b))
  difference_fits = (let small = difference_small in rw (long_back a (omega arith), long_back b (omega arith)) (fits_signed_from_abs w128 (a -ℤ b) (omega arith)))

-- the area of the first i bends, with the share of the next bend, fits in 128 bits
module _ (start : Point) (placed : IsPlaced (2 ^ 26) start) (run : List Bend) (small : All IsWorkable run) (most : length run ≤ 2 ^ 31) (i : ℕ) (d : Bend) (h : i < length run)
    (t x : ℤ) (et : t ≡ total_area start (take i run)) (ex : x ≡ area_from start (get_or run i d)) where
  before_small : unsigned_abs t ≤ 2 ^ 94
  before_small = rw et (omega (arith, area_most start placed (take i run) (All-take IsWorkable i run small) (2 ^ 31) (omega (arith, length-take i run))))

  next_small : unsigned_abs x ≤ 22 * 2 ^ 58
  next_small = rw ex (share_small start placed (get_or run i d) (small i d h))

  sum_small : unsigned_abs (t +ℤ x) < 2 ^ 127
  sum_small = omega (arith, sum_most t x (2 ^ 94) (22 * 2 ^ 58) before_small next_small)

  next_back : to_z w128 (of_z w128 x) ≡ x
  next_back = long_back x (omega (arith, next_small))

  pub area_so_far : to_z w128 (of_z w128 (t +ℤ to_z w128 (of_z w128 x))) ≡ total_area start (take (i + 1) run)
  area_so_far =
      rw (next_back, long_back (t +ℤ x) sum_small) (
      ap (λ z. z +ℤ x) et ∙ ap (λ z. total_area start (take i run) +ℤ z) ex ∙ sym (total_more start run i d h)
      )

  pub area_fits : FitsSigned w128 (t +ℤ to_z w128 (of_z w128 x))
  area_fits = rw next_back (fits_signed_from_abs w128 (t +ℤ x) sum_small)

-- the cross product of two ways from one point, by the ways from the origin
cross_from : Point → Point → Point → Term
cross_from p a b =
    less
    (times (less (num a.x) (num p.x)) (less (num b.y) (num p.y)))
    (times (less (num a.y) (num p.y)) (less (num b.x) (num p.x)))

crossed : (p a b : Point) → vector_cross (way_of p a) (way_of p b)
    ≡ (vector_cross (way_of origin a) (way_of origin b) -ℤ vector_cross (way_of origin p) (way_of origin b)) +ℤ vector_cross (way_of origin p) (way_of origin a)
unfolding cross_from
crossed p a b =
    same_value (cross_from p a b) (plus (less (cross_from origin a b) (cross_from origin p b)) (cross_from origin p a)) (omega arith)

with_itself : (p : Point) → vector_cross (way_of origin p) (way_of origin p) ≡ pos 0
with_itself p = omega (arith, ints)

-- the difference of prefix sums after one more piece
longer : (t before first after area x y z : ℤ) → t ≡ (before -ℤ first) -ℤ pos 10 *ℤ y → after ≡ before +ℤ (area +ℤ pos 10 *ℤ z)
    → t +ℤ (area +ℤ pos 10 *ℤ ((z -ℤ x) +ℤ y)) ≡ (after -ℤ first) -ℤ pos 10 *ℤ x
longer t before first after area x y z is next = omega (arith, ints)

more : (p : Point) (b : Bend) (t before first after : ℤ) → t ≡ (before -ℤ first) -ℤ pos 10 *ℤ vector_cross (way_of origin p) (way_of origin b.start)
    → after ≡ before +ℤ area_from origin b → t +ℤ area_from p b ≡ (after -ℤ first) -ℤ pos 10 *ℤ vector_cross (way_of origin p) (way_of origin b.end)
more p b t before first after is next =
    ap (λ z. t +ℤ (b.area +ℤ pos 10 *ℤ z)) (crossed p b.start b.end)
    ∙ longer t before first after b.area (vector_cross (way_of origin p) (way_of origin b.end)) (vector_cross (way_of origin p) (way_of origin b.start))
    (vector_cross (way_of origin b.start) (way_of origin b.end)) is next

none_yet : (a z : ℤ) → z ≡ pos 0 → pos 0 ≡ (a -ℤ a) -ℤ pos 10 *ℤ z
none_yet a z e = omega (arith, ints)

-- the area of the pieces from index i on
module _ (bends : List Bend) (linked : AreLinked bends) (i : ℕ) (p : Point) (here : (get_or bends i no_bend).start ≡ p) where
  -- that area by prefix sums, if the run ends at this point
  abbrev told : ℕ → Point → ℤ
  told k place = (area_up_to bends k -ℤ area_up_to bends i) -ℤ pos 10 *ℤ vector_cross (way_of origin p) (way_of origin place)

  one_more : (m k : ℕ) → k ≡ i + m → k < length bends → total_area p (take m (drop i bends)) ≡ told k (get_or bends k no_bend).start
      → total_area p (take (m + 1) (drop i bends)) ≡ told (k + 1) (get_or bends k no_bend).end
  one_more m k e h is =
      let same : get_or (drop i bends) m no_bend ≡ get_or bends k no_bend = get_or-drop i bends m no_bend ∙ ap (λ n. get_or bends n no_bend) (sym e) in
      total_more p (drop i bends) m no_bend (omega (arith, length-drop i bends))
      ∙ ap (λ b. total_area p (take m (drop i bends)) +ℤ area_from p b) same
      ∙ more p (get_or bends k no_bend) _ (area_up_to bends k) (area_up_to bends i) (area_up_to bends (k + 1)) is (total_more origin bends k no_bend h)

  so_far : (m k : ℕ) → k ≡ i + m → k < length bends → total_area p (take m (drop i bends)) ≡ told k (get_or bends k no_bend).start
  so_far zero k e h =
      let same : i ≡ k = omega arith in
      let P : ℕ → Type 0 = λ n. pos 0 ≡ told n (get_or bends n no_bend).start in
      let Q : Point → Type 0 = λ q. pos 0 ≡ told i q in
      subst P same (subst Q (sym here) (none_yet (area_up_to bends i) (vector_cross (way_of origin p) (way_of origin p)) (with_itself p)))
  so_far (suc m) k e h =
      let before = one_more m (k - 1) (omega arith) (omega arith) (so_far m (k - 1) (omega arith) (omega arith)) in
      let next : k - 1 + 1 ≡ k = omega arith in
      let count : m + 1 ≡ suc m = omega arith in
      let P : ℕ → Type 0 = λ n. total_area p (take n (drop i bends)) ≡ told k (get_or bends k no_bend).start in
      let Q : ℕ → Type 0 = λ n. total_area p (take (m + 1) (drop i bends)) ≡ told n (get_or bends n no_bend).start in
      let R : Point → Type 0 = λ q. total_area p (take (m + 1) (drop i bends)) ≡ told (k - 1 + 1) q in
      subst P count (subst Q next (subst R (sym (linked (k - 1) (omega arith))) before))

  pub area_of_slice : (j : ℕ) → i < j → j ≤ length bends → total_area p (slice_range bends i j) ≡ told j (get_or bends (j - 1) no_bend).end
  area_of_slice j above within =
      let all = one_more (j - 1 - i) (j - 1) (omega arith) (omega arith) (so_far (j - 1 - i) (j - 1) (omega arith) (omega arith)) in
      let count : j - 1 - i + 1 ≡ j - i = omega arith in
      let last : j - 1 + 1 ≡ j = omega arith in
      let P : ℕ → Type 0 = λ n. total_area p (take n (drop i bends)) ≡ told j (get_or bends (j - 1) no_bend).end in
      let Q : ℕ → Type 0 = λ n. total_area p (take (j - 1 - i + 1) (drop i bends)) ≡ told n (get_or bends (j - 1) no_bend).end in
      subst P count (subst Q last all)

-- the area of a run by prefix sums
pub area_told : (bends : List Bend) → AreLinked bends → (i j : ℕ) → i < j → j ≤ length bends → area_at (slice_range bends i j)
    ≡ (area_up_to bends j -ℤ area_up_to bends i)
    -ℤ pos 10 *ℤ vector_cross (way_of origin (get_or bends i no_bend).start) (way_of origin (get_or bends (j - 1) no_bend).end)
area_told bends linked i j above within =
    let first : first_bend (slice_range bends i j) ≡ get_or bends i no_bend =
    slice_at bends i j 0 no_bend (omega arith) ∙ ap (λ n. get_or bends n no_bend) (omega arith) in
    ap (λ b. total_area b.start (slice_range bends i j)) first ∙ area_of_slice bends linked i (get_or bends i no_bend).start refl j above within

-- the list of prefix sums has one more entry than there are bends, and each entry is the sum it should be
pub areas_length : (bends : List Bend) (areas : List ℤ) → areas ≡ areas_of bends → length areas ≡ length bends + 1
areas_length bends areas is = ap length is ∙ length-map-range_with_len (area_up_to bends) 0 (length bends + 1)

pub area_read : (bends : List Bend) (areas : List ℤ) → areas ≡ areas_of bends → (k : ℕ) → k ≤ length bends → (z : ℤ) → z ≡ get_or areas k z → z ≡ area_up_to bends k
area_read bends areas is k within z e =
    get_or_read areas k z (omega (arith, areas_length bends areas is)) e (pos 0) ∙ ap (λ l. get_or l k (pos 0)) is
    ∙ get_or-map-range_with_len (area_up_to bends) 0 (length bends + 1) k k (pos 0) (omega arith) (omega arith)

module _ (bends : List Bend) (linked : AreLinked bends) (small : All IsWorkable bends) (most : length bends ≤ 2 ^ 31)
    (i j : ℕ) (x y t : ℤ) (ex : x ≡ area_up_to bends j) (ey : y ≡ area_up_to bends i) (ht : unsigned_abs t ≤ 10 * 2 ^ 58) where
  x_small : unsigned_abs x ≤ 2 ^ 94
  x_small = rw ex (up_to_most bends j small most)

  y_small : unsigned_abs y ≤ 2 ^ 94
  y_small = rw ey (up_to_most bends i small most)

  between_small : unsigned_abs (x -ℤ y) ≤ 2 ^ 100
  between_small = omega (arith, difference_most x y (2 ^ 94) (2 ^ 94) x_small y_small)

  all_small : unsigned_abs ((x -ℤ y) -ℤ t) < 2 ^ 127
  all_small = omega (arith, difference_most (x -ℤ y) t (2 ^ 100) (10 * 2 ^ 58) between_small ht)

  between_is : to_z w128 (of_z w128 (to_z w128 (of_z w128 x) -ℤ to_z w128 (of_z w128 y))) ≡ x -ℤ y
  between_is = difference_is x y (omega (arith, x_small)) (omega (arith, y_small))

  pub between_fits : FitsSigned w128 (to_z w128 (of_z w128 x) -ℤ to_z w128 (of_z w128 y))
  between_fits = difference_fits x y (omega (arith, x_small)) (omega (arith, y_small))

  pub area_fits_too : FitsSigned w128 (to_z w128 (of_z w128 (to_z w128 (of_z w128 x) -ℤ to_z w128 (of_z w128 y))) -ℤ to_z w128 (of_z w128 t))
  area_fits_too = rw (between_is, long_back t (omega arith)) (fits_signed_from_abs w128 ((x -ℤ y) -ℤ t) all_small)

  pub area_worked : i < j → j ≤ length bends
      → t ≡ pos 10 *ℤ vector_cross (way_of origin (get_or bends i no_bend).start) (way_of origin (get_or bends (j - 1) no_bend).end)
      → to_z w128 (of_z w128 (to_z w128 (of_z w128 (to_z w128 (of_z w128 x) -ℤ to_z w128 (of_z w128 y))) -ℤ to_z w128 (of_z w128 t))) ≡ area_at (slice_range bends i j)
  area_worked above within et =
      rw (between_is, long_back t (omega arith), long_back ((x -ℤ y) -ℤ t) all_small) (
      ap (λ z. (z -ℤ y) -ℤ t) ex ∙ ap (λ z. (area_up_to bends j -ℤ z) -ℤ t) ey ∙ ap (λ z. (area_up_to bends j -ℤ area_up_to bends i) -ℤ z) et
      ∙ sym (area_told bends linked i j above within)
      )

-- each piece of an outline starts at the end of the one before
pub linked_there : (o : Outline) → 2 ≤ length o.pieces → AreLinked (bends_of o)
linked_there o some k h =
    let all = length-bends_of o in
    let count : k + 1 + (length o.pieces - 1) ≡ k + length o.pieces = omega arith in
    let round : (k + 1 + (length o.pieces - 1)) % length o.pieces ≡ k % length o.pieces =
    ap (λ n. n % length o.pieces) count ∙ add-mod_right k (length o.pieces) in
    ap (λ b. b.start) (bends_at o (k + 1) (omega arith))
    ∙ ap (λ n. end_of (slice_index_or o.pieces n (Corner origin origin))) round
    ∙ sym (ap (λ b. b.end) (bends_at o k (omega arith)))

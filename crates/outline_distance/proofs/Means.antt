-- Means of places that are almost on a page are so too.
use Rattle.std.proofs.Common.{◌≡◌, ℕ, ◌+◌, ◌-◌, ◌*◌, ℤ, pos, negsuc, ◌+ℤ◌, ◌-ℤ◌, ◌*ℤ◌, ◌≤ℤ◌, List, [], ◌∷◌, All, ap, ◌∙◌, subst, arith}
use Rattle.std.proofs.lemmas.Int.{ints}
use Rattle.std.proofs.lemmas.List.Elements.{All-nil, All-cons, All-head, All-tail, All-append}
use Rattle.pt_core.specs.ClosedWalk.{origin}
use Rattle.pt_core.specs.Floor.{floor_of}
use Rattle.pt_core.specs.Outlines.{end_of, start_from}
use Rattle.pt_core.specs.declared.piece.Piece.{Piece}
use Rattle.pt_core.specs.declared.piece.Piece.TheVariants.{Corner, Curve}
use Rattle.pt_core.specs.declared.point.Point.{Point}
use Rattle.pt_core.proofs.Terms.{same_value}
use Rattle.pt_core.proofs.Terms.Term.{num, plus, less, times}
use Rattle.dxf_geojson.specs.Chords.{chord_points, curve_point, curve_points, mean_of, piece_points, points_from}
use Rattle.path_cones.proofs.Signs.{product_at_least}
use Rattle.outline_distance.specs.Curves.{curve_place}
use Rattle.outline_distance.specs.Distance.{divided}
use Rattle.outline_distance.specs.Pages.{IsAlmostOn, IsAlmostOnPage, OfPoints}

above_low : (i j k l most : ℕ) (a b c d : ℤ)
    → ((pos i *ℤ (a +ℤ pos most) +ℤ pos j *ℤ (b +ℤ pos most)) +ℤ pos k *ℤ (c +ℤ pos most)) +ℤ pos l *ℤ (d +ℤ pos most)
    ≡ (((pos i *ℤ a +ℤ pos j *ℤ b) +ℤ pos k *ℤ c) +ℤ pos l *ℤ d) +ℤ pos ((((i + j) + k) + l) * most)
above_low i j k l most a b c d = same_value
    (plus (plus (plus (times (num (pos i)) (plus (num a) (num (pos most)))) (times (num (pos j)) (plus (num b) (num (pos most)))))
    (times (num (pos k)) (plus (num c) (num (pos most))))) (times (num (pos l)) (plus (num d) (num (pos most)))))
    (plus (plus (plus (plus (times (num (pos i)) (num a)) (times (num (pos j)) (num b))) (times (num (pos k)) (num c))) (times (num (pos l)) (num d)))
    (num (pos ((((i + j) + k) + l) * most))))
    (omega arith)

below_high : (i j k l high : ℕ) (a b c d : ℤ)
    → ((pos i *ℤ (pos high -ℤ a) +ℤ pos j *ℤ (pos high -ℤ b)) +ℤ pos k *ℤ (pos high -ℤ c)) +ℤ pos l *ℤ (pos high -ℤ d)
    ≡ pos ((((i + j) + k) + l) * high) -ℤ (((pos i *ℤ a +ℤ pos j *ℤ b) +ℤ pos k *ℤ c) +ℤ pos l *ℤ d)
below_high i j k l high a b c d = same_value
    (plus (plus (plus (times (num (pos i)) (less (num (pos high)) (num a))) (times (num (pos j)) (less (num (pos high)) (num b))))
    (times (num (pos k)) (less (num (pos high)) (num c)))) (times (num (pos l)) (less (num (pos high)) (num d))))
    (less (num (pos ((((i + j) + k) + l) * high)))
    (plus (plus (plus (times (num (pos i)) (num a)) (times (num (pos j)) (num b))) (times (num (pos k)) (num c))) (times (num (pos l)) (num d))))
    (omega arith)

four_sums : (w x y z : ℤ) → pos 0 ≤ℤ w → pos 0 ≤ℤ x → pos 0 ≤ℤ y → pos 0 ≤ℤ z → pos 0 ≤ℤ (((w +ℤ x) +ℤ y) +ℤ z)
four_sums w x y z f g h k = omega (arith, ints)

not_below : (c : ℤ) (n : ℕ) → c ≤ℤ pos n → pos 0 ≤ℤ (pos n -ℤ c)
not_below c n h = omega (arith, ints)

not_above : (z : ℤ) (n m : ℕ) → n ≡ m → pos 0 ≤ℤ (pos n -ℤ z) → z ≤ℤ pos m
not_above z n m e h = omega (arith, ints)

weight_least : (n : ℕ) → pos 0 ≤ℤ pos n
weight_least n = omega (arith, ints)

spread_side : (n side most : ℕ) → n * (1024 * side + most) ≡ 1024 * (n * side) + n * most
spread_side n side most = omega arith

module _ (i j k l n most side : ℕ) (a b c d : ℤ) (whole : ((i + j) + k) + l ≡ n)
    (first : IsAlmostOn most side a) (second : IsAlmostOn most side b) (third : IsAlmostOn most side c) (last : IsAlmostOn most side d) where
  mean_low : pos 0 ≤ℤ ((((pos i *ℤ a +ℤ pos j *ℤ b) +ℤ pos k *ℤ c) +ℤ pos l *ℤ d) +ℤ pos (n * most))
  mean_low =
      let P : ℕ → Type 0 = λ m. pos 0 ≤ℤ ((((pos i *ℤ a +ℤ pos j *ℤ b) +ℤ pos k *ℤ c) +ℤ pos l *ℤ d) +ℤ pos (m * most)) in
      let Q : ℤ → Type 0 = λ z. pos 0 ≤ℤ z in
      subst P whole (subst Q (above_low i j k l most a b c d) (four_sums
      (pos i *ℤ (a +ℤ pos most)) (pos j *ℤ (b +ℤ pos most)) (pos k *ℤ (c +ℤ pos most)) (pos l *ℤ (d +ℤ pos most))
      (product_at_least (pos i) (a +ℤ pos most) (weight_least i) first.low)
      (product_at_least (pos j) (b +ℤ pos most) (weight_least j) second.low)
      (product_at_least (pos k) (c +ℤ pos most) (weight_least k) third.low)
      (product_at_least (pos l) (d +ℤ pos most) (weight_least l) last.low)))

  mean_high : (((pos i *ℤ a +ℤ pos j *ℤ b) +ℤ pos k *ℤ c) +ℤ pos l *ℤ d) ≤ℤ pos (1024 * (n * side) + n * most)
  mean_high =
      let Q : ℤ → Type 0 = λ z. pos 0 ≤ℤ z in
      let sum = subst Q (below_high i j k l (1024 * side + most) a b c d) (four_sums
      (pos i *ℤ (pos (1024 * side + most) -ℤ a)) (pos j *ℤ (pos (1024 * side + most) -ℤ b)) (pos k *ℤ (pos (1024 * side + most) -ℤ c)) (pos l *ℤ (pos (1024 * side + most) -ℤ d))
      (product_at_least (pos i) (pos (1024 * side + most) -ℤ a) (weight_least i) (not_below a (1024 * side + most) first.high))
      (product_at_least (pos j) (pos (1024 * side + most) -ℤ b) (weight_least j) (not_below b (1024 * side + most) second.high))
      (product_at_least (pos k) (pos (1024 * side + most) -ℤ c) (weight_least k) (not_below c (1024 * side + most) third.high))
      (product_at_least (pos l) (pos (1024 * side + most) -ℤ d) (weight_least l) (not_below d (1024 * side + most) last.high))) in
      let scaled : (((i + j) + k) + l) * (1024 * side + most) ≡ n * (1024 * side + most) = ap (λ m. m * (1024 * side + most)) whole in
      not_above (((pos i *ℤ a +ℤ pos j *ℤ b) +ℤ pos k *ℤ c) +ℤ pos l *ℤ d) ((((i + j) + k) + l) * (1024 * side + most)) (1024 * (n * side) + n * most)
      (scaled ∙ spread_side n side most) sum

  mean_on : IsAlmostOn (n * most) (n * side) (((pos i *ℤ a +ℤ pos j *ℤ b) +ℤ pos k *ℤ c) +ℤ pos l *ℤ d)
  mean_on = record { low = mean_low; high = mean_high }

-- the weights of Bernstein's polynomials come to the cube
cube : (r p : ℕ) → ((r * r * r + 3 * p * r * r) + 3 * p * p * r) + p * p * p ≡ (r + p) * (r + p) * (r + p)
cube r p = omega arith

pub curve_on : (most width height before after : ℕ) (start first second end : Point)
    → IsAlmostOnPage most width height start → IsAlmostOnPage most width height first → IsAlmostOnPage most width height second → IsAlmostOnPage most width height end
    → let n = (before + after) * (before + after) * (before + after) in
    IsAlmostOnPage (n * most) (n * width) (n * height) (curve_place before after start first second end)
curve_on most width height r p start first second end on_start on_first on_second on_end =
    let n : ℕ = (r + p) * (r + p) * (r + p) in
    record {
      x = mean_on (r * r * r) (3 * p * r * r) (3 * p * p * r) (p * p * p) n most width start.x first.x second.x end.x (cube r p) on_start.x on_first.x on_second.x on_end.x;
      y = mean_on (r * r * r) (3 * p * r * r) (3 * p * p * r) (p * p * p) n most height start.y first.y second.y end.y (cube r p) on_start.y on_first.y on_second.y on_end.y;
    }

no_weight : (r p : ℕ) (a b : ℤ) → ((pos r *ℤ a +ℤ pos p *ℤ b) +ℤ pos 0 *ℤ b) +ℤ pos 0 *ℤ b ≡ pos r *ℤ a +ℤ pos p *ℤ b
no_weight r p a b = same_value
    (plus (plus (plus (times (num (pos r)) (num a)) (times (num (pos p)) (num b))) (times (num (pos 0)) (num b))) (times (num (pos 0)) (num b)))
    (plus (times (num (pos r)) (num a)) (times (num (pos p)) (num b)))
    (omega arith)

two_on : (r p most side : ℕ) (a b : ℤ) → IsAlmostOn most side a → IsAlmostOn most side b
    → IsAlmostOn ((r + p) * most) ((r + p) * side) (pos r *ℤ a +ℤ pos p *ℤ b)
two_on r p most side a b first second =
    let P : ℤ → Type 0 = IsAlmostOn ((r + p) * most) ((r + p) * side) in
    subst P (no_weight r p a b) (mean_on r p 0 0 (r + p) most side a b b b (omega arith) first second second second)

pub line_on : (most width height before after : ℕ) (from to : Point) → IsAlmostOnPage most width height from → IsAlmostOnPage most width height to
    → IsAlmostOnPage ((before + after) * most) ((before + after) * width) ((before + after) * height) (divided before after from to)
line_on most width height r p from to on_from on_to = record {
  x = two_on r p most width from.x to.x on_from.x on_to.x;
  y = two_on r p most height from.y to.y on_from.y on_to.y;
}

-- ---- chords

floor_on : (most side : ℕ) (z : ℤ) → IsAlmostOn (512 * most) (512 * side) z → IsAlmostOn most side (floor_of z 512)
floor_on most side (pos a) on = (let low = on.low in let high = on.high in record { low = omega (arith, ints); high = omega (arith, ints) })
floor_on most side (negsuc a) on = (let low = on.low in let high = on.high in record { low = omega (arith, ints); high = omega (arith, ints) })

module _ (most width height : ℕ) where
  rounded_mean_on : (i j k l side : ℕ) (a b c d : ℤ) → ((i + j) + k) + l ≡ 512 → IsAlmostOn most side a → IsAlmostOn most side b → IsAlmostOn most side c → IsAlmostOn most side d
      → IsAlmostOn most side (mean_of i j k l a b c d)
  rounded_mean_on i j k l side a b c d whole on_a on_b on_c on_d =
      floor_on most side _ (mean_on i j k l 512 most side a b c d whole on_a on_b on_c on_d)

  chord_point_on : (k : ℕ) (start first second end : Point)
      → (((8 - k) * (8 - k) * (8 - k) + 3 * k * (8 - k) * (8 - k)) + 3 * k * k * (8 - k)) + k * k * k ≡ 512
      → IsAlmostOnPage most width height start → IsAlmostOnPage most width height first → IsAlmostOnPage most width height second → IsAlmostOnPage most width height end
      → IsAlmostOnPage most width height (curve_point start first second end k)
  chord_point_on k start first second end whole on_start on_first on_second on_end = record {
    x = rounded_mean_on ((8 - k) * (8 - k) * (8 - k)) (3 * k * (8 - k) * (8 - k)) (3 * k * k * (8 - k)) (k * k * k) width
        start.x first.x second.x end.x whole on_start.x on_first.x on_second.x on_end.x;
    y = rounded_mean_on ((8 - k) * (8 - k) * (8 - k)) (3 * k * (8 - k) * (8 - k)) (3 * k * k * (8 - k)) (k * k * k) height
        start.y first.y second.y end.y whole on_start.y on_first.y on_second.y on_end.y;
  }

  curve_points_on : (start first second end : Point)
      → IsAlmostOnPage most width height start → IsAlmostOnPage most width height first → IsAlmostOnPage most width height second → IsAlmostOnPage most width height end
      → All (IsAlmostOnPage most width height) (curve_points start first second end)
  curve_points_on start first second end on_start on_first on_second on_end =
      let P : Point → Type 0 = IsAlmostOnPage most width height in
      let c : ℕ → Point = curve_point start first second end in
      let at : (k : ℕ) → (((8 - k) * (8 - k) * (8 - k) + 3 * k * (8 - k) * (8 - k)) + 3 * k * k * (8 - k)) + k * k * k ≡ 512 → P (curve_point start first second end k) =
      λ k whole. chord_point_on k start first second end whole on_start on_first on_second on_end in
      All-cons P (c 1) (c 2 ∷ c 3 ∷ c 4 ∷ c 5 ∷ c 6 ∷ c 7 ∷ c 8 ∷ []) (at 1 (omega arith))
      (All-cons P (c 2) (c 3 ∷ c 4 ∷ c 5 ∷ c 6 ∷ c 7 ∷ c 8 ∷ []) (at 2 (omega arith))
      (All-cons P (c 3) (c 4 ∷ c 5 ∷ c 6 ∷ c 7 ∷ c 8 ∷ []) (at 3 (omega arith))
      (All-cons P (c 4) (c 5 ∷ c 6 ∷ c 7 ∷ c 8 ∷ []) (at 4 (omega arith))
      (All-cons P (c 5) (c 6 ∷ c 7 ∷ c 8 ∷ []) (at 5 (omega arith))
      (All-cons P (c 6) (c 7 ∷ c 8 ∷ []) (at 6 (omega arith))
      (All-cons P (c 7) (c 8 ∷ []) (at 7 (omega arith))
      (All-cons P (c 8) [] (at 8 (omega arith)) (All-nil P))))))))

  piece_points_on : (from : Point) (piece : Piece) → IsAlmostOnPage most width height from → OfPoints (IsAlmostOnPage most width height) piece
      → All (IsAlmostOnPage most width height) (piece_points from piece)
  piece_points_on from (Corner at end) on is =
      let P : Point → Type 0 = IsAlmostOnPage most width height in
      All-cons P at (end ∷ []) is.0 (All-cons P end [] is.1 (All-nil P))
  piece_points_on from (Curve first second end al) on is = curve_points_on from first second end on is.0 is.1 is.2

  end_on : (piece : Piece) → OfPoints (IsAlmostOnPage most width height) piece → IsAlmostOnPage most width height (end_of piece)
  end_on (Corner at end) is = is.1
  end_on (Curve first second end al) is = is.2

  points_on : (from : Point) (pieces : List Piece) → IsAlmostOnPage most width height from → All (OfPoints (IsAlmostOnPage most width height)) pieces
      → All (IsAlmostOnPage most width height) (points_from from pieces)
  points_on from [] on are = All-nil (IsAlmostOnPage most width height)
  points_on from (piece ∷ pieces) on are =
      let here = All-head (OfPoints (IsAlmostOnPage most width height)) piece pieces are in
      All-append (IsAlmostOnPage most width height) (piece_points from piece) (points_from (end_of piece) pieces) (piece_points_on from piece on here)
      (points_on (end_of piece) pieces (end_on piece here) (All-tail (OfPoints (IsAlmostOnPage most width height)) piece pieces are))

  start_on : (start : Point) (pieces : List Piece) → IsAlmostOnPage most width height start → All (OfPoints (IsAlmostOnPage most width height)) pieces
      → IsAlmostOnPage most width height (start_from start pieces)
  start_on start [] on are = on
  start_on start (piece ∷ pieces) on are =
      start_on (end_of piece) pieces (end_on piece (All-head (OfPoints (IsAlmostOnPage most width height)) piece pieces are))
      (All-tail (OfPoints (IsAlmostOnPage most width height)) piece pieces are)

  zero_on : (side : ℕ) → IsAlmostOn most side (pos 0)
  zero_on side = record { low = omega (arith, ints); high = omega (arith, ints) }

  pub origin_on : IsAlmostOnPage most width height origin
  origin_on = record { x = zero_on width; y = zero_on height }

  -- an outline's chords run between such points
  pub chords_on : (pieces : List Piece) → All (OfPoints (IsAlmostOnPage most width height)) pieces → All (IsAlmostOnPage most width height) (chord_points pieces)
  chords_on pieces are =
      let start = start_on origin pieces origin_on are in
      All-cons (IsAlmostOnPage most width height) (start_from origin pieces) (points_from (start_from origin pieces) pieces) start
      (points_on (start_from origin pieces) pieces start are)

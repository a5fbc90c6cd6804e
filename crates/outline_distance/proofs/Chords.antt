-- A curve and its chords: how far they are apart is a weighted sum of its second differences.
use Rattle.std.proofs.Common.{◌≡◌, ℕ, ◌+◌, ◌*◌, ◌-◌, ◌<◌, ◌≤◌, zero, suc, ℤ, pos, negsuc, ◌+ℤ◌, ◌-ℤ◌, ◌*ℤ◌, neg_ℤ, sym, subst, ap, arith}
use Rattle.std.proofs.lemmas.Int.{ints}
use Rattle.std.proofs.lemmas.Nat.{mul-le}
use Rattle.std.specs.Prelude.{unsigned_abs}
use borrow.Author.Differences.{up, down}
use Rattle.pt_core.specs.declared.point.Point.{Point}
use Rattle.pt_core.proofs.Sizes.{product_most}
use Rattle.pt_core.proofs.Terms.{Term, same_value}
use Rattle.pt_core.proofs.Terms.Term.{num, plus, less, times, opposite}
use Rattle.pt_core.specs.Floor.{floor_of}
use Rattle.dxf_geojson.specs.Chords.{curve_point}
use Rattle.outline_distance.specs.Curves.{BendsBy, curve_coordinate, curve_place, second_difference}
use Rattle.outline_distance.specs.Distance.{IsCloseTo, divided, multiple}

-- the weights of a curve's four points, where its parameter divides as T to S
start_weights : (p q r k : ℕ) → let S = p * (r + 1) + q * r in
    S * S * S + p * q * ((2 * r + 1) * (p + q) + S)
    ≡ (p + q) * (p + q) * (p * ((r + 1) * (r + 1) * (r + 1)) + q * (r * r * r))
start_weights p q r k = omega arith

first_weights : (p q r k : ℕ) → let S = p * (r + 1) + q * r in let T = p * k + q * (k + 1) in
    3 * T * S * S + p * q * ((2 * k + 1) * (p + q) + T)
    ≡ (p + q) * (p + q) * (p * (3 * k * (r + 1) * (r + 1)) + q * (3 * (k + 1) * r * r)) + 2 * (p * q * ((2 * r + 1) * (p + q) + S))
first_weights p q r k = omega arith

second_weights : (p q r k : ℕ) → let S = p * (r + 1) + q * r in let T = p * k + q * (k + 1) in
    3 * T * T * S + p * q * ((2 * r + 1) * (p + q) + S)
    ≡ (p + q) * (p + q) * (p * (3 * k * k * (r + 1)) + q * (3 * (k + 1) * (k + 1) * r)) + 2 * (p * q * ((2 * k + 1) * (p + q) + T))
second_weights p q r k = omega arith

end_weights : (p q r k : ℕ) → let T = p * k + q * (k + 1) in
    T * T * T + p * q * ((2 * k + 1) * (p + q) + T)
    ≡ (p + q) * (p + q) * (p * (k * k * k) + q * ((k + 1) * (k + 1) * (k + 1)))
end_weights p q r k = omega arith

four : ℕ → ℕ → ℕ → ℕ → ℤ → ℤ → ℤ → ℤ → Term
four i j k l a b c d = plus (plus (plus (times (num (pos i)) (num a)) (times (num (pos j)) (num b))) (times (num (pos k)) (num c))) (times (num (pos l)) (num d))

bent : ℤ → ℤ → ℤ → Term
bent a b c = plus (less (num a) (times (num (pos 2)) (num b))) (num c)

-- what such weights leave is a weighted sum of the second differences
left : (i j k l e f g h e' f' g' h' m p q x y : ℕ) (a b c d : ℤ)
    → i + x ≡ m * (p * e + q * e') → j + y ≡ m * (p * f + q * f') + 2 * x
    → k + x ≡ m * (p * g + q * g') + 2 * y → l + y ≡ m * (p * h + q * h')
    → (((pos i *ℤ a +ℤ pos j *ℤ b) +ℤ pos k *ℤ c) +ℤ pos l *ℤ d)
    -ℤ pos m *ℤ (pos p *ℤ (((pos e *ℤ a +ℤ pos f *ℤ b) +ℤ pos g *ℤ c) +ℤ pos h *ℤ d)
    +ℤ pos q *ℤ (((pos e' *ℤ a +ℤ pos f' *ℤ b) +ℤ pos g' *ℤ c) +ℤ pos h' *ℤ d))
    ≡ neg_ℤ (pos x *ℤ second_difference a b c +ℤ pos y *ℤ second_difference b c d)
unfolding four bent
left i j k l e f g h e' f' g' h' m p q x y a b c d s t u v = same_value
    (less (four i j k l a b c d) (times (num (pos m)) (plus (times (num (pos p)) (four e f g h a b c d)) (times (num (pos q)) (four e' f' g' h' a b c d)))))
    (opposite (plus (times (num (pos x)) (bent a b c)) (times (num (pos y)) (bent b c d))))
    (omega (
      arith,
      ap (λ n. n * up a) s,
      ap (λ n. n * down a) s,
      ap (λ n. n * up b) t,
      ap (λ n. n * down b) t,
      ap (λ n. n * up c) u,
      ap (λ n. n * down c) u,
      ap (λ n. n * up d) v,
      ap (λ n. n * down d) v,
    ))

size : (s t : ℤ) (k l : ℕ) → unsigned_abs s ≤ k → unsigned_abs t ≤ l → unsigned_abs (neg_ℤ (s +ℤ t)) ≤ k + l
size s t k l f g = omega (arith, ints)

weights_together : (p q r k most : ℕ) → r + k ≡ 7
    → p * q * ((2 * r + 1) * (p + q) + (p * (r + 1) + q * r)) * most + p * q * ((2 * k + 1) * (p + q) + (p * k + q * (k + 1))) * most
    ≡ 24 * (p * q * (p + q)) * most
weights_together p q r k most seven =
    let e = ap (λ n. n * (p * q * p * most)) seven in
    let f = ap (λ n. n * (p * q * q * most)) seven in
    omega (arith, e, f)

-- four times a product is no greater than the square of the sum
products_most : (p q : ℕ) → 4 * (p * q) ≤ (p + q) * (p + q)
products_most zero q = omega arith
products_most (suc p) zero = omega arith
products_most (suc p) (suc q) = omega (arith, products_most p q)

at_most : (p q most : ℕ) → 24 * (p * q * (p + q)) * most ≤ 6 * ((p + q) * (p + q) * (p + q)) * most
at_most p q most =
    let h = mul-le (4 * (p * q)) (6 * (p + q) * most) ((p + q) * (p + q)) (6 * (p + q) * most) (products_most p q) (omega arith) in
    omega (arith, h)

-- of one coordinate
pub coordinate_passes : (p q r k most : ℕ) (a b c d : ℤ) → r + k ≡ 7
    → unsigned_abs (second_difference a b c) ≤ most → unsigned_abs (second_difference b c d) ≤ most
    → unsigned_abs (curve_coordinate (p * (r + 1) + q * r) (p * k + q * (k + 1)) a b c d
    -ℤ pos ((p + q) * (p + q)) *ℤ (pos p *ℤ curve_coordinate (r + 1) k a b c d +ℤ pos q *ℤ curve_coordinate r (k + 1) a b c d))
    ≤ 6 * ((p + q) * (p + q) * (p + q)) * most
coordinate_passes p q r k most a b c d seven h l =
    let S : ℕ = p * (r + 1) + q * r in
    let T : ℕ = p * k + q * (k + 1) in
    let x : ℕ = p * q * ((2 * r + 1) * (p + q) + S) in
    let y : ℕ = p * q * ((2 * k + 1) * (p + q) + T) in
    let same = left (S * S * S) (3 * T * S * S) (3 * T * T * S) (T * T * T)
    ((r + 1) * (r + 1) * (r + 1)) (3 * k * (r + 1) * (r + 1)) (3 * k * k * (r + 1)) (k * k * k)
    (r * r * r) (3 * (k + 1) * r * r) (3 * (k + 1) * (k + 1) * r) ((k + 1) * (k + 1) * (k + 1))
    ((p + q) * (p + q)) p q x y a b c d
    (start_weights p q r k) (first_weights p q r k) (second_weights p q r k) (end_weights p q r k) in
    let P : ℤ → Type 0 = λ z. unsigned_abs z ≤ x * most + y * most in
    let small = subst P (sym same) (size (pos x *ℤ second_difference a b c) (pos y *ℤ second_difference b c d) (x * most) (y * most)
    (product_most (pos x) (second_difference a b c) x most (omega arith) h) (product_most (pos y) (second_difference b c d) y most (omega arith) l)) in
    let all : x * most + y * most ≡ 24 * (p * q * (p + q)) * most = weights_together p q r k most seven in
    omega (arith, small, all, at_most p q most)

-- a chord passes each place of its curve
pub chord_passes : (start first second end : Point) (most k before after : ℕ) → k < 8 → BendsBy most start first second end
    → IsCloseTo (6 * ((before + after) * (before + after) * (before + after)) * most)
    (multiple ((before + after) * (before + after)) (divided before after
    (curve_place (8 - k) k start first second end) (curve_place (7 - k) (k + 1) start first second end)))
    (curve_place (before * (8 - k) + after * (7 - k)) (before * k + after * (k + 1)) start first second end)
chord_passes start first second end most k p q small bends =
    let seven : (7 - k) + k ≡ 7 = omega arith in
    let eight : (7 - k) + 1 ≡ 8 - k = omega arith in
    let P : ℕ → Type 0 = λ s. IsCloseTo (6 * ((p + q) * (p + q) * (p + q)) * most)
    (multiple ((p + q) * (p + q)) (divided p q (curve_place s k start first second end) (curve_place (7 - k) (k + 1) start first second end)))
    (curve_place (p * s + q * (7 - k)) (p * k + q * (k + 1)) start first second end) in
    subst P eight (record {
      x = coordinate_passes p q (7 - k) k most start.x first.x second.x end.x seven bends.in_x.0 bends.in_x.1;
      y = coordinate_passes p q (7 - k) k most start.y first.y second.y end.y seven bends.in_y.0 bends.in_y.1;
    })

floor_close : (z : ℤ) → unsigned_abs (z -ℤ pos 512 *ℤ floor_of z 512) ≤ 512
floor_close (pos a) = omega (arith, ints)
floor_close (negsuc a) = omega (arith, ints)

-- a point that is written for a curve
pub chord_point_close : (start first second end : Point) (k : ℕ)
    → IsCloseTo 512 (multiple 512 (curve_point start first second end k)) (curve_place (8 - k) k start first second end)
chord_point_close start first second end k = record {
  x = floor_close (curve_coordinate (8 - k) k start.x first.x second.x end.x);
  y = floor_close (curve_coordinate (8 - k) k start.y first.y second.y end.y);
}

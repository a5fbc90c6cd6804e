-- What a bound rests on: the squared cross products with a chord, and the squares along a diagonal.
use Rattle.std.proofs.Common.{◌≡◌, ℕ, ◌+◌, ◌*◌, ◌<◌, ◌≤◌, inl, inr, ◌⊎◌, ℤ, pos, negsuc, ◌+ℤ◌, ◌-ℤ◌, ◌*ℤ◌, ◌≤ℤ◌, sym, ap, ◌∙◌, arith}
use Rattle.std.proofs.Math.Nat.{le_of_mul-le-mul_left, mul-le-mul_left}
use Rattle.std.proofs.lemmas.Int.{ints}
use Rattle.std.specs.Prelude.{unsigned_abs}
use Rattle.pt_core.proofs.Terms.{Term, num, plus, less, times, same_value}
use Rattle.prefix_moments.specs.Inner.Table.{spread_by}
use Rattle.half_penalties.specs.declared.products.Products.{Products}
use Rattle.half_penalties.specs.Inner.HalfPenalties.{along_of, IsSlant}
use Rattle.half_penalties.specs.Inner.Products.{along_squares_of, determinant_of, AreHalfSums, IsBoundBy, IsShownBound}
use Rattle.half_penalties.proofs.Naturals.{square_is, natural}

-- ---- identities, for either diagonal

abbrev squares_of : ℤ → ℤ → ℤ → ℤ → ℤ
squares_of xx xy yy slant = (xx +ℤ pos 2 *ℤ (slant *ℤ xy)) +ℤ yy

abbrev mixed_of : ℤ → ℤ → ℤ → ℤ
mixed_of xy yy slant = xy +ℤ slant *ℤ yy

-- the sum of the squared cross products, by how far the chord goes along
abbrev form_of : ℤ → ℤ → ℤ → ℤ → ℤ → ℤ → ℤ
form_of xx xy yy slant above along =
    (squares_of xx xy yy slant *ℤ (above *ℤ above) -ℤ pos 2 *ℤ (mixed_of xy yy slant *ℤ (along *ℤ above))) +ℤ yy *ℤ (along *ℤ along)

abbrev spread_term : ℤ → ℤ → ℤ → ℤ → ℤ → Term
spread_term xx xy yy right above =
    let by = λ (a : ℤ) (b : ℤ). times (num a) (num b) in
    plus (less (times (by above above) (num xx)) (times (num (pos 2)) (times (by right above) (num xy)))) (times (by right right) (num yy))

abbrev squares_term : ℤ → ℤ → ℤ → Term → Term
squares_term xx xy yy slant = plus (plus (num xx) (times (num (pos 2)) (times slant (num xy)))) (num yy)

abbrev mixed_term : ℤ → ℤ → Term → Term
mixed_term xy yy slant = plus (num xy) (times slant (num yy))

abbrev form_term : ℤ → ℤ → ℤ → Term → ℤ → Term → Term
form_term xx xy yy slant above along =
    plus
    (less (times (squares_term xx xy yy slant) (times (num above) (num above)))
    (times (num (pos 2)) (times (mixed_term xy yy slant) (times along (num above)))))
    (times (num yy) (times along along))

-- rightwards and upwards
spread_rising : (xx xy yy right above : ℤ) → spread_by xx xy yy right above ≡ form_of xx xy yy (pos 1) above (along_of (pos 1) right above)
spread_rising xx xy yy right above =
    let slant = num (pos 1) in
    let along = plus (num right) (times slant (num above)) in
    same_value (spread_term xx xy yy right above) (form_term xx xy yy slant above along) (omega arith)

determinant_rising : (xx xy yy : ℤ) → xx *ℤ yy -ℤ xy *ℤ xy ≡ squares_of xx xy yy (pos 1) *ℤ yy -ℤ mixed_of xy yy (pos 1) *ℤ mixed_of xy yy (pos 1)
determinant_rising xx xy yy =
    let slant = num (pos 1) in
    same_value (less (times (num xx) (num yy)) (times (num xy) (num xy)))
    (less (times (squares_term xx xy yy slant) (num yy)) (times (mixed_term xy yy slant) (mixed_term xy yy slant))) (omega arith)

-- rightwards and downwards
spread_falling : (xx xy yy right above : ℤ) → spread_by xx xy yy right above ≡ form_of xx xy yy (negsuc 0) above (along_of (negsuc 0) right above)
spread_falling xx xy yy right above =
    let slant = num (negsuc 0) in
    let along = plus (num right) (times slant (num above)) in
    same_value (spread_term xx xy yy right above) (form_term xx xy yy slant above along) (omega arith)

determinant_falling : (xx xy yy : ℤ) → xx *ℤ yy -ℤ xy *ℤ xy ≡ squares_of xx xy yy (negsuc 0) *ℤ yy -ℤ mixed_of xy yy (negsuc 0) *ℤ mixed_of xy yy (negsuc 0)
determinant_falling xx xy yy =
    let slant = num (negsuc 0) in
    same_value (less (times (num xx) (num yy)) (times (num xy) (num xy)))
    (less (times (squares_term xx xy yy slant) (num yy)) (times (mixed_term xy yy slant) (mixed_term xy yy slant))) (omega arith)

-- its product with the sum of the squares along
product_is : (squares mixed yy above along : ℤ)
    → squares *ℤ ((squares *ℤ (above *ℤ above) -ℤ pos 2 *ℤ (mixed *ℤ (along *ℤ above))) +ℤ yy *ℤ (along *ℤ along))
    ≡ (along *ℤ along) *ℤ (squares *ℤ yy -ℤ mixed *ℤ mixed) +ℤ (squares *ℤ above -ℤ mixed *ℤ along) *ℤ (squares *ℤ above -ℤ mixed *ℤ along)
product_is squares mixed yy above along =
    let by = λ (a : ℤ) (b : ℤ). times (num a) (num b) in
    let rest = less (by squares above) (by mixed along) in
    same_value
    (times (num squares) (plus (less (times (num squares) (by above above)) (times (num (pos 2)) (times (num mixed) (by along above)))) (times (num yy) (by along along))))
    (plus (times (by along along) (less (by squares yy) (by mixed mixed))) (times rest rest))
    (omega arith)

-- ---- what follows

pub slants : (slant : ℤ) → IsSlant slant → (slant ≡ pos 1) ⊎ (slant ≡ negsuc 0)
slants (pos n) is = inl (ap pos is)
slants (negsuc n) is = inr (ap negsuc (omega (arith, is)))

-- the product is the determinant times the square of how far the chord goes along, and a square more
pub squares_apart : (p : Products) (slant right above : ℤ) → IsSlant slant
    → along_squares_of p slant *ℤ spread_by p.xx p.xy p.yy right above
    ≡ (along_of slant right above *ℤ along_of slant right above) *ℤ determinant_of p
    +ℤ (along_squares_of p slant *ℤ above -ℤ mixed_of p.xy p.yy slant *ℤ along_of slant right above)
    *ℤ (along_squares_of p slant *ℤ above -ℤ mixed_of p.xy p.yy slant *ℤ along_of slant right above)
squares_apart p slant right above is =
    let spread : spread_by p.xx p.xy p.yy right above ≡ form_of p.xx p.xy p.yy slant above (along_of slant right above) =
    elim (slants slant is) [
      | inl e ↦ (rw e (spread_rising p.xx p.xy p.yy right above))
      | inr e ↦ (rw e (spread_falling p.xx p.xy p.yy right above))
    ] in
    let determinant : determinant_of p ≡ squares_of p.xx p.xy p.yy slant *ℤ p.yy -ℤ mixed_of p.xy p.yy slant *ℤ mixed_of p.xy p.yy slant =
    elim (slants slant is) [
      | inl e ↦ (rw e (determinant_rising p.xx p.xy p.yy))
      | inr e ↦ (rw e (determinant_falling p.xx p.xy p.yy))
    ] in
    let along : ℤ = along_of slant right above in
    let rest : ℤ = squares_of p.xx p.xy p.yy slant *ℤ above -ℤ mixed_of p.xy p.yy slant *ℤ along in
    ap (λ z. squares_of p.xx p.xy p.yy slant *ℤ z) spread
    ∙ product_is (squares_of p.xx p.xy p.yy slant) (mixed_of p.xy p.yy slant) p.yy above along
    ∙ ap (λ z. (along *ℤ along) *ℤ z +ℤ rest *ℤ rest) (sym determinant)

-- the same in natural numbers
weighed : (bound weight l t q r : ℕ) (determinant : ℤ) → 0 < l → pos l *ℤ pos t ≡ pos q *ℤ determinant +ℤ pos r
    → (pos bound *ℤ pos l) ≤ℤ (pos weight *ℤ determinant) → bound * q ≤ weight * t
weighed bound weight l t q r (pos d) some e h =
    let product : l * t ≡ q * d + r = omega (arith, ints, e) in
    let less : bound * l ≤ weight * d = omega (arith, ints, h) in
    let times_q : q * (bound * l) ≤ q * (weight * d) = mul-le-mul_left q less in
    let whole : weight * (l * t) ≡ weight * (q * d + r) = ap (λ n. weight * n) product in
    le_of_mul-le-mul_left {k = l} (omega (arith, times_q, whole)) some
weighed bound weight l t q r (negsuc d) some e h =
    let none : bound * l ≤ 0 = omega (arith, ints, h) in
    let zero_bound : bound ≤ 0 = le_of_mul-le-mul_left {k = l} (omega (arith, none)) some in
    let none_here : bound ≡ 0 = omega arith in
    rw none_here (omega arith)

weighed_squares : (bound weight : ℕ) (squares spread along determinant rest : ℤ) → pos 1 ≤ℤ squares → pos 0 ≤ℤ spread
    → squares *ℤ spread ≡ (along *ℤ along) *ℤ determinant +ℤ rest *ℤ rest → (pos bound *ℤ squares) ≤ℤ (pos weight *ℤ determinant)
    → (pos bound *ℤ (along *ℤ along)) ≤ℤ (pos weight *ℤ spread)
weighed_squares bound weight squares spread along determinant rest some at_least apart reached =
    let l : ℕ = unsigned_abs squares in
    let t : ℕ = unsigned_abs spread in
    let q : ℕ = unsigned_abs along * unsigned_abs along in
    let r : ℕ = unsigned_abs rest * unsigned_abs rest in
    let is_l : squares ≡ pos l = natural squares (omega (arith, ints)) in
    let is_t : spread ≡ pos t = natural spread at_least in
    let product : pos l *ℤ pos t ≡ pos q *ℤ determinant +ℤ pos r = rw (is_l, is_t, square_is along, square_is rest) at apart in
    let most = weighed bound weight l t q r determinant (omega (arith, ints)) product (rw is_l at reached) in
    rw (square_is along, is_t) (omega (arith, ints, most))

-- what whole numbers show is a bound
pub bound_shown : (p : Products) (slant : ℤ) (weight bound : ℕ) → AreHalfSums p → IsSlant slant → IsShownBound (determinant_of p) (along_squares_of p slant) weight bound
    → IsBoundBy p slant weight bound
bound_shown p slant weight bound sums is shown = λ right above.
    weighed_squares (bound * bound) (65536 * weight) (along_squares_of p slant) (spread_by p.xx p.xy p.yy right above) (along_of slant right above) (determinant_of p)
    (along_squares_of p slant *ℤ above -ℤ mixed_of p.xy p.yy slant *ℤ along_of slant right above)
    shown.some (sums.squares right above) (squares_apart p slant right above is) shown.reached

-- and so is zero
pub zero_bound : (p : Products) (slant : ℤ) (weight : ℕ) → AreHalfSums p → IsBoundBy p slant weight 0
zero_bound p slant weight sums = λ right above.
    let spread : ℤ = spread_by p.xx p.xy p.yy right above in
    let along : ℤ = along_of slant right above in
    rw (square_is along, natural spread (sums.squares right above)) (omega (arith, ints))

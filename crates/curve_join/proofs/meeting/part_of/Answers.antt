use Rattle.std.proofs.Common.{◌≡◌, ◌≤◌, ◌^◌, ℤ, ◌*ℤ◌, ◌∙◌, ap, w64, to_z, of_z, arith, rules, ℕ, pos, ◌<ℤ◌}
use Rattle.std.proofs.lemmas.Int.{fits_signed_from_abs, to_z-of_z}
use mir.Syntax.{w128}
use Rattle.std.specs.Prelude.{unsigned_abs}
use Rattle.std.specs.Int.RustNames.{FitsSigned}
use Rattle.pt_core.specs.Floor.{floor_of}
use Rattle.curve_join.proofs.Division.{shift_is, short_shift}
use Rattle.curve_join.proofs.Widths.{back, long_back, product_most}
use Rattle.curve_join.proofs.meeting.part_of.Goals as goal

-- a short product fits in 64 bits
short_fits : (t v : ℤ) (n : ℕ) → unsigned_abs t ≤ 2 ^ 58 → unsigned_abs v ≤ 2 ^ 27 → n ≡ unsigned_abs (to_z w64 (of_z w64 t)) → n ≤ 2 ^ 35
    → FitsSigned w64 (to_z w64 (of_z w64 t) *ℤ to_z w64 (of_z w64 v))
short_fits t v n ht hv is few =
    let same = ap unsigned_abs (back t (omega arith)) in
    let most = product_most t v (2 ^ 35) (2 ^ 27) (omega (arith, same, is)) hv in
    rw (back t (omega arith), back v (omega arith)) (fits_signed_from_abs w64 (t *ℤ v) (omega arith))

positive : (b r : ℤ) → FitsSigned w64 b → r ≡ to_z w64 (of_z w64 b) → pos 0 <ℤ b → pos 0 <ℤ to_z w128 (of_z w128 r)
positive b r fits is some = rw (is, to_z-of_z w64 b fits, to_z-of_z w128 b (let h = fits in search rules)) some

-- the computation in 64 bits
short : (c : goal.After-from) → (to_z w128 (of_z w128 c.from.result) ≡ floor_of (c.args.top *ℤ c.args.way) (unsigned_abs c.args.bottom)) × (unsigned_abs (to_z w128 (of_z w128 c.from.result)) ≤ 2 ^ 85)
short c =
    let fits : FitsSigned w64 c.args.bottom = search rules in
    let r : FitsSigned w64 c.div_euclid.result = search rules in
    let same = ap unsigned_abs (back c.args.top (let h = c.requires.top in omega arith)) in
    let few : unsigned_abs c.args.top ≤ 2 ^ 35 = omega (arith, same, c.if-unsigned_abs.true, c.unsigned_abs.ensures.value) in
    short_shift c.args.top c.args.way c.args.bottom c.div_euclid.result c.from.result
    (record { top = few; way = c.requires.way; some = c.requires.some; fits = fits }) r c.div_euclid.ensures c.from.ensures

pub returns-then-unsigned_abs-clause-value : goal.returns-then-unsigned_abs-clause-value
returns-then-unsigned_abs-clause-value c = (short c).0

pub returns-then-unsigned_abs-clause-most : goal.returns-then-unsigned_abs-clause-most
returns-then-unsigned_abs-clause-most c = (short c).1

-- the computation in 128 bits
long : (c : goal.After-div_floor) → (c.div_floor.result ≡ floor_of (c.args.top *ℤ c.args.way) (unsigned_abs c.args.bottom)) × (unsigned_abs c.div_floor.result ≤ 2 ^ 85)
long c =
    let fits : FitsSigned w64 c.args.bottom = search rules in
    shift_is c.args.top c.args.way c.args.bottom c.from-else-unsigned_abs.result c.from-else-unsigned_abs-2.result c.from-else-unsigned_abs-3.result c.div_floor.result
    (record { top = c.requires.top; way = c.requires.way; some = c.requires.some; fits = fits })
    c.from-else-unsigned_abs.ensures c.from-else-unsigned_abs-2.ensures c.from-else-unsigned_abs-3.ensures c.div_floor.ensures.value

pub returns-else-unsigned_abs-clause-value : goal.returns-else-unsigned_abs-clause-value
returns-else-unsigned_abs-clause-value c = long_back c.div_floor.result (let h = (long c).1 in omega arith) ∙ (long c).0

pub returns-else-unsigned_abs-clause-most : goal.returns-else-unsigned_abs-clause-most
returns-else-unsigned_abs-clause-most c = rw (long_back c.div_floor.result (let h = (long c).1 in omega arith)) ((long c).1)

products_fit : (t v p q : ℤ) → unsigned_abs t ≤ 2 ^ 58 → unsigned_abs v ≤ 2 ^ 27 → p ≡ to_z w64 (of_z w64 t) → q ≡ to_z w64 (of_z w64 v)
    → FitsSigned w128 (to_z w128 (of_z w128 p) *ℤ to_z w128 (of_z w128 q))
products_fit t v p q h k e f =
    let most = product_most t v (2 ^ 58) (2 ^ 27) h k in
    rw (e, f, back t (omega arith), back v (omega arith), long_back t (omega arith), long_back v (omega arith)) (fits_signed_from_abs w128 (t *ℤ v) (omega arith))

pub overflow_mul-from : goal.overflow_mul-from
overflow_mul-from c =
    products_fit c.args.top c.args.way c.from-else-unsigned_abs.result c.from-else-unsigned_abs-2.result c.requires.top c.requires.way
    c.from-else-unsigned_abs.ensures c.from-else-unsigned_abs-2.ensures

pub overflow_mul-top : goal.overflow_mul-top
overflow_mul-top c = short_fits c.args.top c.args.way c.unsigned_abs.result c.requires.top c.requires.way c.unsigned_abs.ensures.value c.if-unsigned_abs.true

pub div_floor-requires : goal.div_floor-requires
div_floor-requires c = let fits : FitsSigned w64 c.args.bottom = search rules in
    positive c.args.bottom c.from-else-unsigned_abs-3.result fits c.from-else-unsigned_abs-3.ensures c.requires.some

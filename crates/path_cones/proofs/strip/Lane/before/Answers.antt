use Rattle.std.proofs.Common.{◌≡◌, ◌⊎◌, inl, inr, false, ◌^◌, ◌≤◌, ℤ, pos, neg_ℤ, ◌-ℤ◌, ◌≤ℤ◌, unsigned_abs, FitsSigned, w64, to_z, of_z, refl, arith}
use Rattle.std.proofs.lemmas.Int.{ints}
use Rattle.std.specs.Int.Signed.{lt_z}
use Rattle.pt_core.proofs.Sizes.{back}
use Rattle.path_cones.specs.Inner.Strips.{IsSpan, seen_of}
use Rattle.path_cones.specs.declared.strip.Lane.{Lane}
use Rattle.path_cones.proofs.strip.Lane.before.Goals as goal

one_most : (a b r : ℤ) → unsigned_abs a ≤ 2 ^ 50 → unsigned_abs b ≤ 2 ^ 48 → (r ≡ to_z w64 (of_z w64 a)) ⊎ (r ≡ to_z w64 (of_z w64 b))
    → unsigned_abs r ≤ 2 ^ 50
one_most a b r h k (inl e) = let f = back a (omega arith) in omega (arith, ints)
one_most a b r h k (inr e) = let f = back b (omega arith) in omega (arith, ints)

-- the borders before are small numbers
borders_most : (lane : Lane) → IsSpan (neg_ℤ (pos 131072)) (pos 131072) (seen_of lane) → unsigned_abs lane.here ≤ 2 ^ 48
    → (unsigned_abs lane.across.least ≤ 2 ^ 50) × (unsigned_abs lane.across.greatest ≤ 2 ^ 50)
borders_most lane is from =
    let a = is.least.least in
    let b = is.least.most in
    let d = is.greatest.least in
    let e = is.greatest.most in
    (omega (arith, ints), omega (arith, ints))

width_fits : (l g : ℤ) → unsigned_abs l ≤ 2 ^ 50 → unsigned_abs g ≤ 2 ^ 50 → FitsSigned w64 (to_z w64 (of_z w64 g) -ℤ to_z w64 (of_z w64 l))
width_fits l g h k = omega (arith, ints)

width_tested : (l g breadth : ℤ) → unsigned_abs l ≤ 2 ^ 50 → unsigned_abs g ≤ 2 ^ 50 → FitsSigned w64 breadth
    → lt_z (to_z w64 (of_z w64 breadth)) (to_z w64 (of_z w64 (to_z w64 (of_z w64 g) -ℤ to_z w64 (of_z w64 l)))) ≡ false → (g -ℤ l) ≤ℤ breadth
width_tested l g breadth h k fits tested = omega (arith, ints)

pub overflow_sub-greatest : goal.overflow_sub-greatest
overflow_sub-greatest c =
    let lane = c.args.self in
    let most = borders_most lane c.requires.lane c.requires.from in
    width_fits c.lesser-least.result c.greater-greatest.result
    (one_most lane.across.least c.args.here c.lesser-least.result most.0 c.requires.here c.lesser-least.ensures.one)
    (one_most lane.across.greatest c.args.here c.greater-greatest.result most.1 c.requires.here c.greater-greatest.ensures.one)

pub returns : goal.returns
returns c =
    let lane = c.args.self in
    let here = c.args.here in
    let l = c.lesser-least.result in
    let g = c.greater-greatest.result in
    let most = borders_most lane c.requires.lane c.requires.from in
    let l_most = one_most lane.across.least here l most.0 c.requires.here c.lesser-least.ensures.one in
    let g_most = one_most lane.across.greatest here g most.1 c.requires.here c.greater-greatest.ensures.one in
    let narrow = width_tested l g c.args.breadth l_most g_most c.ranges.breadth c.if-breadth-greatest.false in
    let e_l : to_z w64 (of_z w64 l) ≡ l = back l (omega arith) in
    let e_g : to_z w64 (of_z w64 g) ≡ g = back g (omega arith) in
    let e_h : to_z w64 (of_z w64 here) ≡ here = back here (omega (arith, c.requires.here)) in
    let e_a : to_z w64 (of_z w64 lane.across.least) ≡ lane.across.least = back lane.across.least (omega (arith, most.0)) in
    let e_b : to_z w64 (of_z w64 lane.across.greatest) ≡ lane.across.greatest = back lane.across.greatest (omega (arith, most.1)) in
    let a = c.lesser-least.ensures.first in
    let b = c.lesser-least.ensures.second in
    let d = c.greater-greatest.ensures.first in
    let e = c.greater-greatest.ensures.second in
    rw (e_h, e_l, e_g) (record {
      seen_from = refl;
      takes_in = record {
        least = omega (arith, ints);
        greatest = omega (arith, ints);
        further = record { least = omega (arith, ints); most = omega (arith, ints) };
      };
      narrow = narrow;
    })

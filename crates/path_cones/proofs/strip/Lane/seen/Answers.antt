use Rattle.std.proofs.Common.{◌≡◌, ◌^◌, ◌≤◌, ℤ, ◌-ℤ◌, unsigned_abs, w64, to_z, of_z, arith}
use Rattle.std.proofs.lemmas.Int.{ints}
use Rattle.path_cones.specs.declared.strip.Span.{Span}
use Rattle.path_cones.proofs.strip.Lane.seen.Goals as goal

passed : (z here : ℤ) → unsigned_abs here ≤ 2 ^ 48 → unsigned_abs (z -ℤ here) ≤ 131072
    → to_z w64 (of_z w64 (to_z w64 (of_z w64 z) -ℤ to_z w64 (of_z w64 here))) ≡ z -ℤ here
passed z here far near = omega (arith, ints)

same_span : (l g l' g' : ℤ) → l ≡ l' → g ≡ g' → ◌≡◌ {A = Span} (record { least = l; greatest = g }) (record { least = l'; greatest = g' })
same_span l g l' g' e f = cc

pub returns : goal.returns
returns c =
    let lane = c.args.self in
    let a = c.requires.lane.least.least in
    let b = c.requires.lane.least.most in
    let d = c.requires.lane.greatest.least in
    let e = c.requires.lane.greatest.most in
    same_span _ _ _ _ (passed lane.across.least lane.here c.requires.from (omega (arith, ints))) (passed lane.across.greatest lane.here c.requires.from (omega (arith, ints)))

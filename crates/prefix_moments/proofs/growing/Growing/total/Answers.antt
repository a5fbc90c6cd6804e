use Rattle.std.proofs.Common.{◌≡◌, ◌≤ℤ◌, pos, w64, to_z, of_z, ap, ◌∙◌, arith}
use Rattle.std.proofs.lemmas.Int.{ints, to_z-of_z}
use Rattle.std.specs.Int.{int_wrap}
use Rattle.std.specs.Prelude.{unsigned_abs}
use Rattle.prefix_moments.specs.Sums.{spread_of}
use Rattle.prefix_moments.proofs.Longer.{xx_most, xy_most, yy_most, right_most, above_most, grown_spread, offset_back, sum_back, wrapped_back}
use Rattle.prefix_moments.proofs.Totals.{total_at_least}
use Rattle.prefix_moments.proofs.growing.Growing.total.Goals as goal

pub wrapped_spread-requires-clause-right : goal.wrapped_spread-requires-clause-right
wrapped_spread-requires-clause-right c =
    let s = c.args.self.now in
    let most = right_most s.moments.now s.on_page s.from s.to in
    omega (arith, ap unsigned_abs (offset_back s.right _ s.right_is most), most)

pub wrapped_spread-requires-clause-above : goal.wrapped_spread-requires-clause-above
wrapped_spread-requires-clause-above c =
    let s = c.args.self.now in
    let most = above_most s.moments.now s.on_page s.from s.to in
    omega (arith, ap unsigned_abs (offset_back s.above _ s.above_is most), most)

is : (c : goal.After-wrapped_spread) → c.wrapped_spread.result ≡ spread_of c.args.self.now.moments.now c.args.self.now.from c.args.self.now.to
is c =
    let s = c.args.self.now in
    let points = s.moments.now in
    let spread = grown_spread points s.from s.to _ _ _ _ _
    (sum_back s.xx _ s.xx_is (xx_most points s.on_page s.from s.to s.steps))
    (sum_back s.xy _ s.xy_is (xy_most points s.on_page s.from s.to s.steps))
    (sum_back s.yy _ s.yy_is (yy_most points s.on_page s.from s.to s.steps))
    (offset_back s.right _ s.right_is (right_most points s.on_page s.from s.to))
    (offset_back s.above _ s.above_is (above_most points s.on_page s.from s.to)) in
    wrapped_back (spread_of points s.from s.to) c.wrapped_spread.result c.requires (c.wrapped_spread.ensures ∙ ap (int_wrap w64) spread)

pub overflow_cast-result : goal.overflow_cast-result
overflow_cast-result c =
    let s = c.args.self.now in
    let at_least : pos 0 ≤ℤ c.wrapped_spread.result = total_at_least s.moments.now s.from s.to c.wrapped_spread.result (is c) in
    let most = c.wrapped_spread.type_inv in
    (omega (arith, ints), omega (arith, ints))

same : (c : goal.After-wrapped_spread)
    → unsigned_abs (to_z w64 (of_z w64 c.wrapped_spread.result)) ≡ unsigned_abs (spread_of c.args.self.now.moments.now c.args.self.now.from c.args.self.now.to)
same c = ap unsigned_abs (to_z-of_z w64 c.wrapped_spread.result (record { sfits = c.wrapped_spread.type_inv }) ∙ is c)

pub returns-clause-value : goal.returns-clause-value
returns-clause-value c = same c

pub returns-clause-most : goal.returns-clause-most
returns-clause-most c = omega (arith, same c, c.requires)

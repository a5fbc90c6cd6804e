use Rattle.std.proofs.Common.{◌≡◌, ◌+◌, ◌-◌, min, ℕ, List, refl, subst, rules, arith}
use Rattle.pt_core.specs.declared.point.Point.{Point}
use Rattle.pt_core.specs.ClosedWalk.{point_at}
use Rattle.path_cones.specs.Straight.{vector_of}
use Rattle.path_cones.specs.declared.vector.Vector.{Vector}
use Rattle.straight_paths.specs.Inner.Sweeps.{AreEndsFrom, IsTold}
use Rattle.straight_paths.specs.Inner.Tables.{LeadsToWord, count_at}
use Rattle.path_cones.specs.Inner.Tails.{limit_of}
use Rattle.path_cones.proofs.Coding.{goes_by_one}
use Rattle.straight_paths.proofs.Tabling.{entry_leads}
use Rattle.straight_paths.proofs.Windows.{end_of_window, one_more, stays_whole, told_earlier}
use Rattle.straight_paths.proofs.fill.told_on.Goals as goal

-- the way between two points looked up is the step between their indices
is_step : (points : List Point) (index next : ℕ) (here there : Point) (step : Vector) → next ≡ index + 1 → here ≡ point_at points index
    → there ≡ point_at points next → step ≡ vector_of here there → step ≡ vector_of (point_at points index) (point_at points (index + 1))
is_step points index next here there step e h t s = rw (s, h, t, e) refl

pub direction-requires : goal.direction-requires
direction-requires c =
    let points = c.args.track.now in
    let index = c.loop-at.at.index - 1 in
    let some = c.loop-at-test.true in
    goes_by_one points index c.between.result c.limit-limit.ensures.closed
    (is_step points index c.loop-at.at.index c.point-here.result c.loop-at.there c.between.result (omega arith) c.point-here.ensures c.loop-at.invariant.there c.between.ensures)

pub loop-at-preserved : goal.loop-at-preserved
loop-at-preserved c =
    let points = c.args.track.now in
    let table = c.args.table.now in
    let inv = c.loop-at.invariant in
    let some = c.loop-at-test.true in
    let index = c.loop-at.at.index - 1 in
    let node = c.loop-at.at.node in
    let next = c.told-next.result in
    let e : c.loop-at.at.index ≡ index + 1 = omega arith in
    let later : IsTold table points c.args.last (index + 1) node = subst (λ (n : ℕ). IsTold table points c.args.last n node) e inv.told in
    let not = c.if-next-eq0.false in
    let leads : LeadsToWord table node c.direction.result next =
    entry_leads table node c.direction.result next (inv.told.word.whole.tells node c.direction.result inv.told.word.known c.direction.ensures.small) c.told-next.ensures.value (omega arith) in
    let step = is_step points index c.loop-at.at.index c.point-here.result c.loop-at.there c.between.result e c.point-here.ensures inv.there c.between.ensures in
    let told = told_earlier table table points c.args.last index node c.direction.result next c.between.result later (stays_whole table inv.told.word.whole) step
    c.direction.ensures.value leads in
    let is : c.min.result ≡ min (count_at table next) (limit_of points) = search rules in
    record {
      index = omega (arith, inv.index);
      told = told;
      ends = one_more points c.args.last c.args.lap index c.min.result c.loop-at.steps
          (subst (λ (n : ℕ). AreEndsFrom points c.args.last c.args.lap n c.loop-at.steps) e inv.ends) (omega arith)
          (end_of_window points c.args.last index (count_at table next) c.min.result told.window is);
      there = c.point-here.ensures;
    }

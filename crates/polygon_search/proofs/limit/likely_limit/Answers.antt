use Rattle.std.proofs.Common.{ℕ, ◌-◌, length, arith}
use Rattle.polygon_search.proofs.Windowed.{ends_before_end}
use Rattle.polygon_search.proofs.limit.likely_limit.Goals as goal

-- the window ends before the path does
pub cheapest_by-requires-clause-start : goal.cheapest_by-requires-clause-start
cheapest_by-requires-clause-start c =
    let s = c.args.segments.now in
    let window : ℕ = c.loop-window.window - 1 in
    omega (
      arith,
      c.chosen_of-at.ensures c.loop-k.k,
      ends_before_end (length s.moments.now) s.lasts.items c.args.begins.now c.args.farthest.now s.onwards s.rising c.requires.windows window
          (omega (arith, c.requires.windows.count)),
    )

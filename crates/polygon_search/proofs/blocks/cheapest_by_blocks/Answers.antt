use Rattle.std.proofs.Common.{◌≡◌, ℕ, ◌+◌, ◌*◌, ◌<◌, ◌≤◌, length, sym, subst, arith}
use Rattle.std.specs.Prelude.{slice_index}
use Rattle.polygon_search.specs.declared.search.OnwardSegment.{OnwardSegment}
use Rattle.polygon_search.specs.Inner.BlockLeasts.{AreLeasts}
use Rattle.polygon_search.specs.Inner.Search.{HasCheapest, IsCheaperIn, slot_of}
use Rattle.polygon_search.specs.Polygon.{penalty_of}
use Rattle.polygon_search.proofs.Counting.{last_of}
use Rattle.polygon_search.proofs.Passing.{before_block, blocks_passed}
use Rattle.polygon_search.proofs.Scanning.{alone_costs, are_dear, is_cheapest_up_to, tried_none, tried_on}
use Rattle.polygon_search.proofs.blocks.cheapest_by_blocks.Goals as goal

pub loop-best-init : goal.loop-best-init
loop-best-init c =
    let s = c.args.segments.now in
    let costs = c.args.costs.now in
    let there : c.args.nearest.from < length s.lasts.items = omega (arith, s.places) in
    let last = last_of s.lasts.items c.args.nearest.from c.index-last.result.now there c.index-last.ensures in
    let cost_by : ℕ → ℕ = λ k. penalty_of c.args.segments.now.moments.now c.args.nearest.from k + slice_index costs (slot_of (length costs) k) in
    let bound : OnwardSegment = record { cost = c.min.result + 1; next = c.min-to.result } in
    let e : c.args.nearest.to ≡ before_block c.args.nearest.to c.index-last.result.now 0 = omega (arith, last, c.requires.some) in
    record {
      within = omega arith;
      tried = subst (λ n. IsCheaperIn cost_by c.args.nearest.to n bound bound) e (tried_none cost_by c.args.nearest.to bound);
    }

-- no block is left of which a point may be cheaper
pub returns-then-low-blocks : goal.returns-then-low-blocks
returns-then-low-blocks c =
    let s = c.args.segments.now in
    let costs = c.args.costs.now in
    let from : ℕ = c.args.nearest.from in
    let begin : ℕ = c.args.nearest.to in
    let to : ℕ = c.min-to.result in
    let end : ℕ = c.index-last.result.now in
    let low : ℕ = c.next_cheap-low.result in
    let cost_by : ℕ → ℕ = λ k. penalty_of s.moments.now from k + slice_index costs (slot_of (length costs) k) in
    let there : from < length s.lasts.items = omega (arith, s.places) in
    let last = last_of s.lasts.items from end there c.index-last.ensures in
    let near : begin ≤ to = omega (arith, c.max.ensures, c.min-to.ensures, last, c.requires.some) in
    let room : to < end + 1 = omega (arith, c.min-to.ensures) in
    let guessed = c.in_lap-guessed.ensures in
    let cost = alone_costs cost_by to c.onward_by-tried.result (rw (guessed.from, guessed.to) at c.onward_by-tried.ensures) in
    let bound : OnwardSegment = record { cost = c.min.result + 1; next = to } in
    let are = subst (λ n. AreLeasts cost_by c.args.ahead begin (n + 1) c.args.leasts.now) (sym last) c.requires.leasts in
    let passed = blocks_passed cost_by begin end c.args.ahead c.args.leasts.now c.loop-best.block low c.saturating_sub-limit.result bound c.loop-best.best
    (omega arith) c.next_cheap-low.ensures.order (omega (arith, c.saturating_sub-limit.ensures)) are c.next_cheap-low.ensures.dear c.loop-best.invariant.tried in
    let e : before_block begin end low ≡ end + 1 = omega (arith, c.if-low-blocks.true) in
    let all = subst (λ n. IsCheaperIn cost_by begin n bound c.loop-best.best) e passed in
    let R : ℕ → Type 0 = λ n. HasCheapest cost_by begin (n + 1) c.loop-best.best in
    record {
      cheapest = λ low. subst R last (is_cheapest_up_to cost_by begin to (end + 1) c.args.most bound c.loop-best.best near room
          (λ tried. omega (arith, cost, c.min.ensures, tried)) low all);
      none = λ dear k above below. are_dear cost_by begin (end + 1) c.args.most bound c.loop-best.best (omega (arith, c.min.ensures)) dear all k above (omega (arith, last));
    }

-- some blocks are passed over, and those behind them are looked at
pub loop-best-preserved : goal.loop-best-preserved
loop-best-preserved c =
    let s = c.args.segments.now in
    let costs = c.args.costs.now in
    let from : ℕ = c.args.nearest.from in
    let begin : ℕ = c.args.nearest.to in
    let end : ℕ = c.index-last.result.now in
    let low : ℕ = c.next_cheap-low.result in
    let high : ℕ = c.next_dear-block.result in
    let best = c.loop-best.best in
    let more = c.cheaper_between-best.result in
    let cost_by : ℕ → ℕ = λ k. penalty_of s.moments.now from k + slice_index costs (slot_of (length costs) k) in
    let there : from < length s.lasts.items = omega (arith, s.places) in
    let last = last_of s.lasts.items from end there c.index-last.ensures in
    let bound : OnwardSegment = record { cost = c.min.result + 1; next = c.min-to.result } in
    let are = subst (λ n. AreLeasts cost_by c.args.ahead begin (n + 1) c.args.leasts.now) (sym last) c.requires.leasts in
    let passed = blocks_passed cost_by begin end c.args.ahead c.args.leasts.now c.loop-best.block low c.saturating_sub-limit.result bound best
    (omega arith) c.next_cheap-low.ensures.order (omega (arith, c.saturating_sub-limit.ensures)) are c.next_cheap-low.ensures.dear c.loop-best.invariant.tried in
    let e : begin + low * 16 ≡ before_block begin end low = omega (arith, c.if-low-blocks.false, c.next_cheap-low.ensures.within) in
    let f : c.min-stop.result ≡ before_block begin end high = omega (arith, c.min-stop.ensures) in
    record {
      within = c.next_dear-block.ensures.within;
      tried = tried_on cost_by begin (before_block begin end low) (before_block begin end high) bound best more
          (omega arith) (omega (arith, c.next_dear-block.ensures.order)) passed
          (subst (λ n. IsCheaperIn cost_by n (before_block begin end high) best more) e
          (subst (λ n. IsCheaperIn cost_by (begin + low * 16) n best more) f c.cheaper_between-best.ensures));
    }

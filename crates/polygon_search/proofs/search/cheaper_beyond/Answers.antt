use Rattle.std.proofs.Common.{◌≡◌, ℕ, ◌+◌, length, ap, ◌∙◌, sym, refl, arith}
use Rattle.std.specs.Prelude.{slice_index}
use Rattle.pt_core.specs.ClosedWalk.{point_at}
use Rattle.prefix_moments.proofs.Rows.{listed, listed_on_page}
use Rattle.polygon_search.specs.Polygon.{penalty_of}
use Rattle.polygon_search.specs.Inner.Search.{slot_of}
use Rattle.polygon_search.proofs.Scanning.{tried_none, tried_by, worth_is}
use Rattle.polygon_search.proofs.search.cheaper_beyond.Goals as goal

pub loop-to-init : goal.loop-to-init
loop-to-init c =
    let s = c.args.segments.now in
    let segment = c.args.segment.now in
    let costs = c.args.costs.now in
    record {
      moments = c.requires.segment;
      from = refl;
      to = refl;
      within = omega (arith, c.requires.some);
      tried = tried_none (λ k. penalty_of s.moments.now segment.from k + slice_index costs (slot_of (length costs) k)) (segment.to + 1) c.args.best;
    }

pub loop-to-preserved : goal.loop-to-preserved
loop-to-preserved c =
    let s = c.args.segments.now in
    let segment = c.args.segment.now in
    let to : ℕ = c.loop-to.to in
    let costs = c.args.costs.now in
    let so_far = c.loop-to.invariant in
    let is = c.longer_by-grown.ensures in
    let here : c.longer_by-grown.result.to ≡ to = is.to ∙ so_far.to in
    record {
      moments = is.moments ∙ so_far.moments;
      from = is.from ∙ so_far.from;
      to = ap (λ n. n + 1) here;
      within = omega (arith, c.loop-to-test.true);
      tried = tried_by (λ k. penalty_of s.moments.now segment.from k + slice_index costs (slot_of (length costs) k)) (segment.to + 1) to c.longer_by-grown.result.to _
          c.args.best c.loop-to.cheapest c.cheaper_by-cheapest.result (omega arith) here
          (worth_is (penalty_of s.moments.now) costs segment.from to c.longer_by-grown.result.from c.longer_by-grown.result.to c.slot.result
          (is.from ∙ so_far.from) here c.slot.ensures)
          c.cheaper_by-cheapest.ensures.cheaper c.cheaper_by-cheapest.ensures.same so_far.tried;
    }

pub longer_by-grown-requires-clause-last : goal.longer_by-grown-requires-clause-last
longer_by-grown-requires-clause-last c =
    let s = c.args.segments.now in
    let so_far = c.loop-to.invariant in
    listed s.points.now s.moments.now c.loop-to.to s.same (omega (arith, c.loop-to-test.true, c.requires.lap))
    ∙ ap (point_at s.moments.now) (sym so_far.to) ∙ ap (λ l. point_at l (c.loop-to.grown.to + 1)) (sym so_far.moments)

pub longer_by-grown-requires-clause-on_page : goal.longer_by-grown-requires-clause-on_page
longer_by-grown-requires-clause-on_page c =
    let s = c.args.segments.now in
    listed_on_page s.points.now s.moments.now c.loop-to.to s.same (omega (arith, c.loop-to-test.true, c.requires.lap)) s.on_page

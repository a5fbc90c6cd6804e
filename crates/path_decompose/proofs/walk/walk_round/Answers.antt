-- Each run is more of the walk; the first edge comes again before the page has no more edges.
use Rattle.std.proofs.Common.{add-one, arith, not, refl, ap, sym, ◌∙◌}
use Rattle.path_decompose.proofs.Noted.{none_noted, noted_small}
use Rattle.path_decompose.proofs.Runs.{noted_boundary, noted_upright, noted_on, noted_round, length-run, upright_apart}
use Rattle.path_decompose.proofs.walk.walk_round.Goals as goal

pub runs-init : goal.runs-init
runs-init c = record { noted = rw add-one (none_noted _ _ _ _ _ c.clear.ensures.points c.clear.ensures.up c.clear.ensures.down); upright = refl; spot = c.spot-spot.ensures }

pub turned_upright-requires-clause-boundary : goal.turned_upright-requires-clause-boundary
turned_upright-requires-clause-boundary c = noted_boundary _ _ _ _ _ _ _ _ _ c.requires.first c.runs.invariant.noted

pub turned_upright-requires-clause-sums : goal.turned_upright-requires-clause-sums
turned_upright-requires-clause-sums c =
    let small = noted_small _ _ _ _ _ c.args.page.now.width c.args.page.now.height _ _ _ _ c.requires.first c.width.ensures.fits c.width.ensures.page.most_width c.width.ensures.page.most_height c.runs.invariant.noted in
    record { up = small.1; down = small.2 }

pub turned_level-requires-clause-boundary : goal.turned_level-requires-clause-boundary
turned_level-requires-clause-boundary c =
    noted_boundary _ _ _ _ _ _ _ _ _ c.requires.first
    (noted_upright _ _ _ _ _ c.args.page.now.width c.args.page.now.height _ _ _ _ c.requires.first c.width.ensures.fits c.width.ensures.page.most_width c.runs.invariant.noted
    c.in_ok-level.ensures.run c.runs.invariant.upright c.in_ok-level.ensures.turns)

pub turned_level-requires-clause-sums : goal.turned_level-requires-clause-sums
turned_level-requires-clause-sums c =
    let small = noted_small _ _ _ _ _ c.args.page.now.width c.args.page.now.height _ _ _ _ c.requires.first c.width.ensures.fits c.width.ensures.page.most_width c.width.ensures.page.most_height
    (noted_upright _ _ _ _ _ c.args.page.now.width c.args.page.now.height _ _ _ _ c.requires.first c.width.ensures.fits c.width.ensures.page.most_width c.runs.invariant.noted
    c.in_ok-level.ensures.run c.runs.invariant.upright c.in_ok-level.ensures.turns) in
    record { up = small.1; down = small.2 }

pub returns-then-is_first-clause-walk : goal.returns-then-is_first-clause-walk
returns-then-is_first-clause-walk c =
    (noted_round _ _ _ _ _ c.args.page.now.width c.args.page.now.height _ _ _ _ c.requires.first c.width.ensures.fits c.width.ensures.page.most_width
    (noted_upright _ _ _ _ _ c.args.page.now.width c.args.page.now.height _ _ _ _ c.requires.first c.width.ensures.fits c.width.ensures.page.most_width c.runs.invariant.noted
    c.in_ok-level.ensures.run c.runs.invariant.upright c.in_ok-level.ensures.turns)
    c.in_ok-upright.ensures.run (upright_apart _ _ (c.in_ok-upright.ensures.turns ∙ sym (ap not c.in_ok-level.ensures.turns))) c.if-is_first.ensures).walk

pub returns-then-is_first-clause-area : goal.returns-then-is_first-clause-area
returns-then-is_first-clause-area c =
    (noted_round _ _ _ _ _ c.args.page.now.width c.args.page.now.height _ _ _ _ c.requires.first c.width.ensures.fits c.width.ensures.page.most_width
    (noted_upright _ _ _ _ _ c.args.page.now.width c.args.page.now.height _ _ _ _ c.requires.first c.width.ensures.fits c.width.ensures.page.most_width c.runs.invariant.noted
    c.in_ok-level.ensures.run c.runs.invariant.upright c.in_ok-level.ensures.turns)
    c.in_ok-upright.ensures.run (upright_apart _ _ (c.in_ok-upright.ensures.turns ∙ sym (ap not c.in_ok-level.ensures.turns))) c.if-is_first.ensures).area

pub runs-smaller : goal.runs-smaller
runs-smaller c =
    let small = noted_small _ _ _ _ _ c.args.page.now.width c.args.page.now.height _ _ _ _ c.requires.first c.width.ensures.fits c.width.ensures.page.most_width c.width.ensures.page.most_height
    (noted_upright _ _ _ _ _ c.args.page.now.width c.args.page.now.height _ _ _ _ c.requires.first c.width.ensures.fits c.width.ensures.page.most_width c.runs.invariant.noted
    c.in_ok-level.ensures.run c.runs.invariant.upright c.in_ok-level.ensures.turns) in
    omega (
      arith,
      small.0,
      length-run _ _ _ _ _ c.in_ok-level.ensures.run (upright_apart _ _ (c.in_ok-level.ensures.turns ∙ sym (ap not c.runs.invariant.upright))),
      length-run _ _ _ _ _ c.in_ok-upright.ensures.run (upright_apart _ _ (c.in_ok-upright.ensures.turns ∙ sym (ap not c.in_ok-level.ensures.turns))),
    )

pub runs-preserved : goal.runs-preserved
runs-preserved c =
    record {
      noted =
          noted_on _ _ _ _ _ c.args.page.now.width c.args.page.now.height _ _ _ _ c.requires.first c.width.ensures.fits c.width.ensures.page.most_width
          (noted_upright _ _ _ _ _ c.args.page.now.width c.args.page.now.height _ _ _ _ c.requires.first c.width.ensures.fits c.width.ensures.page.most_width c.runs.invariant.noted
          c.in_ok-level.ensures.run c.runs.invariant.upright c.in_ok-level.ensures.turns)
          c.in_ok-upright.ensures.run (upright_apart _ _ (c.in_ok-upright.ensures.turns ∙ sym (ap not c.in_ok-level.ensures.turns))) c.if-is_first.ensures;
      upright = c.in_ok-upright.ensures.turns;
      spot = c.in_ok-upright.ensures.spot;
    }

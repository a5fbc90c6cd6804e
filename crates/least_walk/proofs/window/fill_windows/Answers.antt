use Rattle.std.proofs.Common.{◌≡◌, ℕ, ◌+◌, ◌-◌, ◌≤◌, sym, ap, ◌∙◌, subst, arith}
use Rattle.std.specs.Prelude.{min, max, slice_index}
use Rattle.std.proofs.lemmas.List.{get_or_default}
use Rattle.std.proofs.lemmas.Bool.{false≢true}
use Rattle.least_walk.specs.Inner.MarkedPlaces.{IsMarked}
use Rattle.least_walk.specs.declared.window.Window.{Window}
use Rattle.least_walk.proofs.Widening.{AreBelow, below_none, below_same, below_more, count_below, windows_whole}
use Rattle.least_walk.proofs.window.fill_windows.Goals as goal
use Rattle.least_walk.proofs.window.fill_windows.Goals.{then-marks-index, else-marks-index}

pub loop-index-init : goal.loop-index-init
loop-index-init g c = record {
  one_each = c.requires.one_each;
  below = below_none (g.S.Steps.size_of c.args.steps.now) c.args.counts.now c.args.marks.now c.args.windows.now c.requires.one_each c.requires.none;
}

pub overflow_sub-steps_to : goal.overflow_sub-steps_to
overflow_sub-steps_to g c =
    let steps = c.args.steps.now in
    let within : c.loop-index.index ≤ g.S.Steps.size_of steps = omega arith in
    count_below (g.S.Steps.size_of steps) c.args.counts.now c.args.marks.now (g.S.Steps.is_allowed steps)
    c.requires.fewest c.requires.marks c.loop-index.index within c.if-marks-index.true

pub loop-index-preserved : goal.loop-index-preserved
loop-index-preserved g c =
    let steps = c.args.steps.now in
    let size = g.S.Steps.size_of steps in
    let counts = c.args.counts.now in
    let marks = c.args.marks.now in
    let index = c.loop-index.index in
    let so_far = c.loop-index.invariant in
    let within : index ≤ size = omega arith in
    record {
      one_each = c.if-marks-index.auto.windows ∙ so_far.one_each;
      below = elim c.if-marks-index.branch [
        | then-marks-index w ↦
            let most = count_below size counts marks (g.S.Steps.is_allowed steps) c.requires.fewest c.requires.marks index within w.if-marks-index.true in
            let at : ℕ = slice_index counts 0 - slice_index counts index in
            let there = get_or_default c.loop-index.windows at _ (record { least = 0; greatest = 0 }) (omega (arith, so_far.one_each)) in
            subst (AreBelow size counts marks (index + 1)) (sym w.windows-is)
            (below_more size counts marks c.loop-index.windows index at w.with.result within so_far.one_each w.if-marks-index.true (omega arith)
            (w.with.ensures.least ∙ ap (λ (v : Window). min v.least index) there)
            (w.with.ensures.greatest ∙ ap (λ (v : Window). max v.greatest index) there) so_far.below)
        | else-marks-index w ↦
            let unmarked : ¬ IsMarked marks index = λ is. false≢true (sym w.if-marks-index.false ∙ is) in
            subst (AreBelow size counts marks (index + 1)) (sym w.windows-is)
            (below_same size counts marks c.loop-index.windows index unmarked so_far.below)
      ];
    }

pub returns : goal.returns
returns g c =
    let steps = c.args.steps.now in
    let size = g.S.Steps.size_of steps in
    let counts = c.args.counts.now in
    let marks = c.args.marks.now in
    let whole : c.loop-index.index ≡ size + 1 = omega arith in
    windows_whole size counts marks (g.S.Steps.is_allowed steps) c.requires.fewest c.requires.marks c.loop-index.windows
    c.loop-index.invariant.one_each
    (subst (λ below. AreBelow size counts marks below c.loop-index.windows) whole c.loop-index.invariant.below)

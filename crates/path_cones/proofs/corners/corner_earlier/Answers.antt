use Rattle.std.proofs.Common.{◌≡◌, ◌+◌, w64, to_z, of_z, sym, ◌∙◌, ap, arith}
use Rattle.std.proofs.lemmas.Int.{to_z-of_z}
use Rattle.path_cones.proofs.Marks.{other_marks, same_marks}
use Rattle.path_cones.proofs.Turns.{corner_below, corner_here, corner_later}
use Rattle.path_cones.proofs.corners.corner_earlier.Goals as goal

pub returns-then-step-after-clause-corner : goal.returns-then-step-after-clause-corner
returns-then-step-after-clause-corner c =
    let same : c.args.step ≡ c.args.after =
    sym (to_z-of_z w64 c.args.step c.ranges.step) ∙ ap (to_z w64) c.if-step-after.true ∙ to_z-of_z w64 c.args.after c.ranges.after in
    corner_later c.args.laps.now c.args.index c.args.later c.requires.later
    (same_marks c.args.laps.now c.args.index c.requires.closed (sym c.requires.step ∙ same ∙ c.requires.after))

pub returns-then-step-after-clause-most : goal.returns-then-step-after-clause-most
returns-then-step-after-clause-most c =
    corner_below c.args.laps.now c.args.index _ c.requires.closed (returns-then-step-after-clause-corner c)

pub overflow_add-result : goal.overflow_add-result
overflow_add-result c =
    let l = corner_below c.args.laps.now (c.args.index + 1) _ c.requires.closed c.requires.later in
    let m = c.requires.closed.most in
    omega arith

pub returns-else-step-after-clause-corner : goal.returns-else-step-after-clause-corner
returns-else-step-after-clause-corner c =
    corner_here c.args.laps.now c.args.index
    (other_marks c.args.laps.now c.args.index c.requires.closed (λ e. c.if-step-after.false (ap (of_z w64) (c.requires.step ∙ e ∙ sym c.requires.after))))

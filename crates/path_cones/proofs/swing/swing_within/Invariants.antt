use Rattle.std.proofs.Common.{◌≡◌, ◌-◌}
use Rattle.path_cones.specs.Inner.Swings.{IsSwing}
use Rattle.path_cones.proofs.swing.swing_within.Given as goal

-- a corner before the end
abbrev pub invariant-loop-swing : goal.invariant-loop-swing
invariant-loop-swing l = record {
  swing : IsSwing l.track l.first l.most l.swing;
  way : l.swing.way ≡ l.initial.swing.way;
}

abbrev pub decreases-loop-swing : goal.decreases-loop-swing
decreases-loop-swing l = l.most - l.swing.steps

use Rattle.std.proofs.Common.{◌-◌}
use Rattle.path_cones.specs.Inner.Stairs.{IsLanding}
use Rattle.path_cones.proofs.landing.landing_within.Given as goal

-- a landing before the end
abbrev pub invariant-loop-landing : goal.invariant-loop-landing
invariant-loop-landing l = record {
  landing : IsLanding l.track l.first l.most l.landing;
}

abbrev pub decreases-loop-landing : goal.decreases-loop-landing
decreases-loop-landing l = l.most - l.landing.steps

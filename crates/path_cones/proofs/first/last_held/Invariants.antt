use Rattle.std.proofs.Common.{◌≡◌, ◌⊎◌, ◌-◌, ◌<◌, ◌≤◌}
use Rattle.path_cones.specs.Straight.{path_from}
use Rattle.path_cones.specs.Inner.Cones.{HoldsWay}
use Rattle.path_cones.specs.Inner.Tails.{way_along}
use Rattle.path_cones.proofs.first.last_held.Given as goal

abbrev pub invariant-loop-last : goal.invariant-loop-last
invariant-loop-last l = record {
  at_least : l.held ≤ l.last;
  order : l.last < l.beyond;
  most : l.beyond ≤ l.out;
  held : (l.last ≡ l.held) ⊎ HoldsWay l.cone (way_along (path_from l.track l.first) l.last);
  not_held : ¬ HoldsWay l.cone (way_along (path_from l.track l.first) l.beyond);
}

abbrev pub decreases-loop-last : goal.decreases-loop-last
decreases-loop-last l = l.beyond - l.last

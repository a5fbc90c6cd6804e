use Rattle.std.proofs.Common.{◌≡◌, true, suc, ◌-◌, ◌*◌, length}
use Rattle.bit_image.specs.Page.{image_of}
use Rattle.turn_policies.specs.Turn.{next}
use Rattle.boundary_edges.specs.Inner.BoundaryBits.{IsSpotAt}
use Rattle.path_decompose.specs.Inner.Trail.{is_upright}
use Rattle.path_decompose.specs.Walk.{first_edge}
use Rattle.path_decompose.proofs.Noted.{IsNoted}
use Rattle.path_decompose.proofs.walk.walk_round.Given as goal

abbrev pub invariant-runs : goal.invariant-runs
invariant-runs l =
    record {
      noted : IsNoted (next (image_of l.page) l.policy l.sign) (first_edge l.x l.y) l.trail.points.items l.trail.up l.trail.down l.here;
      upright : is_upright l.here.heading ≡ true;
      spot : IsSpotAt l.edges.rows l.edges.starts.now l.here.x l.here.y l.spot;
    }

-- the edges that the page has more than the walk so far
abbrev pub decreases-runs : goal.decreases-runs
decreases-runs l = suc l.page.width * suc l.page.height * 2 - length l.trail.points.items

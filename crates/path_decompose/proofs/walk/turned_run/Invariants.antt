use Rattle.std.proofs.Common.{◌+◌, ◌*◌, ◌<◌, ◌^◌}
use Rattle.pt_core.specs.declared.limits.TheConstants.{LONGEST_SIDE}
use Rattle.bit_image.specs.Page.{image_of}
use Rattle.turn_policies.specs.Boundary.{IsBoundary}
use Rattle.turn_policies.specs.Turn.{next}
use Rattle.boundary_edges.specs.Inner.BoundaryBits.{IsSpotAt}
use Rattle.path_decompose.specs.Inner.Trail.{edge_from, IsStraightRun}
use Rattle.path_decompose.proofs.Runs.{edges_left}
use Rattle.path_decompose.proofs.walk.turned_run.Given as goal

abbrev pub invariant-edges : goal.invariant-edges
invariant-edges l =
    record {
      run : IsStraightRun (next (image_of l.edges.page.now) l.policy l.sign) l.fn.from (edge_from l.x l.y l.fn.from.heading) l.initial.trail l.trail;
      boundary : IsBoundary (image_of l.edges.page.now) (edge_from l.x l.y l.fn.from.heading);
      spot : IsSpotAt l.edges.rows l.edges.starts.now l.x l.y l.spot;
      up : l.trail.up + edges_left l.edges.page.now.width l.edges.page.now.height l.x l.y l.fn.from.heading * LONGEST_SIDE < 2 ^ 63;
      down : l.trail.down + edges_left l.edges.page.now.width l.edges.page.now.height l.x l.y l.fn.from.heading * LONGEST_SIDE < 2 ^ 63;
    }

-- the edges up to the page's side
abbrev pub decreases-edges : goal.decreases-edges
decreases-edges l = edges_left l.edges.page.now.width l.edges.page.now.height l.x l.y l.fn.from.heading

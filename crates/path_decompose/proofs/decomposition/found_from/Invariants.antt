use Rattle.std.proofs.Common.{◌+◌, ◌*◌, ◌≤◌, length}
use Rattle.bit_image.specs.Image.{Fits}
use Rattle.bit_image.specs.Page.{SameSides, image_of}
use Rattle.path_decompose.specs.Inner.Start.{IsStart}
use Rattle.path_decompose.proofs.Above.{IsAboveTo}
use Rattle.path_decompose.proofs.Scan.{places_left}
use Rattle.path_decompose.proofs.decomposition.found_from.Given as goal

abbrev pub invariant-paths : goal.invariant-paths
invariant-paths l =
    record {
      sides : SameSides l.page l.rest;
      fits : Fits (image_of l.rest) l.rest.width l.rest.height;
      start : IsStart (image_of l.rest) l.start;
      paths : IsAboveTo l.page l.policy (image_of l.page) l.limit l.paths.items (image_of l.rest);
      few : length l.paths.items + places_left l.page.width l.start ≤ l.page.width * l.page.height;
    }

-- the places from the start on
abbrev pub decreases-paths : goal.decreases-paths
decreases-paths l = places_left l.page.width l.start

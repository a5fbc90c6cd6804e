-- Where the search finds a black pixel it is the first one, and else all is white and there are no paths.
use Rattle.std.proofs.Common.{◌-◌, subst, arith}
use Rattle.bit_image.specs.Page.{image_of}
use Rattle.path_decompose.specs.Inner.Start.{IsStart}
use Rattle.path_decompose.proofs.Scan.{start_from}
use Rattle.path_decompose.proofs.decomposition.found.Goals as goal

pub found_from-requires : goal.found_from-requires
found_from-requires c =
    record {
      first = subst (IsStart (image_of c.args.page.now)) c.in-Some.is
          (start_from (image_of c.args.page.now) c.args.page.now.width c.args.page.now.height (c.height.result - 1) c.first_black.result c.height.ensures.fits (omega (arith, c.height.ensures.value))
          c.first_black.ensures.none c.first_black.ensures.first);
    }

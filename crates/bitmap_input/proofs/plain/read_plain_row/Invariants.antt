use Rattle.std.proofs.Common.{◌-◌, ◌≡◌, map, Ok}
use Rattle.bitmap_input.specs.Inner.Reading.{Leaves}
use Rattle.bit_image.specs.Image.{differ}
use Rattle.bit_image.specs.Page.{SameSides, image_of}
use Rattle.bitmap_input.specs.Front.{plain_pixel}
use Rattle.bitmap_input.specs.Inner.Raster.{with_pixels}
use Rattle.bitmap_input.proofs.GatheredParts.{IsGatheredSoFar}
use Rattle.bitmap_input.proofs.plain.read_plain_row.Given as goal

abbrev pub invariant-loop-x : goal.invariant-loop-x
invariant-loop-x g l =
    let source = g.I.Inputs in
    record {
      so_far : IsGatheredSoFar plain_pixel l.fn.buffer (source.files l.fn.inputs) (λ pixels. with_pixels (image_of l.fn.page) l.y 0 (map (differ l.invert) pixels)) l.fn.page.width
          l.buffer (source.files l.inputs) (λ pixels. with_pixels (image_of l.page) l.y l.x (map (differ l.invert) pixels)) (l.fn.page.width - l.x);
      sides : SameSides l.fn.page l.page;
      end : l.x-end ≡ l.fn.page.width;
      leaves : Leaves source (Ok (tt {0})) l.fn.inputs l.inputs;
    }

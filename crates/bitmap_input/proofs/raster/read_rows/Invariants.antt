use Rattle.std.proofs.Common.{◌≡◌, ◌≤◌, length, map, Ok}
use Rattle.bitmap_input.specs.Inner.Reading.{Leaves}
use Rattle.bit_image.specs.Page.{SameSides, image_of}
use Rattle.bitmap_input.specs.Inner.Raster.{with_rows}
use Rattle.bitmap_input.specs.Inner.Stored.{row_stored, is_black_pixel, line_bytes}
use Rattle.bitmap_input.proofs.GatheredParts.{IsGatheredSoFar}
use Rattle.bitmap_input.proofs.raster.read_rows.Given as goal

abbrev pub invariant-loop-y : goal.invariant-loop-y
invariant-loop-y g l =
    let source = g.I.Inputs in
    record {
      so_far : IsGatheredSoFar (row_stored l.raster l.fn.page.width) l.fn.buffer (source.files l.fn.inputs) (λ rows. with_rows (image_of l.fn.page) l.fn.page.height (map (map (is_black_pixel l.raster)) rows)) l.fn.page.height
          l.buffer (source.files l.inputs) (λ rows. with_rows (image_of l.page) l.y (map (map (is_black_pixel l.raster)) rows)) l.y;
      sides : SameSides l.fn.page l.page;
      room : length l.line ≡ line_bytes l.raster l.fn.page.width;
      within : l.y ≤ l.fn.page.height;
      leaves : Leaves source (Ok (tt {0})) l.fn.inputs l.inputs;
    }

abbrev pub decreases-loop-y : goal.decreases-loop-y
decreases-loop-y g l = l.y

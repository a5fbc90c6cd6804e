use Rattle.std.proofs.Common.{◌≡◌, ℕ, ◌-◌, length, map, Ok}
use Rattle.bitmap_input.specs.Inner.Reading.{Leaves}
use Rattle.bit_image.specs.Page.{SameSides, image_of}
use Rattle.bitmap_input.specs.Raw.{Entry, black}
use Rattle.bitmap_input.specs.BmpRaster.{color_row}
use Rattle.bitmap_input.specs.Inner.BmpHead.{IsPaletteTable, bits_in, row_place, row_bytes_by}
use Rattle.bitmap_input.specs.Inner.Raster.{with_placed}
use Rattle.bitmap_input.proofs.GatheredParts.{IsGatheredSoFar}
use Rattle.bitmap_input.proofs.bmp.pixels.read_rows.Given as goal

abbrev pub invariant-loop-i : goal.invariant-loop-i
invariant-loop-i g l =
    let source = g.I.Inputs in
    record {
      so_far : (color : ℕ → Entry) → IsPaletteTable l.ink.tone.level l.ink.tone.invert color l.ink.table.now →
          IsGatheredSoFar (color_row (row_bytes_by l.header) (bits_in l.ink.depth) color l.fn.page.width) l.fn.buffer (source.files l.fn.inputs)
          (λ rows. with_placed (row_place l.header.top_down l.fn.page.height) (image_of l.fn.page) 0 (map (map (black l.ink.tone.level l.ink.tone.invert)) rows)) l.fn.page.height
          l.buffer (source.files l.inputs)
          (λ rows. with_placed (row_place l.header.top_down l.fn.page.height) (image_of l.page) l.i (map (map (black l.ink.tone.level l.ink.tone.invert)) rows)) (l.fn.page.height - l.i);
      sides : SameSides l.fn.page l.page;
      row : length l.row ≡ row_bytes_by l.header;
      high : l.height ≡ l.fn.page.height;
      leaves : Leaves source (Ok (tt {0})) l.fn.inputs l.inputs;
    }

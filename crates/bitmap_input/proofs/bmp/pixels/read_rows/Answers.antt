use Rattle.std.proofs.Common.{sym, arith, rules, refl, ap, ◌∙◌, ◌≡◌, ◌-◌, ◌+◌, ℕ, suc, map, Bool, false, List}
use Rattle.std.specs.List.{range_with_len}
use Rattle.std.proofs.lemmas.Result.{err_from_is_err_and}
use Rattle.bit_image.specs.Image.{Image}
use Rattle.bit_image.specs.Page.{image_of}
use Rattle.bitmap_input.specs.Cut.Cut.{Takes}
use Rattle.bitmap_input.specs.Raw.{black}
use Rattle.bitmap_input.specs.BmpRaster.{pixel_in}
use Rattle.bitmap_input.specs.Inner.BmpHead.{bits_in, shade_in, row_place, row_bytes_by}
use Rattle.bitmap_input.specs.Inner.Raster.{with_row, with_placed}
use Rattle.bitmap_input.proofs.BmpStays.{color_row_stays}
use Rattle.bitmap_input.proofs.BmpPixels.{shade_is, shades_are, placed_painted}
use Rattle.bitmap_input.proofs.ComposedSteps.{reads_map, reads_stop}
use Rattle.bitmap_input.proofs.GatheredParts.{gathering_goes_on, gathering_stops, gathering_ends}
use Rattle.bitmap_input.proofs.bmp.pixels.read_rows.Goals as goal

pub place_row-requires-clause-whole : goal.place_row-requires-clause-whole
place_row-requires-clause-whole g c =
    rw (c.loop-i.invariant.sides.width, c.read_block.auto.row ∙ c.loop-i.invariant.row ∙ sym c.requires.room) c.requires.whole

pub loop-i-preserved : goal.loop-i-preserved
unfolding image_of
loop-i-preserved g c =
    let level : ℕ = c.args.ink.now.tone.level in
    let invert : Bool = c.args.ink.now.tone.invert in
    let width : ℕ = c.args.page.now.width in
    let bits : ℕ = bits_in c.args.ink.now.depth in
    let place : ℕ → ℕ = row_place c.args.header.now.top_down c.args.page.now.height in
    let old : Image = image_of c.loop-i.page in
    let one : c.args.page.now.height - c.loop-i.i ≡ suc (c.args.page.now.height - (c.loop-i.i + 1)) = omega arith in
    let row = rw c.loop-i.invariant.row at c.in_ok-read_block.ensures.reads.step in
    let pixels : image_of c.place_row.new.page ≡ with_row old (place c.loop-i.i) (map (shade_in c.args.ink.now.depth level invert c.args.ink.now.table.now c.read_block.new.row) (range_with_len 0 width))
    = rw (c.loop-i.invariant.sides.width, c.row_place-y.ensures.value, c.loop-i.invariant.high) at c.place_row.ensures.pixels in
    record {
      so_far = λ color table.
          let shades = λ (bytes : List ℕ). shades_are (shade_in c.args.ink.now.depth level invert c.args.ink.now.table.now bytes) (black level invert) (pixel_in bits color bytes)
          (shade_is c.args.ink.now.depth level invert color c.args.ink.now.table.now bytes table) (range_with_len 0 width) in
          gathering_goes_on (λ rows. with_placed place (image_of c.place_row.new.page) (c.loop-i.i + 1) (map (map (black level invert)) rows))
          (color_row_stays (row_bytes_by c.args.header.now) bits color width) (c.loop-i.invariant.so_far color table) one
          (reads_map {js = λ _ entries. image_of c.place_row.new.page ≡ with_row old (place c.loop-i.i) (map (black level invert) entries)}
          (λ bytes. map (pixel_in bits color bytes) (range_with_len 0 width))
          (λ _ bytes same. pixels ∙ ap (with_row old (place c.loop-i.i)) (shades c.read_block.new.row)
          ∙ ap (λ bytes. with_row old (place c.loop-i.i) (map (black level invert) (map (pixel_in bits color bytes) (range_with_len 0 width)))) (sym same)) row)
          (λ entries painted rows. placed_painted place old (image_of c.place_row.new.page) c.loop-i.i (map (black level invert) entries) painted (map (map (black level invert)) rows));
      sides = search rules;
      row = search rules;
      high = search rules;
      leaves = search rules;
    }

pub returns-in_err-read_block-clause-reads : goal.returns-in_err-read_block-clause-reads
returns-in_err-read_block-clause-reads g c =
    let p = err_from_is_err_and c.from_residual.result c.from_residual.ensures.1 in
    let one : c.args.page.now.height - c.loop-i.i ≡ suc (c.args.page.now.height - (c.loop-i.i + 1)) = omega arith in
    let row = rw c.loop-i.invariant.row at c.in_err-read_block.ensures.reads.step in
    λ color table. rw (p.1, p.2) (gathering_stops {X = Unit {0}} {is = λ _ row. image_of c.loop-i.page ≡ image_of c.loop-i.page} (image_of c.loop-i.page) (c.loop-i.invariant.so_far color table) one
    (reads_stop (λ bytes rest. Takes false (map (pixel_in (bits_in c.args.ink.now.depth) color bytes) (range_with_len 0 c.args.page.now.width)) rest) row))

pub returns-clause-reads : goal.returns-clause-reads
returns-clause-reads g c = λ color table. gathering_ends (image_of c.loop-i.page) (c.loop-i.invariant.so_far color table) (omega arith) refl

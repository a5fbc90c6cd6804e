use Rattle.std.proofs.Common.{◌*◌, rules}
use Rattle.std.proofs.lemmas.Result.{err_from_is_err_and}
use Rattle.bitmap_input.specs.Cut.{◌>>=◌}
use Rattle.bitmap_input.specs.PageParts.{block}
use Rattle.bitmap_input.specs.BmpRaster.{palette_color}
use Rattle.bitmap_input.specs.Inner.BmpHead.{pixels_by}
use Rattle.bitmap_input.proofs.AddedBytes.{block_stays}
use Rattle.bitmap_input.proofs.ComposedSteps.{reads_on, reads_stop}
use Rattle.bitmap_input.proofs.StepEffects.{leaving}
use Rattle.bitmap_input.proofs.bmp.read_raster.Goals as goal

pub returns-in_err-read_palette : goal.returns-in_err-read_palette
returns-in_err-read_palette g c = record {
  reads = leaving (search rules)
      (let p = err_from_is_err_and c.from_residual.result c.from_residual.ensures.1 in
      rw (p.1, p.2) (reads_stop (λ palette rest. block c.args.header.now.before_pixels rest >>= λ _ rest.
      pixels_by c.args.header.now (palette_color c.args.header.now.palette_length c.args.header.now.color_bytes palette) rest) c.in_err-read_palette.ensures.reads.step));
}

pub returns-in_err-skip_block : goal.returns-in_err-skip_block
returns-in_err-skip_block g c = record {
  reads = leaving (search rules)
      (let p = err_from_is_err_and c.from_residual-in_err-skip_block.result c.from_residual-in_err-skip_block.ensures.1 in
      rw (p.1, p.2) (reads_on (block_stays (c.args.header.now.color_bytes * c.args.header.now.palette_length)) c.in_ok-read_palette.ensures.reads.step
      (λ palette _. reads_stop (λ _ rest. pixels_by c.args.header.now (palette_color c.args.header.now.palette_length c.args.header.now.color_bytes palette) rest) c.in_err-skip_block.ensures.reads.step)));
}

pub returns : goal.returns
returns g c = record {
  reads = leaving (search rules)
      (reads_on (block_stays (c.args.header.now.color_bytes * c.args.header.now.palette_length)) c.in_ok-read_palette.ensures.reads.step
      (λ palette table. reads_on (block_stays c.args.header.now.before_pixels) c.in_ok-skip_block.ensures.reads.step
      (λ _ _. c.read_pixels.ensures.reads (palette_color c.args.header.now.palette_length c.args.header.now.color_bytes palette) table)));
}

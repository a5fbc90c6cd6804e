use Rattle.std.proofs.Common.{rules}
use Rattle.std.proofs.lemmas.Result.{err_from_is_err_and}
use Rattle.bitmap_input.proofs.ComposedSteps.{reads_weaken}
use Rattle.bitmap_input.proofs.StepEffects.{leaving}
use Rattle.bitmap_input.proofs.bmp.palette.read_colors.Goals as goal

pub returns-in_err-read_block : goal.returns-in_err-read_block
returns-in_err-read_block g c = record {
  reads = leaving (search rules)
      (let p = err_from_is_err_and c.from_residual.result c.from_residual.ensures.1 in
      let read = rw c.requires.whole at c.in_err-read_block.ensures.reads.step in
      rw (p.1, p.2) record { more = read.more; moves = read.moves; needed = read.needed; gives = read.gives });
}

pub returns : goal.returns
returns g c = record {
  reads = leaving (search rules)
      (let read = rw c.requires.whole at c.in_ok-read_block.ensures.reads.step in
      reads_weaken (λ _ palette same. rw same c.fill_table.ensures.table) read);
}

use Rattle.std.proofs.Common.{rules}
use Rattle.std.proofs.lemmas.Result.{err_from_is_err_and}
use Rattle.bitmap_input.proofs.BmpPictures.{bmp_read, bmp_stopped, header_stopped}
use Rattle.bitmap_input.proofs.StepEffects.{leaving}
use Rattle.bitmap_input.proofs.bmp.read_bmp.Goals as goal

pub returns-in_err-header : goal.returns-in_err-header
returns-in_err-header g c = record {
  reads = leaving (search rules)
      (let p = err_from_is_err_and c.from_residual.result c.from_residual.ensures.1 in
      rw (p.1, p.2) (header_stopped c.args.tone.now.level c.args.tone.now.invert _ c.in_err-header.ensures.reads.step));
}

pub returns-in_err-page : goal.returns-in_err-page
returns-in_err-page g c = record {
  reads = leaving (search rules)
      (let p = err_from_is_err_and c.from_residual-in_err-page.result c.from_residual-in_err-page.ensures.1 in
      rw (p.1, p.2) (bmp_stopped c.args.tone.now.level c.args.tone.now.invert c.in_ok-header.header _ c.in_ok-header.ensures.reads.step c.in_err-page.ensures.reads.step));
}

pub returns : goal.returns
returns g c = record {
  reads = leaving (search rules)
      (bmp_read c.args.tone.now.level c.args.tone.now.invert c.in_ok-header.header c.in_ok-page.page _ c.in_ok-header.header.behind_magic
      c.in_ok-header.ensures.reads.step c.in_ok-page.ensures.reads.step c.behind.ensures);
}

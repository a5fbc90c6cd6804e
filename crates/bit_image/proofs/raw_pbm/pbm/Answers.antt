use Rattle.std.proofs.Common.{◌-◌, arith}
use Rattle.bit_image.specs.PbmText.{pbm_text}
use Rattle.bit_image.proofs.Spelled.{page_goes_on, page_ends}
use Rattle.bit_image.proofs.raw_pbm.pbm.Goals as goal

pub rows-preserved : goal.rows-preserved
rows-preserved c =
    page_goes_on c.args.page.now c.rows.out.items c.put_row.new.out.items c.row_words.result.now (pbm_text c.args.page.now) c.rows.k c.width-in-rows.result (c.height-in-rows.result - 1 - c.rows.k)
    (omega (arith, c.rows-test.true, c.height-k-end.ensures.value)) c.width-in-rows.ensures.value (omega (arith, c.height-in-rows.ensures.value)) c.row_words.ensures.bits c.in_ok-put_row.ensures c.rows.invariant

pub returns : goal.returns
returns c = page_ends c.args.page.now c.rows.out.items (pbm_text c.args.page.now) c.rows.k (omega (arith, c.rows-test.false, c.height-k-end.ensures.value)) c.rows.invariant

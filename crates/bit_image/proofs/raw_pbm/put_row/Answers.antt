use Rattle.std.proofs.Common.{◌+◌, ◌/◌, refl, arith}
use Rattle.bit_image.proofs.Spelled.{row_begins, row_goes_on, row_ends}
use Rattle.bit_image.proofs.raw_pbm.put_row.Goals as goal

pub words-init : goal.words-init
words-init c = row_begins c.args.out.now.items c.args.words.now _ (omega arith)

pub words-preserved : goal.words-preserved
words-preserved c =
    row_goes_on c.args.out.now.items c.words.out.items c.extend_from_slice.new.self.items c.args.words.now c.words.at ((c.args.width + 7) / 8) c.args.width c.min.result c.bytes_of-bytes.result c.words.invariant
    c.words-test.true c.requires refl c.min.ensures c.bytes_of-bytes.ensures c.in_ok-extend_from_slice.ensures.items

pub returns : goal.returns
returns c = row_ends c.args.out.now.items c.words.out.items c.args.words.now c.words.at ((c.args.width + 7) / 8) c.args.width c.words.invariant c.words-test.false c.requires refl

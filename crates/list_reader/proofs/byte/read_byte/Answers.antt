use Rattle.list_reader.proofs.Bytes.{is_byte, byte_there}
use Rattle.list_reader.proofs.byte.read_byte.Goals as goal

pub returns-then-has_byte-clause-some : goal.returns-then-has_byte-clause-some
returns-then-has_byte-clause-some c = is_byte c.args.text.now c.args.at c.args.byte (c.has_byte.ensures.0 c.if-has_byte.true)

pub returns-else-has_byte-clause-none : goal.returns-else-has_byte-clause-none
returns-else-has_byte-clause-none c = λ rest is.
    let yes = c.has_byte.ensures.1 (byte_there c.args.text.now c.args.at c.args.byte rest is) in
    let no = c.if-has_byte.false in
    absurd (cc)

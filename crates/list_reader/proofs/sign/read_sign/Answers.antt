use Rattle.pt_core.specs.declared.path.Sign.TheVariants.{Plus, Minus}
use Rattle.list_reader.proofs.Bytes.{is_byte}
use Rattle.list_reader.proofs.SignedAreas.{no_sign}
use Rattle.list_reader.proofs.sign.read_sign.Goals as goal

pub returns-then-has_byte-clause-some : goal.returns-then-has_byte-clause-some
returns-then-has_byte-clause-some c = (Plus, is_byte c.args.text.now c.args.at 43 (c.has_byte.ensures.0 c.if-has_byte.true))

pub returns-then-has_byte-2-clause-some : goal.returns-then-has_byte-2-clause-some
returns-then-has_byte-2-clause-some c = (Minus, is_byte c.args.text.now c.args.at 45 (c.has_byte-2.ensures.0 c.if-has_byte-2.true))

pub returns-clause-none : goal.returns-clause-none
returns-clause-none c =
    no_sign c.args.text.now c.args.at (λ there. let yes = c.has_byte.ensures.1 there in let no = c.if-has_byte.false in absurd (cc))
    (λ there. let yes = c.has_byte-2.ensures.1 there in let no = c.if-has_byte-2.false in absurd (cc))

use Rattle.std.proofs.Common.{arith}
use Rattle.pt_base.proofs.Decimals.{one_micro}
use Rattle.potrace_words.proofs.numbers.micro_at_most.Goals as goal

-- the text spells no other number
pub returns-else-n-most-clause-refused : goal.returns-else-n-most-clause-refused
returns-else-n-most-clause-refused c = λ n is few.
    let same = one_micro c.args.text.now c.in-Ok.n n c.in-Ok.ensures.ok.0 is in omega arith

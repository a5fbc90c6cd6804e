use Rattle.std.proofs.Common.{arith}
use Rattle.pt_base.proofs.Decimals.{one_micro}
use Rattle.mkbitmap_words.proofs.setup.level_of.Goals as goal

-- the text spells no other number
pub returns-else-n-le-GREATEST_LEVEL-clause-refused : goal.returns-else-n-le-GREATEST_LEVEL-clause-refused
returns-else-n-le-GREATEST_LEVEL-clause-refused c = λ n is few.
    let same = one_micro c.args.text.now c.in-Ok.n n c.in-Ok.ensures.ok.0 is in omega arith

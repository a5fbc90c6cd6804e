use Rattle.std.proofs.Common.{Option, Some, None, IfNone}
use Rattle.potrace_words.proofs.numbers.micro_or.Goals as goal

none_weaker : {A : Type 0} (o : Option A) (P Q : Type 0) → (P → Q) → IfNone o P → IfNone o Q
none_weaker None P Q f p = f p
none_weaker (Some x) P Q f p = p

-- the value is the one that was read
pub returns-in-Some-clause-refused : goal.returns-in-Some-clause-refused
returns-in-Some-clause-refused c = rw c.in-Some.is (none_weaker c.micro_at_most.result _ _ (λ h n a. h n a.0 a.1) c.micro_at_most.ensures.refused)

use Rattle.potrace_words.proofs.numbers.whole_or.Goals as goal

-- if there is a value, the default doesn't matter
pub returns-in-Some-clause-refused : goal.returns-in-Some-clause-refused
returns-in-Some-clause-refused c = rw c.in-Some.is (rw c.in-Some.is at c.whole_of.ensures.refused)

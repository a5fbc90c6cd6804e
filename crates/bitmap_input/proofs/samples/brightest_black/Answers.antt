use Rattle.bitmap_input.proofs.samples.brightest_black.Goals as goal

pub returns-in-Gray-clause-black : goal.returns-in-Gray-clause-black
returns-in-Gray-clause-black c = rw c.in-Gray.is c.gray_limit.ensures.black

pub returns-in-Color-clause-black : goal.returns-in-Color-clause-black
returns-in-Color-clause-black c = rw c.in-Color.is (λ a. c.color_limit.ensures.black a.0 a.1 a.2)

use Rattle.std.proofs.Common.{inl, inr, refl}
use Rattle.run_output.proofs.words.words_of.Goals as goal

-- memory ran out while the arguments were read
pub returns-in-Err-clause-says : goal.returns-in-Err-clause-says
returns-in-Err-clause-says g c =
    inr (refl, c.say_line.ensures.says)

-- an argument isn't UTF-8
pub returns-in-Err-2-clause-says : goal.returns-in-Err-2-clause-says
returns-in-Err-2-clause-says g c =
    inl (refl, c.say_line-in-Err-2.ensures.says)

-- memory ran out while the arguments were listed
pub returns-in-Err-behind_name-clause-says : goal.returns-in-Err-behind_name-clause-says
returns-in-Err-behind_name-clause-says g c =
    inr (
      refl,
      c.say_line-in-Err-behind_name.ensures.says,
    )

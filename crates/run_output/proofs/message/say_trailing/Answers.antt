use Rattle.std.proofs.Common.{◌∙◌}
use Rattle.run_output.proofs.message.say_trailing.Goals as goal

-- the line's pieces are the texts that the definition is made of
pub returns-clause-says : goal.returns-clause-says
returns-clause-says g c = rw (← c.as_bytes.ensures.value, ← (c.as_bytes-pages.ensures.value ∙ c.format.ensures.text)) c.say.ensures.says

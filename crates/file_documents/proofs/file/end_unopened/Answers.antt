use Rattle.std.proofs.Common.{inl, inr, refl}
use Rattle.file_documents.proofs.Differing.{unread_not_out}
use Rattle.file_documents.proofs.Ending.{halts_in, unopened_said}
use Rattle.file_documents.proofs.file.end_unopened.Goals as goal

-- all that was held is carried out
pub returns-in-Ok-clause-ends : goal.returns-in-Ok-clause-ends
returns-in-Ok-clause-ends g c = λ first are.
    unopened_said c.args.name.now first _ _ _ (c.in-Ok.ensures.ended first are) (record { outs = refl; opened = refl })
    c.say_not_opened.ensures.says

-- or it isn't
pub returns-in-Err-clause-ends : goal.returns-in-Err-clause-ends
returns-in-Err-clause-ends g c = λ first are.
    inr (halts_in c.in-Err.status _ _ _ _ _ c.in-Err.ensures.left, c.in-Err.ensures.ended first are)

pub returns-in-Err-clause-status : goal.returns-in-Err-clause-status
returns-in-Err-clause-status g c = inr (halts_in c.in-Err.status _ _ _ _ _ c.in-Err.ensures.left)

pub returns-in-Ok-clause-status : goal.returns-in-Ok-clause-status
returns-in-Ok-clause-status g c = inl refl

-- then nothing is, where memory ran out
pub returns-in-Err-clause-idle : goal.returns-in-Err-clause-idle
returns-in-Err-clause-idle g c = c.in-Err.ensures.idle

pub returns-in-Ok-clause-idle : goal.returns-in-Ok-clause-idle
returns-in-Ok-clause-idle g c = λ is. absurd (unread_not_out is)

-- the desk is the same
pub returns-in-Ok-clause-keeps : goal.returns-in-Ok-clause-keeps
returns-in-Ok-clause-keeps g c =
    let kept = c.carry_out.ensures.keeps in record { outs = kept.outs; errs = kept.errs; ready = c.say_not_opened.ensures.stays_ready; never_falls = kept.never_falls }

pub returns-in-Err-clause-keeps : goal.returns-in-Err-clause-keeps
returns-in-Err-clause-keeps g c = c.carry_out.ensures.keeps

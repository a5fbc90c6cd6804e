use Rattle.std.proofs.Common.{◌∙◌, ap, inl, inr, map, sym}
use Rattle.std.specs.Prelude.{string_bytes}
use Rattle.run_output.specs.Status.{code_of}
use Rattle.potrace_words.proofs.Possible.{possible}
use Rattle.potrace_main.proofs.Completing.{closed_else, code_one, failed_by, rose_by, run_absent, run_complete, run_near, run_unread, unwritten_by}
use Rattle.potrace_main.proofs.top.run.Goals as goal

pub returns-clause-outcome : goal.returns-clause-outcome
returns-clause-outcome g c = λ ask asked. (c.answer.result, c.code.ensures, (c.answer.ensures.ran ask asked).outcome)

pub returns-clause-complete : goal.returns-clause-complete
returns-clause-complete g c = λ ask asked.
    let all = run_complete (λ settings can output page is. c.pages_have_documents.ensures page settings is can) ask c.answer.result _ _ _ _ (possible (map string_bytes c.args.words.now) ask asked) (c.answer.ensures.ran ask asked) in (
      all.0,
      all.1,
      λ no_read no_write. (c.answer.result, c.code.ensures, all.2 no_read no_write),
    )

pub returns-clause-bad_words : goal.returns-clause-bad_words
returns-clause-bad_words g c = λ is. c.answer.ensures.bad_words (code_one c.answer.result _ (sym c.code.ensures ∙ is))

pub returns-clause-refused : goal.returns-clause-refused
returns-clause-refused g c = λ none. let (same, refuses) = c.answer.ensures.refused none in (same, (c.answer.result, c.code.ensures, refuses))

pub returns-clause-opened : goal.returns-clause-opened
returns-clause-opened g c = λ ask asked. (c.answer.ensures.ran ask asked).opened

pub returns-clause-near : goal.returns-clause-near
returns-clause-near g c = λ ask asked is. run_near ask c.answer.result _ _ _ _ (c.answer.ensures.ran ask asked) (code_one c.answer.result _ (sym c.code.ensures ∙ is))

pub returns-clause-one_pass : goal.returns-clause-one_pass
returns-clause-one_pass g c = λ ask asked is. (c.answer.ensures.ran ask asked).one_pass (code_one c.answer.result _ (sym c.code.ensures ∙ is))

pub returns-clause-one_batch : goal.returns-clause-one_batch
returns-clause-one_batch g c = λ ask asked is. (c.answer.ensures.ran ask asked).one_batch (code_one c.answer.result _ (sym c.code.ensures ∙ is))

pub returns-clause-unread : goal.returns-clause-unread
returns-clause-unread g c = λ ask asked is.
    run_unread ask c.answer.result _ _ _ _ (c.answer.ensures.ran ask asked) (code_one c.answer.result _ (sym c.code.ensures ∙ is))

pub returns-clause-absent : goal.returns-clause-absent
returns-clause-absent g c = λ ask name names asked listed absent.
    elim (run_absent ask c.answer.result name names _ _ _ _ (c.answer.ensures.ran ask asked) listed absent) [
      | inl unread ↦ inl (c.code.ensures ∙ ap code_of unread)
      | inr out ↦ inr (c.code.ensures ∙ ap code_of out)
    ]

pub returns-clause-read : goal.returns-clause-read
returns-clause-read g c = (c.answer.result, c.code.ensures, c.answer.ensures.input)

-- what the outputs did
pub returns-clause-unwritten : goal.returns-clause-unwritten
returns-clause-unwritten g c = λ is. rose_by _ c.answer.result _ _ c.answer.ensures.output (code_one c.answer.result _ (sym c.code.ensures ∙ is))

pub returns-clause-unwritten_always : goal.returns-clause-unwritten_always
returns-clause-unwritten_always g c = λ less. c.code.ensures ∙ ap code_of (unwritten_by _ c.answer.result _ _ c.answer.ensures.output less)

pub returns-clause-failed : goal.returns-clause-failed
returns-clause-failed g c = (c.answer.result, c.code.ensures, failed_by _ c.answer.result _ _ c.answer.ensures.output)

pub returns-clause-closed : goal.returns-clause-closed
returns-clause-closed g c = λ apart other. closed_else _ c.answer.result _ _ c.answer.ensures.output apart (λ is. other (c.code.ensures ∙ ap code_of is))

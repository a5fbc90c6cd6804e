use Rattle.std.proofs.Common.{◌≡◌, ℕ, ◌+◌, List, ◌++◌, OnOk, option_map, ◌∙◌, ap, subst, sym, arith}
use Rattle.run_output.specs.declared.part.Binding.TheVariants.{Together}
use Rattle.page_batches.specs.Inner.Held.{end_held, end_notes}
use Rattle.run_output.specs.Names.{document_name, next_name}
use Rattle.run_output.proofs.NameCounts.{next_name-made_with}
use Rattle.page_batches.proofs.Holding.{more_is_held}
use Rattle.file_documents.proofs.file.push_end.Goals as goal

-- no document is ended, so it needs no name
pub returns-in-Apart : goal.returns-in-Apart
returns-in-Apart c = record { held = rw c.in-Apart.is (more_is_held c.hold_end.result _ _ _ c.hold_end.ensures) }

-- the document has the next name
pub returns-in-Ok : goal.returns-in-Ok
returns-in-Ok c =
    let count : c.count.result + 0 + 1 ≡ c.count.result + 1 = omega arith in
    let named : next_name c.args.base.now c.args.made.now.made ≡ document_name c.args.base.now (c.count.result + 1) =
    next_name-made_with c.args.base.now c.count.result 0 c.args.made.now.made c.count.ensures.value ∙ ap (document_name c.args.base.now) count in
    let result = c.hold_end-in-Together.result in
    let held : List ℕ → Type 0 = λ name.
    OnOk result (c.hold_end-in-Together.new.self ≡ c.args.batch.now ++ end_held Together name c.args.pages (end_notes (option_map (λ s. s.now) c.args.trailing) c.args.pages)) in
    record { held = rw c.in-Together.is (subst held (c.deref.ensures ∙ c.in-Ok.ensures ∙ sym named) (more_is_held result _ _ _ c.hold_end-in-Together.ensures)) }

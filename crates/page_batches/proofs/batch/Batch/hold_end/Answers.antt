use Rattle.std.proofs.Common.{◌≡◌, ◌∙◌, ℕ, zero, suc, true, false, List, [], ◌∷◌, map, refl, sym, arith}
use denote.Enum.Bare.{sameb}
use borrow.Author.Tests.{ltb-false}
use lib.Dec.{ltb}
use Rattle.run_output.specs.Messages.{trailing_line}
use Rattle.run_output.specs.contracts.part.Binding.{the_type}
use Rattle.run_output.specs.declared.part.Binding.{Binding}
use Rattle.run_output.specs.declared.part.Binding.TheVariants.{Apart, Together}
use Rattle.page_batches.specs.Inner.Held.{end_held}
use Rattle.page_batches.specs.Held.Held.{Message}
use Rattle.page_batches.proofs.batch.Batch.hold_end.Goals as goal
use Rattle.page_batches.proofs.batch.Batch.hold_end.Goals.{then-eq, else-eq}

-- no document is open behind a file without pages, and none where each page has its own
without_pages : (b : Binding) (name : List ℕ) (pages : ℕ) (notes : List (List ℕ)) → ltb 0 pages ≡ false → end_held b name pages notes ≡ map Message notes
without_pages Apart name pages notes none = refl
without_pages Together name zero notes none = refl
without_pages Together name (suc k) notes none = absurd (omega (arith, ltb-false 0 (suc k) none))

bound_apart : (b : Binding) (name : List ℕ) (pages : ℕ) (notes : List (List ℕ)) → sameb the_type b Together ≡ false → end_held b name pages notes ≡ map Message notes
bound_apart Apart name pages notes other = refl
bound_apart Together name pages notes other = absurd (let no : true ≡ false = other in cc)

-- only the message is held
pub returns-in_ok-from_str-in-Some-2 : goal.returns-in_ok-from_str-in-Some-2
returns-in_ok-from_str-in-Some-2 c =
    let alone : end_held c.args.binding c.args.name.now c.args.pages (trailing_line c.in-Some-2.file.now c.args.pages ∷ []) ≡ Message (trailing_line c.in-Some-2.file.now c.args.pages) ∷ [] =
    elim c.if-eq.branch [
      | then-eq w ↦ without_pages c.args.binding c.args.name.now c.args.pages _ (sym w.is_begun-is ∙ c.if-is_begun.false)
      | else-eq w ↦ bound_apart c.args.binding c.args.name.now c.args.pages _ (sym c.eq.ensures ∙ w.if-eq.false)
    ] in
    rw (c.in-Some-2.is, alone, ← c.in_ok-from_str-in-Some-2.ensures.ok) c.push_trailing.ensures

-- If writing a part failed, the part is cut off as `IsCutIn` says, for a page and for the end of a document.
use Rattle.std.proofs.Common.{◌≡◌, ℕ, ◌+◌, Bool, true, false, List, [], ◌∷◌, length, take, Option, inr, sym, ◌∙◌, ap, arith, codes}
use Rattle.std.specs.Prelude.{decimal}
use Rattle.std.specs.List.{concat}
use Rattle.std.proofs.lemmas.List.{take_all}
use Rattle.pt_core.specs.Documents.{Documents, with_bytes}
use Rattle.run_output.specs.Parts.{IsCutIn, begun, end_part, is_first_page, page_part, part_in_pieces, prolog_before}
use Rattle.run_output.specs.declared.part.Binding.TheVariants.{Together}

-- a part is cut off if all of its bytes were written but the document wasn't ended
pub cut_at_end : (name : List ℕ) (begins : Bool) (pieces : List (List ℕ)) (ends : Bool) (old first mid new : Option Documents)
    → first ≡ begun begins old name → mid ≡ with_bytes first (concat pieces) → new ≡ mid → IsCutIn (part_in_pieces name begins pieces ends) old new
cut_at_end name begins pieces ends old first mid new b e same =
    let bytes = concat pieces in
    let all : take (length bytes) bytes ≡ bytes = take_all (length bytes) bytes (omega arith) in
    inr (length bytes, omega arith, same ∙ e ∙ ap (λ told. with_bytes told bytes) b ∙ ap (with_bytes (begun begins old name)) (sym all))

-- the pieces that the code writes for a page are those of `page_part`
pub page_cut_in : (old new : Option Documents) (name : List ℕ) (before : ℕ) (text prolog page : List ℕ) (first : Bool)
    → prolog ≡ prolog_before before → page ≡ decimal (before + 1) → first ≡ is_first_page before
    → IsCutIn (part_in_pieces name first (prolog ∷ codes "%%Page: " ∷ page ∷ codes " " ∷ page ∷ codes "\n" ∷ text ∷ []) false) old new
    → IsCutIn (page_part Together name before text) old new
page_cut_in old new name before text prolog page first h p f cut = rw (h, p, f) at cut

-- the pieces that the code writes at the end of a document are those of `end_part`
pub end_cut_in : (old new : Option Documents) (name : List ℕ) (pages : ℕ) (count : List ℕ) → count ≡ decimal pages
    → IsCutIn (part_in_pieces name false (codes "%%Trailer\n%%Pages: " ∷ count ∷ codes "\n%%EOF\n" ∷ []) true) old new
    → IsCutIn (end_part name pages []) old new
end_cut_in old new name pages count e cut = rw e at cut

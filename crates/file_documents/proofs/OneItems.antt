-- What a run is to write is one list, where it is told what the files hold.
use Rattle.std.proofs.Common.{◌≡◌, ℕ, suc, inl, inr, false, None, Some, List, [], ◌∷◌, ◌++◌, sym, ◌∙◌, ap, subst, arith}
use Rattle.pt_core.specs.Files.{Contents}
use Rattle.bitmap_input.specs.Cut.{FileEnd}
use Rattle.bitmap_input.specs.Cut.FileEnd.{End, Trailing, Refused}
use Rattle.bitmap_input.specs.Raw.{Raw}
use Rattle.bitmap_input.specs.FilePages.{FilePages}
use Rattle.bitmap_input.proofs.Files.{file_pages_same}
use Rattle.run_output.specs.Messages.{trailing_line}
use Rattle.run_output.specs.Made.{Past, past_file}
use Rattle.run_output.specs.Names.{next_name}
use Rattle.run_output.specs.declared.part.Binding.{Binding}
use Rattle.page_batches.specs.Items.{Item, end_items}
use Rattle.file_documents.specs.FileItems.{AreEndItems, AreItems, ArePageItems, FileEnds, HoldsPages, Rest, page_item}
use Rattle.file_documents.specs.Inner.Manner.{HasOneText}
use Rattle.file_documents.specs.Manner.{Manner, base_by, shown_by}

-- what follows is one list
abbrev IsOne : (List Item → Type 0) → Type 0
IsOne Follow = (one other : List Item) → Follow one → Follow other → one ≡ other

one_end : (b : Binding) (file name : List ℕ) (pages : ℕ) (ending : FileEnd) (Follow : List Item → Type 0) → IsOne Follow → IsOne (AreEndItems b file name pages ending Follow)
one_end b file name pages End Follow is_one one other this that =
    this.1 ∙ ap (λ (items : List Item). end_items b name pages [] ++ items) (is_one this.0 that.0 this.2 that.2) ∙ sym that.1
one_end b file name pages Trailing Follow is_one one other this that =
    this.1 ∙ ap (λ (items : List Item). end_items b name pages (trailing_line file pages ∷ []) ++ items) (is_one this.0 that.0 this.2 that.2) ∙ sym that.1
one_end b file name pages (Refused kind) Follow is_one one other this that = this ∙ sym that

-- what follows the pages of a file
one_file_end : (manner : Manner) (name base : List ℕ) (ending : FileEnd) (F : Rest) → ((past : Past) → IsOne (F past)) → (pages : ℕ) (past : Past)
    → IsOne (FileEnds manner name base ending F pages past)
one_file_end manner name base ending F is_one pages past =
    one_end manner.binding name (next_name base past.made) pages ending (F (past_file manner.binding base pages past)) (is_one (past_file manner.binding base pages past))

-- the items of some pages
one_page_list : (manner : Manner) → HasOneText manner → (name base : List ℕ) (Behind : ℕ → Rest) → ((pages : ℕ) (past : Past) → IsOne (Behind pages past)) → (raws : List Raw) (pages : ℕ)
    (past : Past) → IsOne (ArePageItems manner name base Behind raws pages past)
one_page_list manner single name base Behind is_one [] pages past one other a b = is_one pages past one other a b
one_page_list manner single name base Behind is_one (raw ∷ raws) pages past one other (inl (few, (text, rest, is, listed, follow))) (inl (few2, (text2, rest2, is2, listed2, follow2))) =
    let same = single (shown_by manner raw) text text2 is is2 in
    let rests = one_page_list manner single name base Behind is_one raws (suc pages) past rest rest2 follow follow2 in
    listed ∙ ap (λ (t : List ℕ). page_item manner base past pages t ∷ rest) same ∙ ap (λ (items : List Item). page_item manner base past pages text2 ∷ items) rests ∙ sym listed2
one_page_list manner single name base Behind is_one (raw ∷ raws) pages past one other (inl a) (inr b) = absurd (let few = a.0 in let many = b.0 in omega (arith, few, many))
one_page_list manner single name base Behind is_one (raw ∷ raws) pages past one other (inr a) (inl b) = absurd (let many = a.0 in let few = b.0 in omega (arith, few, many))
one_page_list manner single name base Behind is_one (raw ∷ raws) pages past one other (inr a) (inr b) = a.1 ∙ sym b.1

one_file : (contents : Contents) (name : List ℕ) (raws others : List Raw) (ending other : FileEnd) → HoldsPages (Some contents) name raws ending
    → HoldsPages (Some contents) name others other → (others ≡ raws) × (other ≡ ending)
one_file contents name raws others ending other (bytes, held, pages) (bytes2, held2, pages2) =
    let both : Some bytes2 ≡ Some bytes = sym held2 ∙ held in
    let same : bytes2 ≡ bytes = cc in
    file_pages_same pages (subst (λ (bs : List ℕ). FilePages false bs others other) same pages2)

-- the items of files
pub one_list : (contents : Contents) (manner : Manner) → HasOneText manner → (F : Rest) → ((past : Past) → IsOne (F past)) → (names : List (List ℕ)) (past : Past)
    → IsOne (AreItems (Some contents) manner F names past)
one_list contents manner single F is_one [] past one other a b = is_one past one other a b
one_list contents manner single F is_one (name ∷ names) past one other (inl a) (inl b) = a.1 ∙ sym b.1
one_list contents manner single F is_one (name ∷ names) past one other (inl (absent, is)) (inr (raws, ending, (bytes, held, pages), are)) =
    absurd (let e : None ≡ Some bytes = sym absent ∙ held in cc)
one_list contents manner single F is_one (name ∷ names) past one other (inr (raws, ending, (bytes, held, pages), are)) (inl (absent, is)) =
    absurd (let e : None ≡ Some bytes = sym absent ∙ held in cc)
one_list contents manner single F is_one (name ∷ names) past one other (inr (raws, ending, holds, are)) (inr (raws2, ending2, holds2, are2)) =
    let (same, ends) = one_file contents name raws raws2 ending ending2 holds holds2 in
    let base = base_by manner name in
    let G : Rest = AreItems (Some contents) manner F names in
    let again = subst (λ (e : FileEnd). ArePageItems manner name base (FileEnds manner name base e G) raws 0 past other) ends
    (subst (λ (rs : List Raw). ArePageItems manner name base (FileEnds manner name base ending2 G) rs 0 past other) same are2) in
    one_page_list manner single name base (FileEnds manner name base ending G)
    (one_file_end manner name base ending G (λ m. one_list contents manner single F is_one names m)) raws 0 past one other are again

-- There are items, whatever the files hold.
use Rattle.std.proofs.Common.{◌≡◌, ℕ, suc, ◌+◌, inl, inr, false, Bool, Option, Some, None, IfSome, List, [], ◌∷◌, ◌++◌, All, refl}
use Rattle.std.specs.FinMap.{get}
use Rattle.std.proofs.lemmas.Bool.{cases_lt}
use Rattle.std.proofs.lemmas.List.Elements.{All-head, All-nil, All-tail}
use Rattle.pt_core.specs.Files.{Contents}
use Rattle.bit_image.specs.Page.{IsPage}
use Rattle.bitmap_input.specs.Cut.{FileEnd}
use Rattle.bitmap_input.specs.Cut.FileEnd.{End, Trailing, Refused}
use Rattle.bitmap_input.specs.FaultText.{kind_text}
use Rattle.bitmap_input.specs.FilePages.{FilePages}
use Rattle.bitmap_input.specs.Raw.{Raw}
use Rattle.bitmap_input.proofs.Files.{file_pages_some}
use Rattle.bitmap_input.proofs.Sided.{pages_shown}
use Rattle.run_output.specs.Made.{Past, most_pages, past_file}
use Rattle.run_output.specs.Messages.{page_line, trailing_line}
use Rattle.run_output.specs.Names.{next_name}
use Rattle.run_output.specs.declared.part.Binding.{Binding}
use Rattle.page_batches.specs.Items.{Item, end_items}
use Rattle.page_batches.specs.Items.Item.{Missing, Refuse}
use Rattle.file_documents.specs.FileItems.{AreEndItems, AreItems, ArePageItems, FileEnds, Nothing, Rest, page_item, too_many}
use Rattle.file_documents.specs.Manner.{HasTexts, Manner, base_by, shown_by}

end_items_found : (b : Binding) (file name : List ℕ) (pages : ℕ) (ending : FileEnd) (Follow : List Item → Type 0) → (items : List Item) × Follow items
    → (items : List Item) × AreEndItems b file name pages ending Follow items
end_items_found b file name pages End Follow (rest, follow) = (end_items b name pages [] ++ rest, (rest, refl, follow))
end_items_found b file name pages Trailing Follow (rest, follow) = (end_items b name pages (trailing_line file pages ∷ []) ++ rest, (rest, refl, follow))
end_items_found b file name pages (Refused kind) Follow (rest, follow) = (Refuse (page_line file (pages + 1) (kind_text kind)) ∷ [], refl)

-- what follows the pages of a file
file_end_found : (manner : Manner) (name base : List ℕ) (ending : FileEnd) (F : Rest) → ((past : Past) → (items : List Item) × F past items)
    → (pages : ℕ) (past : Past) → (items : List Item) × FileEnds manner name base ending F pages past items
file_end_found manner name base ending F found pages past =
    end_items_found manner.binding name (next_name base past.made) pages ending (F (past_file manner.binding base pages past)) (found (past_file manner.binding base pages past))

-- the pages all show a page
abbrev pub AreShown : Manner → List Raw → Type 0
AreShown manner raws = All (λ raw. IsPage (shown_by manner raw)) raws

pub page_items_found : (manner : Manner) → HasTexts manner → (name base : List ℕ) (Behind : ℕ → Rest)
    → ((pages : ℕ) (past : Past) → (items : List Item) × Behind pages past items) → (raws : List Raw) → AreShown manner raws → (pages : ℕ) (past : Past)
    → (items : List Item) × ArePageItems manner name base Behind raws pages past items
page_items_found manner can name base Behind found [] shows pages past = found pages past
page_items_found manner can name base Behind found (raw ∷ raws) shows pages past =
    let P : Raw → Type 0 = λ r. IsPage (shown_by manner r) in
    elim (cases_lt (pages + past.pages) most_pages) [
      | inl few ↦
          let text = can (shown_by manner raw) (All-head P raw raws shows) in
          let rest = page_items_found manner can name base Behind found raws (All-tail P raw raws shows) (suc pages) past in
          (page_item manner base past pages text.0 ∷ rest.0, inl (few, (text.0, rest.0, text.1, refl, rest.1)))
      | inr many ↦ (Refuse (page_line name (pages + 1) too_many) ∷ [], inr (many, refl))
    ]

-- the items of some pages of a file, and of what follows it
pub file_pages_found : (manner : Manner) → HasTexts manner → (name base : List ℕ) (ending : FileEnd) (F : Rest)
    → ((past : Past) → (items : List Item) × F past items) → (raws : List Raw) → AreShown manner raws → (pages : ℕ) (past : Past)
    → (items : List Item) × ArePageItems manner name base (FileEnds manner name base ending F) raws pages past items
file_pages_found manner can name base ending F found =
    page_items_found manner can name base (FileEnds manner name base ending F) (file_end_found manner name base ending F found)

-- the pages of what is left of a file, or none where that isn't told
pub record HasPages (manner : Manner) (later : Bool) (rest : Option (List ℕ)) : Type 0 where
  pub raws : List Raw
  pub ending : FileEnd
  pub pages : IfSome rest (λ left. FilePages later left raws ending)
  pub shows : AreShown manner raws

pub pages_found : (manner : Manner) (later : Bool) (rest : Option (List ℕ)) → HasPages manner later rest
pages_found manner later None = record { raws = []; ending = End; pages = tt; shows = All-nil (λ raw. IsPage (shown_by manner raw)) }
pages_found manner later (Some left) =
    let (raws, ending, pages) = file_pages_some later left in
    record { raws = raws; ending = ending; pages = pages; shows = pages_shown manner.level manner.invert pages }

-- the items of a file and of those behind it
file_items_found : (contents : Contents) (manner : Manner) → HasTexts manner → (name : List ℕ) (names : List (List ℕ))
    → ((past : Past) → (items : List Item) × AreItems (Some contents) manner Nothing names past items) → (past : Past)
    → (held : Option (List ℕ)) → get contents name ≡ held → (items : List Item) × AreItems (Some contents) manner Nothing (name ∷ names) past items
file_items_found contents manner can name names behind past None is = (Missing name ∷ [], inl (is, refl))
file_items_found contents manner can name names behind past (Some bytes) is =
    let (raws, ending, pages) = file_pages_some false bytes in
    let items = file_pages_found manner can name (base_by manner name) ending (AreItems (Some contents) manner Nothing names)
    behind raws (pages_shown manner.level manner.invert pages) 0 past in
    (items.0, inr (raws, ending, (bytes, is, pages), items.1))

-- the items of files
pub items_found : (contents : Option Contents) (manner : Manner) → HasTexts manner → (names : List (List ℕ)) (past : Past)
    → (items : List Item) × AreItems contents manner Nothing names past items
items_found contents manner can [] past = ([], refl)
items_found None manner can (name ∷ names) past =
    let rest = file_pages_found manner can name (base_by manner name) End (AreItems None manner Nothing names) (λ m. items_found None manner can names m) []
    (All-nil (λ raw. IsPage (shown_by manner raw))) 0 past in
    (rest.0, inr ([], End, tt, rest.1))
items_found (Some contents) manner can (name ∷ names) past =
    file_items_found contents manner can name names (λ m. items_found (Some contents) manner can names m) past (get contents name) refl

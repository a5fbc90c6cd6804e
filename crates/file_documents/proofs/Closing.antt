-- Where each page is a document of its own, each document of a run over files is whole or cut off: none is left open
-- between two items.
use Rattle.std.proofs.Common.{◌≡◌, ℕ, suc, Bool, false, not, List, [], ◌∷◌, ◌++◌, map, Option, inl, inr, refl, sym, ◌∙◌, ap, subst}
use Rattle.pt_core.specs.Files.{Contents}
use Rattle.bitmap_input.specs.Cut.{FileEnd}
use Rattle.bitmap_input.specs.Cut.FileEnd.{End, Trailing, Refused}
use Rattle.bitmap_input.specs.Raw.{Raw}
use Rattle.run_output.specs.Made.{Past, page_name, past_file}
use Rattle.run_output.specs.Messages.{trailing_line}
use Rattle.run_output.specs.Names.{next_name}
use Rattle.run_output.specs.Parts.{Part, page_part, whole}
use Rattle.run_output.specs.declared.part.Binding.{Binding}
use Rattle.run_output.specs.declared.part.Binding.TheVariants.{Apart, Together}
use Rattle.page_batches.specs.Items.{Item, end_items, is_open_behind}
use Rattle.page_batches.specs.Items.Item.{Missing, Note, Refuse, Write}
use Rattle.page_batches.specs.ItemsDone.{AreCarriedOut}
use Rattle.run_output.specs.Told.{Sinks}
use Rattle.file_documents.specs.FileItems.{AreItems, ArePageItems, AreWhole, FileEnds, Nothing, PagesAlone, Rest}
use Rattle.file_documents.specs.Manner.{Manner, base_by}

-- the first of whole documents
pub AreWhole-front : (items more : List Item) → AreWhole (items ++ more) → AreWhole items
AreWhole-front [] more all = tt
AreWhole-front (Write part ∷ items) more all = (all.0, AreWhole-front items more all.1)
AreWhole-front (Note message ∷ items) more all = AreWhole-front items more all
AreWhole-front (Refuse message ∷ items) more all = AreWhole-front items more all
AreWhole-front (Missing name ∷ items) more all = AreWhole-front items more all

-- behind them no document is open
closed_behind : (is_open : Bool) (items : List Item) → AreWhole items → is_open ≡ false → is_open_behind is_open items ≡ false
closed_behind is_open [] all closed = closed
closed_behind is_open (Write part ∷ items) all closed = closed_behind (not part.ends) items all.1 (ap (λ (p : Part). not p.ends) all.0)
closed_behind is_open (Note message ∷ items) all closed = closed_behind is_open items all closed
closed_behind is_open (Refuse message ∷ items) all closed = closed_behind is_open items all closed
closed_behind is_open (Missing name ∷ items) all closed = closed_behind is_open items all closed

-- whole documents were written: the outputs' count of faults stayed, and no document is open
pub carried_closed : (items : List Item) (last : List (List ℕ)) (a b : Sinks) → AreCarriedOut items last a b → AreWhole items → a.is_open ≡ false
    → (b.outs.faults ≡ a.outs.faults) × (b.is_open ≡ false)
carried_closed items last a b done all closed = (done.went.steady, done.opened ∙ closed_behind a.is_open items all closed)

-- what follows writes whole documents
abbrev pub WritesWhole : Rest → Type 0
WritesWhole F = (past : Past) (items : List Item) → F past items → AreWhole items

pub nothing_ends : WritesWhole Nothing
nothing_ends past items none = subst AreWhole (sym none) tt

-- and so do the items of the end of a file, where each page is a document of its own
AreWhole-notes : (messages : List (List ℕ)) (rest : List Item) → AreWhole rest → AreWhole (map Note messages ++ rest)
AreWhole-notes [] rest all = all
AreWhole-notes (message ∷ messages) rest all = AreWhole-notes messages rest all

whole_end : (b : Binding) → b ≡ Apart → (name : List ℕ) (pages : ℕ) (messages : List (List ℕ)) (rest : List Item) → AreWhole rest
    → AreWhole (end_items b name pages messages ++ rest)
whole_end Apart apart name pages messages rest all = AreWhole-notes messages rest all
whole_end Together apart name pages messages rest all = absurd (let no : Together ≡ Apart = apart in cc)

-- a page is a whole document
whole_page : (b : Binding) → b ≡ Apart → (name : List ℕ) (pages : ℕ) (text : List ℕ)
    → page_part b name pages text ≡ whole (page_part b name pages text).name (page_part b name pages text).bytes
whole_page Apart apart name pages text = refl
whole_page Together apart name pages text = absurd (let no : Together ≡ Apart = apart in cc)

-- what follows the pages of a file
file_end : (manner : Manner) → manner.binding ≡ Apart → (name base : List ℕ) (ending : FileEnd) (F : Rest) → WritesWhole F → (pages : ℕ) → WritesWhole (FileEnds manner name base ending F pages)
file_end manner apart name base End F ends pages past items (rest, is, follow) =
    subst AreWhole (sym is) (whole_end manner.binding apart (next_name base past.made) pages [] rest (ends (past_file manner.binding base pages past) rest follow))
file_end manner apart name base Trailing F ends pages past items (rest, is, follow) =
    subst AreWhole (sym is)
    (whole_end manner.binding apart (next_name base past.made) pages (trailing_line name pages ∷ []) rest (ends (past_file manner.binding base pages past) rest follow))
file_end manner apart name base (Refused kind) F ends pages past items is = subst AreWhole (sym is) tt

-- the items of the pages of a file
pages_end : (manner : Manner) → manner.binding ≡ Apart → (name base : List ℕ) (Behind : ℕ → Rest) → ((pages : ℕ) → WritesWhole (Behind pages)) → (raws : List Raw) (pages : ℕ)
    → WritesWhole (ArePageItems manner name base Behind raws pages)
pages_end manner apart name base Behind ends [] pages past items are = ends pages past items are
pages_end manner apart name base Behind ends (raw ∷ raws) pages past items (inl (few, (text, rest, is_text, is, are))) =
    subst AreWhole (sym is) (
      whole_page manner.binding apart (page_name manner.binding base past.made pages) pages text,
      pages_end manner apart name base Behind ends raws (suc pages) past rest are,
    )
pages_end manner apart name base Behind ends (raw ∷ raws) pages past items (inr (full, is)) = subst AreWhole (sym is) tt

-- the items of pages of a file, and nothing behind them
pub alone_end : (manner : Manner) → manner.binding ≡ Apart → (name : List ℕ) (raws : List Raw)
    → WritesWhole (λ past items. ArePageItems manner name (base_by manner name) PagesAlone raws 0 past items)
alone_end manner apart name raws = pages_end manner apart name (base_by manner name) PagesAlone (λ pages. nothing_ends) raws 0

-- the items of files
pub items_end : (contents : Option Contents) (manner : Manner) → manner.binding ≡ Apart → (F : Rest) → WritesWhole F → (names : List (List ℕ)) → WritesWhole (AreItems contents manner F names)
items_end contents manner apart F ends [] past items are = ends past items are
items_end contents manner apart F ends (name ∷ names) past items (inl (absent, is)) = subst AreWhole (sym is) tt
items_end contents manner apart F ends (name ∷ names) past items (inr (raws, ending, holds, are)) =
    pages_end manner apart name (base_by manner name) (FileEnds manner name (base_by manner name) ending (AreItems contents manner F names))
    (file_end manner apart name (base_by manner name) ending (AreItems contents manner F names) (items_end contents manner apart F ends names)) raws 0 past items are

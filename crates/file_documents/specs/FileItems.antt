-- What a run over files has to write, in order. It follows from the command line and from the contents of the files.
use Rattle.std.specs.Prelude.{◌≡◌, ℕ, suc, ◌+◌, ◌<◌, ◌≤◌, ◌⊎◌, false, List, [], ◌∷◌, ◌++◌, codes, Option, None, Some}
use Rattle.std.specs.FinMap.{get}
use Rattle.pt_core.specs.Files.{Contents, Files}
use Rattle.bitmap_input.specs.Cut.{FileEnd}
use Rattle.bitmap_input.specs.Cut.FileEnd.{End, Trailing, Refused}
use Rattle.bitmap_input.specs.FaultText.{kind_text}
use Rattle.bitmap_input.specs.Raw.{Raw}
use Rattle.bitmap_input.specs.FilePages.{FilePages}
use Rattle.run_output.specs.Made.{Past, most_pages, page_name, past_file}
use Rattle.run_output.specs.Messages.{page_line, trailing_line}
use Rattle.run_output.specs.Names.{next_name}
use Rattle.run_output.specs.Parts.{page_part, whole}
use Rattle.run_output.specs.declared.part.Binding.{Binding}
use Rattle.page_batches.specs.Items.{Item, end_items}
use Rattle.page_batches.specs.Items.Item.{Missing, Refuse, Write}
use Rattle.file_documents.specs.Manner.{Manner, base_by, shown_by}

-- the message that a run has more pages than it accepts
abbrev pub too_many : List ℕ
too_many = codes "too many pages"

-- the contents of the files, if they are known
abbrev pub told_contents : Option Files → Option Contents
told_contents None = None
told_contents (Some files) = Some files.contents

-- it is known that there is no file of this name
abbrev pub IsAbsent : Option Contents → List ℕ → Type 0
IsAbsent None name = ⊥
IsAbsent (Some contents) name = get contents name ≡ None

-- the file of this name holds these pages, and ends so; if its contents aren't known, it may hold any pages
abbrev pub HoldsPages : Option Contents → List ℕ → List Raw → FileEnd → Type 0
HoldsPages None name raws ending = Unit {0}
HoldsPages (Some contents) name raws ending = (bytes : List ℕ) × (get contents name ≡ Some bytes) × FilePages false bytes raws ending

-- how a list of items goes on: from what was made before, the items that follow
abbrev pub Rest : Type 1
Rest = Past → List Item → Type 0

-- nothing follows
abbrev pub Nothing : Rest
Nothing past items = items ≡ []

-- nothing follows the pages of a file of which this many were read
abbrev pub PagesAlone : ℕ → Rest
PagesAlone pages past items = items ≡ []

-- the page with this text, after `pages` pages of its file, as a part of its document
abbrev pub page_item : Manner → List ℕ → Past → ℕ → List ℕ → Item
page_item manner base past pages text =
    Write (page_part manner.binding (page_name manner.binding base past.made pages) pages text)

-- the items after the last page of a file, by how the file ends. If it ends well or with trailing bytes: the items of
-- its end, and then what follows. If it ends with a refusal: the refusal's message is the last item, and no document
-- is ended.
abbrev pub AreEndItems : Binding → List ℕ → List ℕ → ℕ → FileEnd → (List Item → Type 0) → List Item → Type 0
AreEndItems b file name pages End Follow items = (rest : List Item) × (items ≡ end_items b name pages [] ++ rest) × Follow rest
AreEndItems b file name pages Trailing Follow items =
    (rest : List Item) × (items ≡ end_items b name pages (trailing_line file pages ∷ []) ++ rest) × Follow rest
AreEndItems b file name pages (Refused kind) Follow items = items ≡ Refuse (page_line file (pages + 1) (kind_text kind)) ∷ []

-- the pages of a file, after the given number of earlier ones: for each the part of a document with its text, and then
-- what follows them. The run ends with the first page that is too many.
abbrev pub ArePageItems : Manner → List ℕ → List ℕ → (ℕ → Rest) → List Raw → ℕ → Past → List Item → Type 0
ArePageItems manner file base Behind [] pages past items = Behind pages past items
ArePageItems manner file base Behind (raw ∷ raws) pages past items =
    ((pages + past.pages < most_pages) × ((text : List ℕ) × (rest : List Item) × manner.belongs (shown_by manner raw) text
    × (items ≡ page_item manner base past pages text ∷ rest) × ArePageItems manner file base Behind raws (suc pages) past rest))
    ⊎ ((most_pages ≤ pages + past.pages) × (items ≡ Refuse (page_line file (pages + 1) too_many) ∷ []))

-- what follows the pages of a file that ends like this, and then what follows the file
abbrev pub FileEnds : Manner → List ℕ → List ℕ → FileEnd → Rest → ℕ → Rest
FileEnds manner file base ending Follow pages past items =
    AreEndItems manner.binding file (next_name base past.made) pages ending (Follow (past_file manner.binding base pages past)) items

-- the items of the files of these names in order, after what was made before, and then what follows them; the run ends
-- with a file that is missing
abbrev pub AreItems : Option Contents → Manner → Rest → List (List ℕ) → Past → List Item → Type 0
AreItems contents manner Follow [] past items = Follow past items
AreItems contents manner Follow (name ∷ names) past items =
    (IsAbsent contents name × (items ≡ Missing name ∷ []))
    ⊎ ((raws : List Raw) × (ending : FileEnd) × HoldsPages contents name raws ending
    × ArePageItems manner name (base_by manner name)
    (FileEnds manner name (base_by manner name) ending (AreItems contents manner Follow names)) raws 0 past items)

-- each part of the items is a whole document
abbrev pub AreWhole : List Item → Type 0
AreWhole [] = Unit {0}
AreWhole (Write part ∷ items) = (part ≡ whole part.name part.bytes) × AreWhole items
AreWhole (item ∷ items) = AreWhole items

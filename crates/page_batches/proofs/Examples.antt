-- A file of two pages of 8 by 8 black pixels, whose pages are bound together or apart.
use Rattle.std.proofs.Common.{◌≡◌, ℕ, true, false, None, Some, List, [], ◌∷◌, ◌++◌, refl, codes}
use Rattle.std.specs.Fmt.{digits}
use Rattle.pt_core.specs.Inner.Documents.{no_documents}
use Rattle.run_output.specs.Messages.{trailing_line}
use Rattle.run_output.specs.Names.{dash}
use Rattle.run_output.specs.Parts.{page_part}
use Rattle.run_output.specs.declared.part.Binding.TheVariants.{Apart, Together}
use Rattle.page_batches.specs.Inner.Held.{end_held, is_open_held}
use Rattle.page_batches.specs.Held.Held.{Message}
use Rattle.page_batches.specs.Items.{Doc, Item, end_items, is_open_behind, notes, page_count, page_items, with_items}
use Rattle.page_batches.specs.Items.Item.{Note, Refuse, Write}

-- the lines of a page
abbrev body : List ℕ
body = codes "gsave\n1 10 div dup scale\n40 80 moveto\n-40 0 rlineto\n0 -40 rlineto\n0 -40 rlineto\n40 0 rlineto\n40 0 rlineto\n0 40 rlineto\n0 40 rlineto\n-40 0 rlineto\nclosepath\neofill\ngrestore\nshowpage\n"

-- all items of the file, where it ends well
abbrev three : List Item
three = page_items Together dash 0 (body ∷ body ∷ []) ++ end_items Together dash 2 []

-- they are one whole document
one_document : with_items (Some no_documents) three ≡ Some (record {
  whole = record {
    name = codes "-";
    bytes = codes "%!PS-Adobe-3.0\n%%Pages: (atend)\n%%EndComments\n%%Page: 1 1\n" ++ body ++ codes "%%Page: 2 2\n" ++ body ++ codes "%%Trailer\n%%Pages: 2\n%%EOF\n";
  } ∷ [];
  last_open = None;
})
unfolding digits
one_document = refl

closed_behind : is_open_behind false three ≡ false
closed_behind = refl

two_pages : page_count three ≡ 2
two_pages = refl

-- its second page is refused: the document stays open behind the first one
abbrev cut_short : List Item
cut_short = Write (page_part Together dash 0 body) ∷ Refuse (codes "refused") ∷ []

open_document : with_items (Some no_documents) cut_short ≡ Some (record {
  whole = [];
  last_open = Some (record {
    name = codes "-";
    bytes = codes "%!PS-Adobe-3.0\n%%Pages: (atend)\n%%EndComments\n%%Page: 1 1\n" ++ body;
  });
})
unfolding digits
open_document = refl

open_behind : is_open_behind false cut_short ≡ true
open_behind = refl

-- trailing bytes are told behind the document's end
noted : notes (page_items Together dash 0 (body ∷ []) ++ end_items Together dash 1 (trailing_line dash 1 ∷ [])) ≡ trailing_line dash 1 ∷ []
noted = refl

-- the pages apart: a document for each, and nothing at the file's end but its note
apart : page_items Apart dash 0 (body ∷ body ∷ []) ++ end_items Apart dash 2 (codes "note" ∷ []) ≡ Doc dash body ∷ Doc dash body ∷ Note (codes "note") ∷ []
apart = refl

two_documents : with_items (Some no_documents) (page_items Apart dash 0 (body ∷ body ∷ [])) ≡ Some (record {
  whole = record { name = codes "-"; bytes = body } ∷ record { name = codes "-"; bytes = body } ∷ [];
  last_open = None;
})
two_documents = refl

-- a file without a page has no document to end
nothing_to_end : end_held Together dash 0 (codes "note" ∷ []) ≡ Message (codes "note") ∷ []
nothing_to_end = refl

ended_once : is_open_held Together true (end_held Together dash 2 []) ≡ false
ended_once = refl

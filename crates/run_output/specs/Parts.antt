-- Documents in parts: how pages become parts of documents, and what a part adds to the documents. PostScript
-- documents follow the Document Structuring Conventions 3.0: a prolog, the pages, a trailer.
use Rattle.std.specs.Prelude.{◌≡◌, ◌≤◌, ◌⊎◌, ℕ, zero, suc, ◌+◌, Bool, true, false, List, [], ◌∷◌, ◌++◌, length, take, Option, codes, decimal}
use Rattle.std.specs.List.{concat}
use Rattle.pt_core.specs.Documents.{Documents, with_bytes, with_end, with_open}
use Rattle.pt_core.specs.declared.settings.Backend.{Backend}
use Rattle.pt_core.specs.declared.settings.Backend.TheVariants.{Eps, Ps, Svg, Dxf, GeoJson, Points, Polygons, Proofs}
use Rattle.run_output.specs.declared.part.Binding.{Binding}
use Rattle.run_output.specs.declared.part.Binding.TheVariants as binding

-- a part of a document: it begins the document of this name, or continues the open document, which has that name; its
-- bytes are appended; it ends the document, or leaves it open; and then these messages are written
pub record Part : Type 0 where
  pub name : List ℕ
  pub begins : Bool
  pub bytes : List ℕ
  pub ends : Bool
  pub notes : List (List ℕ)

-- a part that is made of the given pieces, without messages
abbrev pub part_in_pieces : List ℕ → Bool → List (List ℕ) → Bool → Part
part_in_pieces name begins pieces ends =
    record { name = name; begins = begins; bytes = concat pieces; ends = ends; notes = [] }

-- a whole document as one part
abbrev pub whole : List ℕ → List ℕ → Part
whole name text = record { name = name; begins = true; bytes = text; ends = true; notes = [] }

-- the prolog of a PostScript document
abbrev pub prolog_text : List ℕ
prolog_text = codes "%!PS-Adobe-3.0\n%%Pages: (atend)\n%%EndComments\n"

-- page p of a PostScript document, in pieces; pages are counted from 1
abbrev pub page_pieces : ℕ → List ℕ → List (List ℕ)
page_pieces p text = codes "%%Page: " ∷ decimal p ∷ codes " " ∷ decimal p ∷ codes "\n" ∷ text ∷ []

-- the trailer of a PostScript document of n pages
abbrev pub trailer_text : ℕ → List ℕ
trailer_text n = concat (codes "%%Trailer\n%%Pages: " ∷ decimal n ∷ codes "\n%%EOF\n" ∷ [])

-- whether a page is the first one of its file, by the number of pages before it
abbrev pub is_first_page : ℕ → Bool
is_first_page zero = true
is_first_page (suc before) = false

-- what comes before a page, by the number of pages before it: the prolog before the first one, and nothing before
-- others
abbrev pub prolog_before : ℕ → List ℕ
prolog_before zero = prolog_text
prolog_before (suc before) = []

-- how the pages of a file become documents of a backend: only PostScript puts them all into one
abbrev pub binding_of : Backend → Binding
binding_of Ps = binding.Together
binding_of Eps = binding.Apart
binding_of Svg = binding.Apart
binding_of Dxf = binding.Apart
binding_of GeoJson = binding.Apart
binding_of Points = binding.Apart
binding_of Polygons = binding.Apart
binding_of Proofs = binding.Apart

-- the part that is the page of this text, after this number of pages of its file
abbrev pub page_part : Binding → List ℕ → ℕ → List ℕ → Part
page_part binding.Apart name before text = whole name text
page_part binding.Together name before text =
    part_in_pieces name (is_first_page before) (prolog_before before ∷ page_pieces (before + 1) text) false

-- the part that ends a PostScript document of this number of pages and then writes these messages
abbrev pub end_part : List ℕ → ℕ → List (List ℕ) → Part
end_part name pages notes =
    record { name = name; begins = false; bytes = trailer_text pages; ends = true; notes = notes }

-- the pages with the given texts in order, after this number of pages of their file
abbrev pub pages_text : ℕ → List (List ℕ) → List ℕ
pages_text before [] = []
pages_text before (text ∷ texts) = concat (page_pieces (before + 1) text) ++ pages_text (suc before) texts

-- the PostScript document of a file that has pages with these texts
abbrev pub file_text : List (List ℕ) → List ℕ
file_text texts = (prolog_text ++ pages_text 0 texts) ++ trailer_text (length texts)

-- the documents after a document of this name is begun, if it is to be begun
abbrev pub begun : Bool → Option Documents → List ℕ → Option Documents
begun true told name = with_open told name []
begun false told name = told

-- the documents after the open document is ended, if it is to be ended
abbrev pub ended : Bool → Option Documents → Option Documents
ended true told = with_end told
ended false told = told

-- the documents after this part is written
abbrev pub with_part : Option Documents → Part → Option Documents
with_part told part = ended part.ends (with_bytes (begun part.begins told part.name) part.bytes)

-- the part was cut off: nothing of it was written, or a prefix of its bytes was, in a document that isn't ended
abbrev pub IsCutIn : Part → Option Documents → Option Documents → Type 0
IsCutIn part old new =
    (new ≡ old)
    ⊎ ((n : ℕ) × (n ≤ length part.bytes) × (new ≡ with_bytes (begun part.begins old part.name) (take n part.bytes)))

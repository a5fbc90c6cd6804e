-- The pages of a PostScript document (PostScript Language Document Structuring Conventions, version 3.0: the comments
-- `%!PS-Adobe-3.0`, `%%Pages`, `%%EndComments`, `%%Page`, `%%Trailer` and `%%EOF`). Covered is a document of these comments
-- alone: a header that leaves the number of pages to the end, pages, and a trailer that tells it. A comment begins its
-- line. Outside are other comments of the conventions, prologs and setups, and lines with carriage returns. How long
-- a line is isn't looked at.
use Rattle.std.specs.Prelude.{ℕ, ◌+◌, ◌==◌, Bool, true, false, cond, if◌then◌else◌, List, [], ◌∷◌, ◌++◌, codes, length, Option, Some, None, option_and_then, bytes_eq}
use Rattle.document_readings.specs.WholeNumbers.{natural_of}
use Rattle.document_readings.specs.TextLines.{spaced_words, text_lines}

-- what a line of a document is
pub data DscLine : Type 0 where
  version : DscLine  -- `%!PS-Adobe-3.0`: it keeps to the conventions
  number_at_end : DscLine  -- `%%Pages: (atend)`: the number of pages comes in the trailer
  end_of_header : DscLine  -- `%%EndComments`
  page : Option ℕ → DscLine  -- `%%Page:`, a label, and the page's ordinal number, counted from 1
  trailer : DscLine  -- `%%Trailer`
  number : Option ℕ → DscLine  -- `%%Pages:` and the number of pages
  end_of_document : DscLine  -- `%%EOF`
  program : DscLine  -- part of the program
  outside : DscLine  -- another comment of the conventions

-- the comment of one word, of two, or of three
abbrev pub comment_of : List (List ℕ) → DscLine
comment_of (first ∷ []) =
    cond (bytes_eq first (codes "%!PS-Adobe-3.0")) version (cond (bytes_eq first (codes "%%EndComments")) end_of_header
    (cond (bytes_eq first (codes "%%Trailer")) trailer (cond (bytes_eq first (codes "%%EOF")) end_of_document outside)))
comment_of (first ∷ second ∷ []) =
    cond (bytes_eq first (codes "%%Pages:")) (cond (bytes_eq second (codes "(atend)")) number_at_end (number (natural_of second))) outside
comment_of (first ∷ label ∷ ordinal ∷ []) = cond (bytes_eq first (codes "%%Page:")) (page (natural_of ordinal)) outside
comment_of words = outside

-- the line begins with `%%` or `%!`
abbrev pub is_comment_line : List ℕ → Bool
is_comment_line (first ∷ second ∷ rest) = cond (first == 37) (cond (second == 37) true (second == 33)) false
is_comment_line line = false

-- what this line is
abbrev pub dsc_line : List ℕ → DscLine
dsc_line line = cond (is_comment_line line) (comment_of (spaced_words line)) program

-- where the document has come to
pub data DscState : Type 0 where
  at_version : DscState  -- before its first line
  in_header : Bool → DscState  -- in its header, and whether that has left the number of pages to the end
  before_pages : DscState  -- behind the header
  in_page : List (List ℕ) → List ℕ → DscState  -- behind the texts of pages, in one of which this text came
  in_trailer : List (List ℕ) → DscState  -- behind the texts of all pages
  counted : List (List ℕ) → DscState  -- behind their number
  ended : List (List ℕ) → DscState  -- at its end

-- so many are told: it is this number
abbrev pub is_told : Option ℕ → ℕ → Bool
is_told None n = false
is_told (Some told) n = told == n

-- what a line does: pages are numbered in order, and are as many as is told
abbrev pub dsc_step : DscState → DscLine → List ℕ → Option DscState
dsc_step at_version version line = Some (in_header false)
dsc_step (in_header false) number_at_end line = Some (in_header true)
dsc_step (in_header true) end_of_header line = Some before_pages
dsc_step before_pages (page told) line = if is_told told 1 then Some (in_page [] []) else None
dsc_step before_pages trailer line = Some (in_trailer [])
dsc_step (in_page done text) program line = Some (in_page done (text ++ line ++ 10 ∷ []))
dsc_step (in_page done text) (page told) line = if is_told told (length done + 2) then Some (in_page (done ++ text ∷ []) []) else None
dsc_step (in_page done text) trailer line = Some (in_trailer (done ++ text ∷ []))
dsc_step (in_trailer pages) (number told) line = if is_told told (length pages) then Some (counted pages) else None
dsc_step (counted pages) end_of_document line = Some (ended pages)
dsc_step state kind line = None

-- the texts of the pages, where the document has ended, and nothing stands behind its last line feed
abbrev pub pages_by : DscState → List (List ℕ) → Option (List (List ℕ))
pages_by (ended pages) ([] ∷ []) = Some pages
pages_by state [] = None
pages_by state (line ∷ lines) = option_and_then (λ next. pages_by next lines) (dsc_step state (dsc_line line) line)

-- the texts of the pages of a document
abbrev pub dsc_pages : List ℕ → Option (List (List ℕ))
dsc_pages text = pages_by at_version (text_lines text)

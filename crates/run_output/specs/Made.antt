-- What a run made, file by file: documents and their pages.
use Rattle.std.specs.Prelude.{ℕ, zero, suc, ◌+◌, List, []}
use Rattle.run_output.specs.Names.{made_with, next_name}
use Rattle.run_output.specs.declared.part.Binding.{Binding}
use Rattle.run_output.specs.declared.part.Binding.TheVariants as binding

-- how many pages a run accepts
abbrev pub most_pages : ℕ
most_pages = 65536

-- what a run has made: the base names of its documents, the latest one first, and how many pages it read
pub record Past : Type 0 where
  pub made : List (List ℕ)
  pub pages : ℕ

-- a run that made nothing yet
abbrev pub no_past : Past
no_past = record { made = []; pages = 0 }

-- what a run made, with this number of further documents of this base name and this number of further pages
abbrev pub past_with : List ℕ → ℕ → ℕ → Past → Past
past_with base documents pages past =
    record { made = made_with base documents past.made; pages = pages + past.pages }

-- how many documents a file of this number of pages has: one for each page, or one for all; none without pages
abbrev pub documents_in : Binding → ℕ → ℕ
documents_in binding.Apart pages = pages
documents_in binding.Together zero = 0
documents_in binding.Together (suc k) = 1

-- how many documents of the same file are complete before a page, by the number of pages before it
abbrev pub documents_before : Binding → ℕ → ℕ
documents_before binding.Apart pages = pages
documents_before binding.Together pages = 0

-- the name of the document that a page goes into: `pages` pages of its file come before it, and the run made documents
-- with these base names before that file
abbrev pub page_name : Binding → List ℕ → List (List ℕ) → ℕ → List ℕ
page_name b base made pages = next_name base (made_with base (documents_before b pages) made)

-- what a run made, with one more file, which has this number of pages and this base name for its documents
abbrev pub past_file : Binding → List ℕ → ℕ → Past → Past
past_file b base pages past = past_with base (documents_in b pages) pages past

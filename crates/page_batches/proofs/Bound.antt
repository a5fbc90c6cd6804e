-- The parts of one document, put together.
use Rattle.std.proofs.Common.{◌≡◌, inl, inr, ℕ, zero, suc, ◌+◌, Option, None, Some, List, [], ◌∷◌, ◌++◌, length, take, refl, sym, ◌∙◌, ap, append_assoc}
use Rattle.std.specs.List.{concat}
use Rattle.std.proofs.lemmas.List.{append-nil}
use Rattle.pt_core.specs.Documents.{Document, Documents, IsCutOff, with_bytes, with_open, with_whole}
use Rattle.run_output.specs.Parts.{IsCutIn, end_part, file_text, page_pieces, pages_text, prolog_text, trailer_text, whole, with_part}
use Rattle.run_output.specs.declared.part.Binding.TheVariants.{Together}
use Rattle.page_batches.specs.Items.{end_items, page_items, with_items}
use Rattle.page_batches.specs.Items.Item.{Write}
use Rattle.page_batches.proofs.Carrying.{with_items-append}

-- pages that are added to an open document
more_pages : (whole : List Document) (name bytes : List ℕ) (k : ℕ) (texts : List (List ℕ))
    → with_items (Some (record { whole = whole; last_open = Some (record { name = name; bytes = bytes }) })) (page_items Together name (suc k) texts)
    ≡ Some (record { whole = whole; last_open = Some (record { name = name; bytes = bytes ++ pages_text (suc k) texts }) })
more_pages whole name bytes k [] = ap (λ b. Some (record { whole = whole; last_open = Some (record { name = name; bytes = b }) })) (sym (append-nil bytes))
more_pages whole name bytes k (text ∷ texts) =
    more_pages whole name (bytes ++ concat (page_pieces (suc k + 1) text)) (suc k) texts
    ∙ ap (λ b. Some (record { whole = whole; last_open = Some (record { name = name; bytes = b }) })) (append_assoc bytes (concat (page_pieces (suc k + 1) text)) (pages_text (suc (suc k)) texts))

-- a document stays open behind its first pages
pub open_pages : (told : Option Documents) (name text : List ℕ) (texts : List (List ℕ))
    → with_items told (page_items Together name 0 (text ∷ texts)) ≡ with_open told name (prolog_text ++ pages_text 0 (text ∷ texts))
open_pages None name text texts = untold name 1 texts where
  untold : (name : List ℕ) (k : ℕ) (texts : List (List ℕ)) → with_items None (page_items Together name k texts) ≡ None
  untold name k [] = refl
  untold name zero (text ∷ texts) = untold name 1 texts
  untold name (suc k) (text ∷ texts) = untold name (suc (suc k)) texts
open_pages (Some ds) name text texts =
    more_pages ds.whole name (prolog_text ++ concat (page_pieces 1 text)) 0 texts
    ∙ ap (λ b. Some (record { whole = ds.whole; last_open = Some (record { name = name; bytes = b }) })) (append_assoc prolog_text (concat (page_pieces 1 text)) (pages_text 1 texts))

-- all parts of a file are its document, whole
pub whole_file : (told : Option Documents) (name text : List ℕ) (texts messages : List (List ℕ))
    → with_items told (page_items Together name 0 (text ∷ texts) ++ end_items Together name (length (text ∷ texts)) messages) ≡ with_whole told name (file_text (text ∷ texts))
whole_file told name text texts messages =
    with_items-append told (page_items Together name 0 (text ∷ texts)) (end_items Together name (length (text ∷ texts)) messages)
    ∙ ap (λ t. with_items t (end_items Together name (length (text ∷ texts)) messages)) (open_pages told name text texts) ∙ ended_as told (prolog_text ++ pages_text 0 (text ∷ texts)) where
      ended_as : (told : Option Documents) (bytes : List ℕ)
          → with_items (with_open told name bytes) (Write (end_part name (length (text ∷ texts)) messages) ∷ []) ≡ with_whole told name (bytes ++ trailer_text (length (text ∷ texts)))
      ended_as None bytes = refl
      ended_as (Some ds) bytes = refl

-- a whole document is one part
pub whole_added : (told : Option Documents) (name text : List ℕ) → with_part told (whole name text) ≡ with_whole told name text
whole_added None name text = refl
whole_added (Some ds) name text = refl

opened_with : (told : Option Documents) (name bytes : List ℕ) → with_bytes (with_open told name []) bytes ≡ with_open told name bytes
opened_with None name bytes = refl
opened_with (Some ds) name bytes = refl

pub whole_cut_off : (told now : Option Documents) (name text : List ℕ) → IsCutIn (whole name text) told now → IsCutOff told now name text
whole_cut_off told now name text (inl same) = inl same
whole_cut_off told now name text (inr (n, most, is)) = inr (n, most, is ∙ opened_with told name (take n text))

-- The manner in which files become documents.
use Rattle.std.specs.Prelude.{ℕ, Bool, List, Option}
use Rattle.bit_image.specs.Page.{IsPage, Page as Pixels}
use Rattle.bitmap_input.specs.Raw.{Raw, shown}
use Rattle.run_output.specs.Names.{base_name}
use Rattle.run_output.specs.declared.part.Binding.{Binding}

-- how pages are read, how documents are named and the pages of a file bound, and which texts belong to a page
pub record Manner : Type 1 where
  pub level : ℕ
  pub invert : Bool
  pub output : Option (List ℕ)
  pub suffix : List ℕ
  pub binding : Binding
  pub belongs : Pixels → List ℕ → Type 0

-- the manner with these parts
abbrev pub manner_by : ℕ → Bool → Option (List ℕ) → List ℕ → Binding → (Pixels → List ℕ → Type 0) → Manner
manner_by level invert output suffix binding belongs =
    record { level = level; invert = invert; output = output; suffix = suffix; binding = binding; belongs = belongs }

-- the page that is read from a raw one
abbrev pub shown_by : Manner → Raw → Pixels
shown_by manner raw = shown manner.level manner.invert raw

-- the base name of all documents of the file of this name
abbrev pub base_by : Manner → List ℕ → List ℕ
base_by manner name = base_name manner.output manner.suffix name

-- each page has a text
abbrev pub HasTexts : Manner → Type 0
HasTexts manner = (page : Pixels) → IsPage page → (text : List ℕ) × manner.belongs page text

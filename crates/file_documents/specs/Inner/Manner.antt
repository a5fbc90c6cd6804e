-- A manner in which no page has two texts.
use Rattle.std.specs.Prelude.{◌≡◌, ℕ, List}
use Rattle.bit_image.specs.Page.{Page as Pixels}
use Rattle.file_documents.specs.Manner.{Manner}

-- no two texts belong to one page
abbrev pub HasOneText : Manner → Type 0
HasOneText manner = (page : Pixels) (text other : List ℕ) → manner.belongs page text → manner.belongs page other → text ≡ other

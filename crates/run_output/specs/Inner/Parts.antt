-- Whether a file's document is open between two of its pages.
use Rattle.std.specs.Prelude.{ℕ, Bool, false, not}
use Rattle.run_output.specs.declared.part.Binding.{Binding}
use Rattle.run_output.specs.declared.part.Binding.TheVariants as binding
use Rattle.run_output.specs.Parts.{is_first_page}

-- whether a file's document is open after this number of its pages
abbrev pub is_begun : Binding → ℕ → Bool
is_begun binding.Apart pages = false
is_begun binding.Together pages = not (is_first_page pages)

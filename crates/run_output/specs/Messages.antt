-- The lines that programs write to standard error, and those of `potrace`.
use Rattle.std.specs.Prelude.{ℕ, List, [], ◌∷◌, ◌++◌, codes, decimal}
use Rattle.std.specs.List.{concat}

-- the line `PROGRAM: TEXT`
abbrev pub program_line : List ℕ → List ℕ → List ℕ
program_line program text = concat (program ∷ codes ": " ∷ text ∷ codes "\n" ∷ [])

-- the line `PROGRAM: NAME: TEXT`, about a file
abbrev pub file_line : List ℕ → List ℕ → List ℕ → List ℕ
file_line program name text = concat (program ∷ codes ": " ∷ name ∷ codes ": " ∷ text ∷ codes "\n" ∷ [])

-- the line `PROGRAM: NAME: page PAGE: TEXT`, about a page of a file, counted from 1
abbrev pub file_page_line : List ℕ → List ℕ → ℕ → List ℕ → List ℕ
file_page_line program name page text =
    concat (program ∷ codes ": " ∷ name ∷ codes ": page " ∷ decimal page ∷ codes ": " ∷ text ∷ codes "\n" ∷ [])

-- the tracer's name
abbrev pub tracer : List ℕ
tracer = codes "potrace"

-- the message about command-line arguments that the tracer doesn't accept
abbrev pub bad_words : List ℕ
bad_words = program_line tracer (codes "bad arguments, see potrace -h")

-- the message that memory ran out
abbrev pub out_of_memory : List ℕ
out_of_memory = program_line tracer (codes "out of memory")

-- a message of the tracer about a page of a file, counted from 1
abbrev pub page_line : List ℕ → ℕ → List ℕ → List ℕ
page_line name page text = file_page_line tracer name page text

-- the message that a file couldn't be opened
abbrev pub not_opened : List ℕ → List ℕ
not_opened name = file_line tracer name (codes "cannot be opened")

-- the message that a document couldn't be written
abbrev pub not_written : List ℕ → List ℕ
not_written name = file_line tracer name (codes "write fault")

-- the message that the bytes after the last page of a file, page number `pages`, don't begin another page
abbrev pub trailing_line : List ℕ → ℕ → List ℕ
trailing_line name pages = file_line tracer name (codes "trailing bytes after page " ++ decimal pages)

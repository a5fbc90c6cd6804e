-- The base names of the documents in the program's list of files.
use Rattle.std.specs.Prelude.{ℕ, List, [], ◌∷◌, ◌++◌, replicate, string_bytes}
use Rattle.run_output.specs.Names.{count_of}
use Rattle.run_output.specs.declared.made.FileMade.{FileMade}

-- the base names of the documents of all given files, the latest document first
abbrev pub made_by : List FileMade → List (List ℕ)
made_by [] = []
made_by (file ∷ files) = made_by files ++ replicate file.documents (string_bytes file.base)

-- how many documents of a file have this base name
abbrev pub documents_of : List ℕ → FileMade → ℕ
documents_of base file = count_of base (replicate file.documents (string_bytes file.base))

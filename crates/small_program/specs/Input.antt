-- Standard input and how much of it was read.
use Rattle.std.specs.Prelude.{◌≡◌, ℕ, List, ◌++◌, Option, None, Some}
use Rattle.std.specs.FinMap.{get}
use Rattle.pt_core.specs.Files.{Files}
use Rattle.run_output.specs.Names.{dash}

-- standard input has these bytes, unless contracts don't know the files
abbrev pub HasInput : Option Files → List ℕ → Type 0
HasInput None bytes = Unit {0}
HasInput (Some files) bytes = get files.contents dash ≡ Some bytes

-- contracts know the files, and standard input has these bytes
abbrev pub TellsInput : Option Files → List ℕ → Type 0
TellsInput None bytes = ⊥
TellsInput (Some files) bytes = get files.contents dash ≡ Some bytes

-- the open file is standard input; these bytes of it were read, and the rest wasn't, unless contracts don't know the
-- files
abbrev pub HasTaken : Option Files → Option Files → List ℕ → Type 0
HasTaken None now taken = now ≡ None
HasTaken (Some files) now taken =
    (rest : List ℕ) × (get files.contents dash ≡ Some (taken ++ rest))
    × (now ≡ Some (record { contents = files.contents; opened = Some (record { name = dash; rest = rest }) }))

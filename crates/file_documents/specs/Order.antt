-- What a run over files is given.
use Rattle.std.specs.Prelude.{ℕ, List, Option}
use Rattle.pt_core.specs.Files.{Contents}
use Rattle.run_output.specs.Made.{Past}
use Rattle.run_output.specs.Told.{Source}
use Rattle.page_batches.specs.Items.{Item}
use Rattle.file_documents.specs.FileItems.{AreItems, Nothing, told_contents}
use Rattle.file_documents.specs.Manner.{Manner}

-- the contents of the files, if they are known; the manner in which they become documents; and their names, in order
pub record Order : Type 1 where
  pub contents : Option Contents
  pub manner : Manner
  pub names : List (List ℕ)

-- the order with these parts
abbrev pub order_by : Option Contents → Manner → List (List ℕ) → Order
order_by contents manner names = record { contents = contents; manner = manner; names = names }

-- the order of the files of these names, read from these inputs
abbrev pub order_of : Manner → List (List ℕ) → Source → Order
order_of manner names source = order_by (told_contents source.files) manner names

-- these are the items of all files of the order, after what was made before
abbrev pub AreAllItems : Order → Past → List Item → Type 0
AreAllItems order past items = AreItems order.contents order.manner Nothing order.names past items

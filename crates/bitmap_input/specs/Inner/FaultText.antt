-- The text of a fault.
use Rattle.std.specs.Prelude.{ℕ, List}
use Rattle.bitmap_input.specs.Reading.{cause_of_fault}
use Rattle.bitmap_input.specs.declared.fault.InFault.{InFault}
use Rattle.bitmap_input.specs.FaultText.{cause_text}

-- why a page can't be read
abbrev pub fault_text : InFault → List ℕ
fault_text fault = cause_text (cause_of_fault fault)

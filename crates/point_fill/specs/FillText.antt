-- The texts of error messages: why a page can't be made from a text.
use Rattle.std.specs.Prelude.{ℕ, List, codes}
use Rattle.point_fill.specs.declared.fault.FillFault.{FillFault}
use Rattle.point_fill.specs.declared.fault.FillFault.TheVariants as fault

-- why a page can't be made from a text, in words
abbrev pub fill_text : FillFault → List ℕ
fill_text fault.BadPoints = codes "bad points"
fill_text fault.NoMemory = codes "out of memory"

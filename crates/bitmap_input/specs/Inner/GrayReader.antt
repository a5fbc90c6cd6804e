-- The causes with which pages end without a refusal.
use Rattle.bitmap_input.specs.Cut.FileEnd.{End, Trailing, Refused}
use Rattle.bitmap_input.specs.Reading.{Cause}
use Rattle.bitmap_input.specs.Reading.Cause.{Says, Device, Memory}

-- the pages end, and no page is refused
abbrev pub IsNoFault : Cause → Type 0
IsNoFault (Says End) = Unit {0}
IsNoFault (Says Trailing) = Unit {0}
IsNoFault (Says (Refused kind)) = ⊥
IsNoFault Device = ⊥
IsNoFault Memory = ⊥

-- Which backends draw a whole trace.
use Rattle.pt_core.specs.declared.settings.Backend.{Backend}
use Rattle.pt_core.specs.declared.settings.Backend.TheVariants.{Points, Polygons, Proofs}

-- the backend draws a whole trace; the others list what a part of one has
abbrev pub IsDrawn : Backend → Type 0
IsDrawn Points = ⊥
IsDrawn Polygons = ⊥
IsDrawn Proofs = ⊥
IsDrawn backend = Unit {0}

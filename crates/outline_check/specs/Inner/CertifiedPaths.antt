-- A path with its certificate in a text.
use Rattle.std.specs.Prelude.{ℕ, List}
use Rattle.list_reader.specs.Inner.TextParts.{IsPart}
use Rattle.outline_check.specs.declared.groups.CertifiedPath.{CertifiedPath}
use Rattle.outline_check.specs.ProofsText.{Certified, certified_text}
use Rattle.outline_check.specs.Texts.{AreInRanges}

-- the path and its certificate, without the place
abbrev pub certified_of : CertifiedPath → Certified
certified_of g = record { points = g.points.items; at = g.at.items; labels = g.labels.items }

-- the three lines stand at the front, and then the rest
abbrev pub IsGroup : ℕ → ℕ → List ℕ → Certified → List ℕ → Type 0
IsGroup width height = IsPart certified_text (AreInRanges width height)

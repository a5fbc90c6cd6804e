-- Definitions for inner contracts: no promise rests on them.
pub mod Numerals
pub mod LineEntries
pub mod LineTexts
pub mod SidesLines
pub mod SignedAreas
pub mod TextParts

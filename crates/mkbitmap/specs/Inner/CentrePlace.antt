-- Where a pixel of the larger page lies among the pixels of the page, as the program has it.
use Rattle.std.specs.Prelude.{◌≡◌, ℕ, ◌+◌, ◌*◌, ◌≤◌, List, length}
use Rattle.mkbitmap.specs.Enlarged.{after_of, distance_behind}
use Rattle.mkbitmap.specs.declared.enlarge.CentrePlace.{CentrePlace}
use Rattle.mkbitmap.specs.declared.limits.TheConstants.{GREATEST_TIMES}

-- a page can be made this number of times larger
abbrev pub CanEnlarge : ℕ → Type 0
CanEnlarge times = (1 ≤ times) × (times ≤ GREATEST_TIMES)

-- a row of reliefs is wide enough for columns below `end` of a page that is made `times` times larger
abbrev pub IsWideEnough : ℕ → ℕ → List ℕ → Type 0
IsWideEnough times end reliefs = CanEnlarge times × (end + 2 * times ≤ times * length reliefs)

-- this is the place of column X
pub record IsPlaceOf (times X : ℕ) (p : CentrePlace) : Type 0 where
  pub after : p.after ≡ after_of times X
  pub part : p.part ≡ distance_behind times X

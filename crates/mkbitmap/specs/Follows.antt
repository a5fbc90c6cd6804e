-- What a filter holds of the page that it goes along.
use Rattle.std.specs.Prelude.{◌≡◌, ℕ, ◌+◌, ◌-◌, ◌<◌, ◌≤◌, min, List, [], length, get_or}
use Rattle.mkbitmap.specs.Box.{Gray}
use Rattle.mkbitmap.specs.Relief.{raised_of}
use Rattle.mkbitmap.specs.Enlarged.{before_within}
use Rattle.mkbitmap.specs.Filtering.{Filtering}

-- these are the samples of row y, before samples brighter than white are lowered to white
pub record IsRow (page : Gray) (y : ℕ) (row : List ℕ) : Type 0 where
  pub sample : (x : ℕ) → x < page.width → page.sample x y ≡ min (get_or row x 0) page.maxval

-- the rows that the filter holds are rows of this page
pub record HoldsRows (page : Gray) (f : Filtering) : Type 0 where
  pub width : page.width ≡ f.width
  pub height : page.height ≡ f.height
  pub maxval : page.maxval ≡ f.maxval
  pub bright : (x y : ℕ) → page.sample x y ≤ f.maxval
  pub held : (k : ℕ) → k < length f.held → IsRow page (f.taken - length f.held + k) (get_or f.held k [])

-- these are the raised reliefs of row y
abbrev pub AreRaised : Gray → Filtering → List ℕ → ℕ → Type 0
AreRaised page f reliefs y = (x : ℕ) → x < f.width → get_or reliefs x 0 ≡ raised_of page f.radius x y

-- the filter holds rows of this page and the reliefs of the last two rows that were made; at the beginning both are of
-- the first row, and at the end both are of the last row
pub record Follows (page : Gray) (f : Filtering) : Type 0 where
  pub holds : HoldsRows page f
  pub upper : 1 ≤ f.pairs → AreRaised page f f.upper (before_within f.height (f.pairs - 1))
  pub lower : 1 ≤ f.pairs → AreRaised page f f.lower (before_within f.height f.pairs)

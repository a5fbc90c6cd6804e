-- A filter between two rows of the page that it goes along.
use Rattle.std.specs.Prelude.{◌≡◌, ℕ, ◌+◌, List}

-- the state of a filter: how the page is filtered, how far the filter has come, and what it holds
pub record Filtering : Type 0 where
  -- the page's sides, its sample for white, the radius of boxes, how many times larger the page is made, and the level
  -- in millionths of white
  pub width : ℕ
  pub height : ℕ
  pub maxval : ℕ
  pub radius : ℕ
  pub times : ℕ
  pub level : ℕ
  -- how many rows were taken, and how many steps were made
  pub taken : ℕ
  pub pairs : ℕ
  -- the last rows that were taken, if the next boxes need them
  pub held : List (List ℕ)
  -- the raised reliefs of two rows, one below the other
  pub upper : List ℕ
  pub lower : List ℕ
  -- the row of the larger page that was made last, packed
  pub packed : List ℕ

-- both filters have the same setup
pub record SameSetup (old new : Filtering) : Type 0 where
  pub width : new.width ≡ old.width
  pub height : new.height ≡ old.height
  pub maxval : new.maxval ≡ old.maxval
  pub radius : new.radius ≡ old.radius
  pub times : new.times ≡ old.times
  pub level : new.level ≡ old.level

-- the setup is unchanged, and the filter has taken this number of further rows and made this number of further steps
pub record HasGone (rows steps : ℕ) (old new : Filtering) : Type 0 where
  pub setup : SameSetup old new
  pub taken : new.taken ≡ old.taken + rows
  pub pairs : new.pairs ≡ old.pairs + steps

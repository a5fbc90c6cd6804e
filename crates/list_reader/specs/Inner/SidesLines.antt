-- The first line of a text that describes a page.
use Rattle.std.specs.Prelude.{◌≡◌, ℕ, ◌<◌, ◌≤◌, ◌^◌, List, ◌++◌, codes, decimal}
use Rattle.pt_core.specs.declared.limits.TheConstants.{LONGEST_SIDE}

-- the bytes begin with a line that has this word, the page's sides and a count
pub record IsSidesLine (word bytes : List ℕ) (width height count : ℕ) (rest : List ℕ) : Type 0 where
  pub is : bytes ≡ word ++ (decimal width ++ (codes " " ++ (decimal height ++ (codes " " ++ (decimal count ++ (codes "\n" ++ rest))))))
  pub some_width : 1 ≤ width
  pub wide : width ≤ LONGEST_SIDE
  pub some_height : 1 ≤ height
  pub high : height ≤ LONGEST_SIDE
  pub few : count < 2 ^ 32

-- The header of a gray page.
use Rattle.std.specs.Prelude.{ℕ, Bool, false, List}
use Rattle.bitmap_input.specs.Cut.{Cut, ◌>>=◌}
use Rattle.bitmap_input.specs.Cut.Cut.{Takes}
use Rattle.bitmap_input.specs.GrayRows.{gray_header}

-- the header of a gray page: whether the page is plain, its sides, and its sample for white
pub record PageHeader : Type 0 where
  pub plain : Bool
  pub width : ℕ
  pub height : ℕ
  pub maxval : ℕ

-- the header with which these bytes begin
abbrev pub page_header : List ℕ → Cut PageHeader
page_header bytes =
    gray_header bytes >>= λ h rest. Takes false (record { plain = h.plain; width = h.width; height = h.height; maxval = h.maxval }) rest

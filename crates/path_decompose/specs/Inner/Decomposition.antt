-- The paths with more pixels inside than a limit, where there is one.
use Rattle.std.specs.Prelude.{ℕ, Bool, true, List, filter, nat_lt, Option, None, Some}
use Rattle.pt_core.specs.declared.point.Point.{Point}
use Rattle.pt_core.specs.declared.path.Path.{Path}
use Rattle.pt_core.specs.declared.path.Sign.{Sign}

-- the path of this sign, with so many pixels inside, through these points
abbrev pub path_of : Sign → ℕ → List Point → Path
path_of sign area points = record { sign = sign; area = area; points = points }

-- an area of so many pixels is above the limit, where there is one
abbrev pub is_large : Option ℕ → ℕ → Bool
is_large None area = true
is_large (Some t) area = nat_lt t area

-- the path has more pixels inside than the limit, where there is one
abbrev pub is_above : Option ℕ → Path → Bool
is_above limit path = is_large limit path.area

-- the paths above the limit, in order
abbrev pub above : Option ℕ → List Path → List Path
above limit paths = filter (is_above limit) paths

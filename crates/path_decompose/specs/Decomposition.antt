-- The decomposition of a page into paths (Selinger, "Potrace", 2003, section 2.1.1), and the removal of
-- speckles (section 2.1.3).
use Rattle.std.specs.Prelude.{◌≡◌, ℕ, cond, List, [], ◌∷◌, filter, nat_lt}
use Rattle.pt_core.specs.declared.point.Point.{Point}
use Rattle.pt_core.specs.declared.path.Path.{Path}
use Rattle.pt_core.specs.declared.path.Sign.{Sign}
use Rattle.pt_core.specs.declared.path.Sign.TheVariants.{Plus, Minus}
use Rattle.pt_core.specs.declared.policy.Policy.{Policy}
use Rattle.bit_image.specs.Image.{Image, IsWhite, differ}
use Rattle.bit_image.specs.Page.{Page, image_of}
use Rattle.bit_image.specs.FirstBlack.{IsFirstBlack}
use Rattle.path_decompose.specs.Walk.{IsBoundaryWalk}
use Rattle.boundary_edges.specs.Inside.{inside, black_count}

-- the sign of a path that starts at pixel (x, y): plus where the page is black there
abbrev pub sign_at : Image → ℕ → ℕ → Sign
sign_at page x y = cond (page x y) Plus Minus

-- the image with the pixels inside a path inverted
abbrev pub inverted : Image → List Point → Image
inverted b points x y = differ (b x y) (inside points x y)

-- The path that comes next where the page has become the image b: the walk from the first black pixel,
-- with the sign that the page gives, and with the number of pixels inside.
pub record IsNextPath (page : Page) (policy : Policy) (b : Image) (path : Path) : Type 0 where
  pub x : ℕ
  pub y : ℕ
  pub first : IsFirstBlack b x y
  pub sign : path.sign ≡ sign_at (image_of page) x y
  pub walk : IsBoundaryWalk b policy path.sign x y path.points
  pub area : path.area ≡ black_count (inside path.points) page.width page.height

-- these paths come, one after another, where the page has become the image b: each one's inside is
-- inverted before the next, and after the last one all is white
abbrev pub IsDecomposed : Page → Policy → Image → List Path → Type 0
IsDecomposed page policy b [] = IsWhite b
IsDecomposed page policy b (path ∷ paths) =
    IsNextPath page policy b path × IsDecomposed page policy (inverted b path.points) paths

-- the paths of a page under a policy
abbrev pub IsDecomposition : Page → Policy → List Path → Type 0
IsDecomposition page policy paths = IsDecomposed page policy (image_of page) paths

-- the paths that are no speckles: those with more than t pixels inside, in order
abbrev pub kept : ℕ → List Path → List Path
kept t paths = filter (λ path. nat_lt t path.area) paths

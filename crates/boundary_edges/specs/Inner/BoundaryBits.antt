-- The boundary edges that are left of a page, as bits of words. Edges of the kind DOWN go down from a corner, and those of LEFT go left.
-- Corner (x, y) of the page stands in column x + MARGIN and row y + MARGIN here, so that the square of pixels around each corner of the
-- page has its place. Pixel (x, y) of that square is the one that `behind b 4` gives.
use Rattle.std.specs.Prelude.{◌≡◌, ◌^◌, nat_abs, pos, ◌≤ℤ◌, ℕ, zero, suc, ◌+◌, ◌*◌, ◌/◌, ◌%◌, ◌≤◌, ◌<◌, Bool, false, ◌&&◌, nat_eq, nat_lt, List, ◌∷◌, length, slice_index_or}
use Rattle.pt_core.specs.declared.limits.TheConstants.{LONGEST_SIDE}
use Rattle.pt_core.specs.declared.point.Point.{Point}
use Rattle.bit_image.specs.Image.{Image, Fits, differ}
use Rattle.bit_image.specs.Page.{Page, image_of}
use Rattle.bit_image.specs.Words.{is_one}
use Rattle.bit_image.specs.Inner.Words.{black_in}
use Rattle.turn_policies.specs.Majority.{behind}
use Rattle.boundary_edges.specs.declared.blocks.TheConstants.{BLOCK}
use Rattle.boundary_edges.specs.declared.edges.TheConstants.{MARGIN, BLOCKS_BESIDE, STRIPS_BESIDE}
use Rattle.boundary_edges.specs.declared.strips.Spot.{Spot}
use Rattle.boundary_edges.specs.declared.strips.TheConstants.{BLOCK_ROWS, DOWN, LEFT}
use Rattle.boundary_edges.specs.GridEdges.{GridEdge, upright, level}
use Rattle.boundary_edges.specs.Inner.Blocks.{stands_at, spread, AreBlocks}

-- where the word stands that has the edges of a kind in one row of a strip of 64 columns
abbrev pub word_place : ℕ → ℕ → ℕ → ℕ → ℕ
word_place rows kind strip y = 2 * (strip * rows + y) + kind

-- the words have an edge of a kind in a column and a row, where each strip has so many rows
unfoldable pub has_edge : ℕ → List ℕ → ℕ → ℕ → ℕ → Bool
has_edge rows words kind x y =
    nat_lt y rows && is_one (slice_index_or words (word_place rows kind (x / 64) y) 0) (x % 64)

-- the blocks that begin at these starts have words for the edges in column x and row y
pub record HasSpot (rows : ℕ) (starts : List ℕ) (x y : ℕ) : Type 0 where
  pub few : rows < 2 ^ 16
  pub column : x < 2 ^ 16
  pub row : y < rows
  pub room : 2 * ((x / 64 + 1) * rows) ≤ BLOCK * length starts
  pub start : (b : ℕ) → slice_index_or starts b 0 % BLOCK ≡ 0

-- the edges in column x and row y stand in this block, in this word and the next one of those that take room, and in this bit of both
pub record IsSpot (rows : ℕ) (starts : List ℕ) (x y : ℕ) (spot : Spot) : Type 0 where
  pub block : spot.block ≡ word_place rows DOWN (x / 64) y / BLOCK
  pub place : spot.down ≡ stands_at starts (word_place rows DOWN (x / 64) y)
  pub bit : (i : ℕ) → i < 64 → is_one spot.bit i ≡ nat_eq (x % 64) i

-- an image changes between a pixel and the next one in its row, or the one above it
abbrev pub changes : Image → ℕ → ℕ → ℕ → Bool
changes b zero x y = differ (behind b 4 x y) (behind b 4 (suc x) y)
changes b (suc kind) x y = differ (behind b 4 x y) (behind b 4 x (suc y))

-- the words have the edges of an image
abbrev pub AreEdgesOf : Image → ℕ → List ℕ → Type 0
AreEdgesOf b rows words = (kind x y : ℕ) → kind < 2 → has_edge rows words kind x y ≡ changes b kind x y

-- a pixel is black where an odd number of edges stands on its left
abbrev pub black_past : ℕ → List ℕ → ℕ → ℕ → Bool
black_past rows words zero y = false
black_past rows words (suc x) y = differ (black_past rows words x y) (has_edge rows words DOWN x y)

-- the image that the edges bound
abbrev pub bounded_image : ℕ → List ℕ → Image
bounded_image rows words x y = black_past rows words (x + (MARGIN + 1)) (y + (MARGIN + 1))

-- the words have all edges of an image that fits a page, with room for the squares around its corners
pub record AreEdges (width height rows strips : ℕ) (words : List ℕ) : Type 0 where
  pub some_width : 1 ≤ width
  pub most_width : width ≤ LONGEST_SIDE
  pub some_height : 1 ≤ height
  pub most_height : height ≤ LONGEST_SIDE
  pub row_count : rows ≡ BLOCK_ROWS * (height / BLOCK_ROWS + BLOCKS_BESIDE)
  pub strip_count : strips ≡ width / 64 + STRIPS_BESIDE
  pub word_count : length words ≡ 2 * (strips * rows)
  pub fits : Fits (bounded_image rows words) width height
  pub edges : AreEdgesOf (bounded_image rows words) rows words

-- The words of these blocks have the edges of a page, in strips of so many rows. There is room for those of each corner, of the one above it and of the one on its right.
pub record AreLaidOut (page : Page) (rows : ℕ) (starts words : List ℕ) : Type 0 where
  pub few : rows < 2 ^ 16
  pub narrow : page.width ≤ LONGEST_SIDE
  pub high : page.height + 4 < rows
  pub room : 2 * ((page.width / 64 + STRIPS_BESIDE) * rows) ≤ BLOCK * length starts
  pub blocks : AreBlocks starts words
  pub edges : AreEdgesOf (image_of page) rows (spread starts words)

-- the edges of corner (x, y) stand here
abbrev pub IsSpotAt : ℕ → List ℕ → ℕ → ℕ → Spot → Type 0
IsSpotAt rows starts x y spot = IsSpot rows starts (x + MARGIN) (y + MARGIN) spot

-- the word of a row in a strip, and the word before it
pub record AreStripWords (row : List ℕ) (strip before here : ℕ) : Type 0 where
  pub left : before ≡ slice_index_or (0 ∷ row) strip 0
  pub word : here ≡ slice_index_or row strip 0

-- two rows of words, one above the other, change between a pixel and the next one, or the one above it: 4 columns to the left
abbrev pub changes_in : List ℕ → List ℕ → ℕ → ℕ → Bool
changes_in below above zero x = differ (black_in (0 ∷ below) (x + 60)) (black_in (0 ∷ below) (x + 61))
changes_in below above (suc kind) x = differ (black_in (0 ∷ below) (x + 60)) (black_in (0 ∷ above) (x + 60))

-- two kinds, columns and rows are the same
abbrev pub same_edge : ℕ → ℕ → ℕ → ℕ → ℕ → ℕ → Bool
same_edge kind x y k u v = nat_eq kind k && (nat_eq x u && nat_eq y v)

-- the edge of a kind in a column and a row lies along a line of the grid
abbrev pub is_along : ℕ → ℕ → ℕ → GridEdge → Bool
is_along k x y (upright u v) = same_edge DOWN (u + MARGIN) (v + (MARGIN + 1)) k x y
is_along k x y (level u v) = same_edge LEFT (u + (MARGIN + 1)) (v + MARGIN) k x y

-- words of this number have room for the edges of the corner at a point
pub record FitsStrips (rows size : ℕ) (p : Point) : Type 0 where
  pub right : pos 0 ≤ℤ p.x
  pub above : pos 0 ≤ℤ p.y
  pub column : nat_abs p.x + MARGIN < 2 ^ 16
  pub row : nat_abs p.y + MARGIN < rows
  pub height : nat_abs p.y + MARGIN < 2 ^ 16
  pub room : 2 * (((nat_abs p.x + MARGIN) / 64 + 1) * rows) ≤ size

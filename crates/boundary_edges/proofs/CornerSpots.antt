-- The edges of a page's corners, looked at where they stand.
use Rattle.std.proofs.Common.{◌≡◌, ℕ, ◌+◌, ◌/◌, ◌%◌, ◌<◌, ◌≤◌, ◌^◌, not, nat_eq, List, get_or, ap, sym, ◌∙◌, arith}
use Rattle.std.specs.Int.RustNames.{bit_and}
use Rattle.bit_image.specs.Page.{Page, image_of}
use Rattle.bit_image.specs.Words.{is_one}
use Rattle.boundary_edges.specs.declared.strips.Spot.{Spot}
use Rattle.boundary_edges.specs.Inner.Blocks.{spread}
use Rattle.boundary_edges.specs.Inner.BoundaryBits.{word_place, changes, AreLaidOut, IsSpotAt}
use Rattle.boundary_edges.proofs.Spread.{get_or-spread}
use Rattle.boundary_edges.proofs.EdgeBits.{has_edge-low}
use Rattle.boundary_edges.proofs.EdgeTaken.{spot_word}
use Rattle.boundary_edges.proofs.LineSpots.{bit_met}

-- what the word at a corner's spot tells
pub edge_read : (page : Page) (rows : ℕ) (starts words : List ℕ) (x y kind : ℕ) (spot : Spot) → AreLaidOut page rows starts words → y ≤ page.height + 1 → IsSpotAt rows starts x y spot
    → kind < 2 → spot.bit < 2 ^ 64 → not (nat_eq (bit_and (get_or words (spot.down + kind) 0) spot.bit) 0) ≡ changes (image_of page) kind (x + 3) (y + 3)
edge_read page rows starts words x y kind spot laid row is small fits =
    let place : ℕ = word_place rows kind ((x + 3) / 64) (y + 3) in
    bit_met (get_or words (spot.down + kind) 0) spot.bit ((x + 3) % 64) fits (omega arith) is.bit
    ∙ ap (λ n. is_one n ((x + 3) % 64)) (ap (λ n. get_or words n 0) (sym (spot_word rows starts (x + 3) (y + 3) kind spot is small)) ∙ sym (get_or-spread starts words place laid.blocks))
    ∙ sym (has_edge-low rows (spread starts words) kind (x + 3) (y + 3) (omega (arith, laid.high, row)))
    ∙ laid.edges kind (x + 3) (y + 3) small

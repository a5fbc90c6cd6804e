-- Where the edges of a corner stand among the words that take room, and one of them taken away.
use Rattle.std.proofs.Common.{◌≡◌, ℕ, ◌+◌, ◌-◌, ◌*◌, ◌/◌, ◌%◌, ◌^◌, ◌<◌, List, length, get_or, set, w64, refl, ap, sym, subst, ◌∙◌, arith}
use Rattle.std.specs.Int.{bit_not}
use Rattle.std.specs.Int.RustNames.{bit_and}
use Rattle.std.proofs.lemmas.Nat.{and_le_l}
use Rattle.boundary_edges.specs.declared.strips.Spot.{Spot}
use Rattle.boundary_edges.specs.Inner.Blocks.{stands_at, spread, AreBlocks}
use Rattle.boundary_edges.specs.Inner.BoundaryBits.{word_place, has_edge, same_edge, HasSpot, IsSpot}
use Rattle.boundary_edges.specs.Inner.Taken.{AreTakenBy}
use Rattle.boundary_edges.proofs.Spread.{length-spread, get_or-spread, spread-less}
use Rattle.boundary_edges.proofs.EdgeBits.{place_inside, has_edge-take}

-- ---- in one block

-- both words of a row stand side by side
next_stands : (starts : List ℕ) (n kind : ℕ) → kind < 2 → stands_at starts (2 * n + 0) + kind ≡ stands_at starts (2 * n + kind)
next_stands starts n kind small =
    let block : (2 * n + 0) / 16 ≡ (2 * n + kind) / 16 = omega arith in
    omega (arith, small, ap (λ b. get_or starts b 0) block)

-- the row above stands two words further on, or where the next block begins
pub stands_above : (starts : List ℕ) (n m down : ℕ) → ((b : ℕ) → get_or starts b 0 % 16 ≡ 0) → down ≡ stands_at starts (2 * n + 0) → m ≡ n + 1 → 0 < (down + 2) % 16
    → ((2 * n + 0) / 16 ≡ (2 * m + 0) / 16) × (down + 2 ≡ stands_at starts (2 * m + 0))
stands_above starts n m down whole is next inside =
    let block : (2 * n + 0) / 16 ≡ (2 * m + 0) / 16 = omega (arith, is, next, inside, whole ((2 * n + 0) / 16)) in
    (block, omega (arith, is, next, inside, whole ((2 * n + 0) / 16), block, ap (λ b. get_or starts b 0) block))

pub begins_above : (starts : List ℕ) (n m down block start : ℕ) → ((b : ℕ) → get_or starts b 0 % 16 ≡ 0) → down ≡ stands_at starts (2 * n + 0) → m ≡ n + 1 → (down + 2) % 16 ≡ 0 → block ≡ (2 * n + 0) / 16
    → (block + 1 ≡ (2 * m + 0) / 16) × (start ≡ get_or starts (block + 1) 0 → start ≡ stands_at starts (2 * m + 0))
begins_above starts n m down block start whole is next outside here =
    let there : block + 1 ≡ (2 * m + 0) / 16 = omega (arith, is, next, outside, here, whole ((2 * n + 0) / 16)) in
    (there, λ begins. omega (arith, is, next, outside, begins, whole ((2 * n + 0) / 16), there, ap (λ b. get_or starts b 0) there))

pub stands_below : (starts : List ℕ) (n m down : ℕ) → ((b : ℕ) → get_or starts b 0 % 16 ≡ 0) → down ≡ stands_at starts (2 * n + 0) → n ≡ m + 1 → 0 < down % 16
    → ((2 * n + 0) / 16 ≡ (2 * m + 0) / 16) × (down - 2 ≡ stands_at starts (2 * m + 0))
stands_below starts n m down whole is next inside =
    let block : (2 * n + 0) / 16 ≡ (2 * m + 0) / 16 = omega (arith, is, next, inside, whole ((2 * n + 0) / 16)) in
    (block, omega (arith, is, next, inside, whole ((2 * n + 0) / 16), block, ap (λ b. get_or starts b 0) block))

pub begins_below : (starts : List ℕ) (n m down block start : ℕ) → ((b : ℕ) → get_or starts b 0 % 16 ≡ 0) → down ≡ stands_at starts (2 * n + 0) → n ≡ m + 1 → down % 16 ≡ 0 → block ≡ (2 * n + 0) / 16
    → (block - 1 ≡ (2 * m + 0) / 16) × (start ≡ get_or starts (block - 1) 0 → start + 14 ≡ stands_at starts (2 * m + 0))
begins_below starts n m down block start whole is next outside here =
    let there : block - 1 ≡ (2 * m + 0) / 16 = omega (arith, is, next, outside, here, whole ((2 * n + 0) / 16)) in
    (there, λ begins. omega (arith, is, next, outside, begins, whole ((2 * n + 0) / 16), there, ap (λ b. get_or starts b 0) there))

-- ---- an edge that is taken away

pub spot_inside : (rows : ℕ) (starts words : List ℕ) (x y kind : ℕ) (spot : Spot) → AreBlocks starts words → IsSpot rows starts x y spot → kind < 2 → spot.down + kind < length words
spot_inside rows starts words x y kind spot blocks is small = omega (arith, is.place, small, blocks.room (word_place rows 0 (x / 64) y / 16))

-- the word with the edges of a kind
pub spot_word : (rows : ℕ) (starts : List ℕ) (x y kind : ℕ) (spot : Spot) → IsSpot rows starts x y spot → kind < 2 → stands_at starts (word_place rows kind (x / 64) y) ≡ spot.down + kind
spot_word rows starts x y kind spot is small = sym (ap (λ n. n + kind) is.place ∙ next_stands starts (x / 64 * rows + y) kind small)

pub edge_taken : (rows : ℕ) (starts words : List ℕ) (kind x y : ℕ) (spot : Spot) → HasSpot rows starts x y → IsSpot rows starts x y spot → kind < 2 → spot.bit < 2 ^ 64 → AreBlocks starts words
    → AreTakenBy rows starts (λ k u v. same_edge kind x y k u v) words (set words (spot.down + kind) (bit_and (get_or words (spot.down + kind) 0) (bit_not w64 spot.bit)))
edge_taken rows starts words kind x y spot has is small fits blocks =
    let place : ℕ = word_place rows kind (x / 64) y in
    let all : List ℕ = spread starts words in
    let size : length all ≡ 16 * length starts = length-spread starts words in
    let inside : place < 16 * length starts = place_inside rows (x / 64) y kind (16 * length starts) has.row small has.room in
    let at : stands_at starts place ≡ spot.down + kind = spot_word rows starts x y kind spot is small in
    let less : (word : ℕ) → word ≡ 0 → bit_and word (bit_not w64 spot.bit) ≡ 0 = λ word zero. omega (arith, zero, and_le_l word (bit_not w64 spot.bit)) in
    let word : ℕ = bit_and (get_or words (stands_at starts place) 0) (bit_not w64 spot.bit) in
    let taken = spread-less starts words place word blocks inside (less (get_or words (stands_at starts place) 0)) in
    subst (λ n. AreTakenBy rows starts (λ k u v. same_edge kind x y k u v) words (set words n (bit_and (get_or words n 0) (bit_not w64 spot.bit)))) at
    (record {
      blocks = taken.0;
      edges = λ k u v p.
          ap (λ ws. has_edge rows ws k u v) (taken.1 ∙ ap (λ n. set all place (bit_and n (bit_not w64 spot.bit))) (sym (get_or-spread starts words place blocks)))
          ∙ has_edge-take rows all kind x y place spot.bit has.row small refl (omega (arith, inside, size)) fits is.bit k u v p;
    })

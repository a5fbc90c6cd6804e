-- Words of which most are 0, in blocks. The words of the blocks that have room stand in one list, behind zeros that all white blocks share.
use Rattle.std.specs.Prelude.{◌≡◌, ℕ, ◌+◌, ◌*◌, ◌/◌, ◌%◌, ◌≤◌, ◌<◌, List, map, length, slice_index_or}
use Rattle.std.specs.List.{range_with_len}
use Rattle.boundary_edges.specs.declared.blocks.TheConstants.{BLOCK}

-- where the word at a place stands among those that take room, by where each block begins
abbrev pub stands_at : List ℕ → ℕ → ℕ
stands_at starts place = slice_index_or starts (place / BLOCK) 0 + place % BLOCK

-- the words of all blocks
unfoldable pub spread : List ℕ → List ℕ → List ℕ
spread starts words = map (λ i. slice_index_or words (stands_at starts i) 0) (range_with_len 0 (BLOCK * length starts))

-- each block begins among whole blocks of words, of which the first one is 0, and no two that aren't white begin at one place
pub record AreBlocks (starts words : List ℕ) : Type 0 where
  pub white : (i : ℕ) → i < BLOCK → slice_index_or words i 0 ≡ 0
  pub whole : length words % BLOCK ≡ 0
  pub start : (b : ℕ) → slice_index_or starts b 0 % BLOCK ≡ 0
  pub room : (b : ℕ) → slice_index_or starts b 0 + BLOCK ≤ length words
  pub apart : (b c : ℕ) → 0 < slice_index_or starts b 0 → slice_index_or starts b 0 ≡ slice_index_or starts c 0 → b ≡ c

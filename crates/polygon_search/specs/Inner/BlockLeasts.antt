-- What a search knows of the blocks of a window.
use Rattle.std.specs.Prelude.{ℕ, ◌+◌, ◌*◌, ◌<◌, ◌≤◌, List, length, slice_index}
use Rattle.polygon_search.specs.declared.blocks.TheConstants.{BLOCK}
use Rattle.polygon_search.specs.declared.bounds.Bound.{Bound}
use Rattle.polygon_search.specs.Inner.Search.{slot_of}
use Rattle.polygon_search.specs.Inner.VertexBounds.{bound_at}

-- what is left from point k: what the second half of a segment to it adds at least, and what stands in its slot
abbrev pub left_at : List Bound → List ℕ → ℕ → ℕ
left_at bounds costs k = (bound_at bounds k).behind + slice_index costs (slot_of (length costs) k)

-- of the points from `begin` to before `end`, each is worth at least the number of its block, and `more`
abbrev pub AreLeasts : (ℕ → ℕ) → ℕ → ℕ → ℕ → List ℕ → Type 0
AreLeasts worth more begin end leasts = (block k : ℕ) → begin + BLOCK * block ≤ k → k < begin + BLOCK * block + BLOCK → k < end
    → more + slice_index leasts block ≤ worth k

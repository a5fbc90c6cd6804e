use Rattle.std.proofs.Common.{◌≡◌, ℕ, ◌+◌, ◌*◌, ◌≤◌, ◌<◌, length}
use Rattle.std.specs.Prelude.{slice_index}
use Rattle.polygon_search.specs.declared.blocks.TheConstants.{BLOCK}
use Rattle.polygon_search.specs.Inner.BlockLeasts.{left_at}
use Rattle.polygon_search.proofs.blocks.fill_leasts.Given as goal

-- the blocks before this one are done
abbrev pub invariant-loop-block : goal.invariant-loop-block
invariant-loop-block l = record {
  places : length l.leasts ≡ length l.fn.leasts;
  done : (block k : ℕ) → block < l.block → l.begin + BLOCK * block ≤ k → k < l.begin + BLOCK * block + BLOCK → k < l.last + 1
      → 0 + slice_index l.leasts block ≤ left_at l.bounds l.costs k;
}

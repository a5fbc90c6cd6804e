-- The points of a window, block by block.
use Rattle.std.proofs.Common.{◌≡◌, ℕ, ◌+◌, ◌-◌, ◌*◌, ◌/◌, ◌<◌, ◌≤◌, List, length, set, refl, sym, ◌∙◌, subst, arith}
use Rattle.std.proofs.lemmas.List.{get_or-set_other, length-set}
use Rattle.std.specs.Prelude.{slice_index}
use Rattle.polygon_search.specs.declared.bounds.Bound.{Bound}
use Rattle.polygon_search.specs.declared.blocks.TheConstants.{BLOCK}
use Rattle.polygon_search.specs.declared.search.OnwardSegment.{OnwardSegment}
use Rattle.polygon_search.specs.Inner.BlockLeasts.{AreLeasts, left_at}
use Rattle.polygon_search.specs.Inner.Search.{IsCheaperIn, slot_of}
use Rattle.polygon_search.specs.Inner.Search.IsCheaperIn.{none}
use Rattle.polygon_search.specs.Inner.VertexBounds.{bound_at}
use Rattle.polygon_search.proofs.Scanning.{tried_on}
use Rattle.polygon_search.proofs.Slots.{apart}

-- where this block of the points from `begin` to `last` begins, or the point after the last one
abbrev pub before_block : ℕ → ℕ → ℕ → ℕ
before_block begin last block = last + 1 - (last + 1 - (begin + BLOCK * block))

-- no point of some blocks is cheaper, where what is left of each comes to as much
pub blocks_passed : (cost_by : ℕ → ℕ) (begin last more : ℕ) (leasts : List ℕ) (block low limit : ℕ) (best onward : OnwardSegment)
    → begin ≤ last → block ≤ low → onward.cost ≤ more + limit → AreLeasts cost_by more begin (last + 1) leasts
    → ((b : ℕ) → block ≤ b → b < low → limit ≤ slice_index leasts b)
    → IsCheaperIn cost_by begin (before_block begin last block) best onward → IsCheaperIn cost_by begin (before_block begin last low) best onward
blocks_passed cost_by begin last more leasts block low limit best onward some on enough are dear is =
    tried_on cost_by begin (before_block begin last block) (before_block begin last low) best onward onward (omega arith) (omega arith) is
    (none refl (λ k above below. (
    let b : ℕ = (k - begin) / BLOCK in
    omega (arith, are b k (omega arith) (omega arith) (omega arith), dear b (omega arith) (omega arith)))))

-- what is left of each block of a window holds on from one point to the one before, whose cost is written into a slot
pub leasts_kept : (bounds : List Bound) (costs : List ℕ) (begin i slot c end before : ℕ) (leasts : List ℕ)
    → slot ≡ slot_of (length costs) i → i < begin → before ≤ end → before ≤ i + length costs
    → AreLeasts (left_at bounds costs) 0 begin end leasts → AreLeasts (left_at bounds (set costs slot c)) 0 begin before leasts
leasts_kept bounds costs begin i slot c end before leasts is low shorter room are block k above near within =
    let alone : ¬ (slot_of (length costs) k ≡ slot) = λ e. apart (length costs) i k (omega arith) (omega arith) (e ∙ is) in
    let same = get_or-set_other costs slot (slot_of (length costs) k) c 0 alone in
    subst (λ slots. 0 + slice_index leasts block ≤ (bound_at bounds k).behind + slice_index (set costs slot c) (slot_of slots k)) (sym (length-set costs slot c))
    (omega (arith, same, are block k above near (omega arith)))

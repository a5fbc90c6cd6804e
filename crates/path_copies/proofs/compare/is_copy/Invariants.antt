use Rattle.std.proofs.Common.{◌≡◌, ℕ, ◌<◌, true}
use Rattle.path_copies.specs.Copy.{IsCopy}
use Rattle.path_copies.proofs.Comparing.{IsAsFar}
use Rattle.path_copies.proofs.compare.is_copy.Given as goal

-- if so far all are alike, the points that were compared lie as far from one another as the first ones; and those of a copy
-- are all alike
abbrev pub invariant-loop-k : goal.invariant-loop-k
invariant-loop-k l = record {
  alike : l.are_alike ≡ true → (m : ℕ) → m < l.k → IsAsFar l.points l.other m;
  copied : IsCopy l.points l.other → l.are_alike ≡ true;
}

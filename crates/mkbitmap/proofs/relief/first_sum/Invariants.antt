use Rattle.std.proofs.Common.{◌≡◌, get_or}
use Rattle.mkbitmap.specs.Box.{sum_between}
use Rattle.mkbitmap.proofs.relief.first_sum.Given as goal

abbrev pub invariant-loop-x : goal.invariant-loop-x
invariant-loop-x l = record {
  sum : l.sum ≡ sum_between (λ a. get_or l.columns a 0) 0 l.x;
}

use Rattle.std.proofs.Common.{◌≡◌, ◌*◌, ◌^◌, ◌≤◌, length, take, sum_by}
use Rattle.potrace_main.proofs.line.pieces.Given as goal

-- so many are counted
abbrev pub invariant-loop-outline : goal.invariant-loop-outline
invariant-loop-outline l = record {
  total : l.total ≡ sum_by (λ outline. length outline) (take l.outline-index l.outlines);
  most : l.total ≤ l.outline-index * 2 ^ 64;
}

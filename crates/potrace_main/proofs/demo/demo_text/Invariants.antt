use Rattle.std.proofs.Common.{◌≤◌}
use Rattle.potrace_main.proofs.Lines.{IsBegun}
use Rattle.potrace_main.proofs.demo.demo_text.Given as goal

-- with the lines of the pages that are left, the text is the demo's
abbrev pub invariant-loop-left : goal.invariant-loop-left
invariant-loop-left g l = record {
  fits : l.left ≤ l.fn.pages;
  text : IsBegun l.fn.settings l.fn.pages l.left l.generator l.text.items;
}

abbrev pub decreases-loop-left : goal.decreases-loop-left
decreases-loop-left g l = l.left

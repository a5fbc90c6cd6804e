use Rattle.std.proofs.Common.{◌≡◌, ◌++◌, drop, flat_map}
use Rattle.potrace_main.proofs.demo.put_lines.Given as goal

-- what stands there and what is still to come are the text
abbrev pub invariant-loop-line : goal.invariant-loop-line
invariant-loop-line l = l.text.items ++ flat_map (λ line. line.items) (drop l.line-index l.lines)
    ≡ l.fn.text.items ++ flat_map (λ line. line.items) l.lines

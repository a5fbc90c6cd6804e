use Rattle.std.proofs.Common.{◌≡◌, map, take}
use Rattle.potrace_options.proofs.given.names_of.Given as goal

-- there is a name for each text before the current one
abbrev pub invariant-loop-text : goal.invariant-loop-text
invariant-loop-text l = l.names ≡ map (λ text. text.now) (take l.text-index l.texts)

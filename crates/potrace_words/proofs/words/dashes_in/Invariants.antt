use Rattle.std.proofs.Common.{◌≡◌, take}
use Rattle.std.specs.Prelude.{count_by}
use Rattle.std.specs.Str.{bytes_eq}
use Rattle.run_output.specs.Names.{dash}
use Rattle.potrace_words.proofs.words.dashes_in.Given as goal

-- the names before the current one are counted
abbrev pub invariant-loop-file : goal.invariant-loop-file
invariant-loop-file l = l.dashes ≡ count_by (λ name. bytes_eq name dash) (take l.file-index l.files)

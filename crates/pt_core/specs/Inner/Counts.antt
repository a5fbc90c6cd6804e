-- How much a count grew.
use Rattle.std.specs.Prelude.{◌≡◌, ℕ, ◌+◌, ◌<◌}
use Rattle.pt_core.specs.Counts.{last_count}

-- the count grew by i: it is greater by i afterwards, or it is the greatest count
abbrev pub GrewBy : ℕ → ℕ → ℕ → Type 0
GrewBy i before after = after < last_count → after ≡ before + i

-- How calls of a sink ended, if further calls follow them.
use Rattle.std.proofs.Common.{ℕ, true, ◌∙◌, ap, subst}
use Rattle.pt_core.specs.Counts.{Rose, next_count}
use Rattle.run_output.specs.Told.{AllWent, BrokeOff, Told}

pub went_on : (a b c : Told) → AllWent a b → AllWent b c → AllWent a c
went_on a b c these those = record { steady = those.steady ∙ these.steady; went = those.went ∙ these.went }

pub broke_on : (a b c : Told) → AllWent a b → BrokeOff b c → BrokeOff a c
broke_on a b c these those = record {
  rose = subst (λ (n : ℕ). Rose n c.faults) these.steady those.rose;
  failed = those.failed ∙ ap (λ (n : ℕ). record { count = next_count n; is_last = true }) these.went;
}

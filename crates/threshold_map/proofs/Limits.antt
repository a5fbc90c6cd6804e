-- The brightest black sample: a whole number is at most a quotient exactly if it is at most the quotient
-- rounded down.
use Rattle.std.proofs.Common.{◌≡◌, ℕ, ◌*◌, ◌/◌, ◌≤◌, ◌<◌, inl, inr, nat_le, arith, sym, ◌∙◌}
use Rattle.std.proofs.lemmas.Bool.{cases_lt, le-leb, lt-leb}

pub below_quotient : (v n : ℕ) → nat_le (v * 1000000) n ≡ nat_le v (n / 1000000)
below_quotient v n = elim (cases_lt (n / 1000000) v) [
  | inl h ↦ let more : n < v * 1000000 = omega arith in lt-leb (v * 1000000) n more ∙ sym (lt-leb v (n / 1000000) h)
  | inr h ↦ let less : v * 1000000 ≤ n = omega arith in le-leb (v * 1000000) n less ∙ sym (le-leb v (n / 1000000) h)
]

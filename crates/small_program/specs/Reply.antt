-- What a program makes of its whole input.
use Rattle.std.specs.Prelude.{◌≡◌, ℕ, ◌^◌, ◌<◌, ◌≤◌, ◌⊎◌, List, length, codes}
use Rattle.run_output.specs.declared.status.Status.{Status}
use Rattle.run_output.specs.declared.status.Status.TheVariants as status

-- the reply to an input: what the task makes of it, or a refusal if the input has more than 2^30 bytes
abbrev pub IsReply : (List ℕ → Status → List ℕ → Type 0) → List ℕ → Status → List ℕ → Type 0
IsReply makes bytes end text =
    ((length bytes ≤ 2 ^ 30) × makes bytes end text)
    ⊎ ((2 ^ 30 < length bytes) × (end ≡ status.Refused) × (text ≡ codes "text too long"))

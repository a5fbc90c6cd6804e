-- What the program makes of its input.
use Rattle.std.specs.Prelude.{◌≡◌, ℕ, List, ◌++◌, codes, decimal}
use Rattle.outline_check.specs.Verdicts.{IsVerdict}
use Rattle.outline_check.specs.declared.verdict.Verdict.TheVariants.{Right, Wrong, BadProofs}
use Rattle.run_output.specs.declared.status.Status.{Status}
use Rattle.run_output.specs.declared.status.Status.TheVariants as status

-- a line with a word and a number
abbrev pub verdict_line : List ℕ → ℕ → List ℕ
verdict_line word n = word ++ (decimal n ++ codes "\n")

-- the reply to a text is the checker's verdict: how many paths are right, or the number of the first wrong one, or a
-- refusal
abbrev pub IsCheckReply : List ℕ → Status → List ℕ → Type 0
IsCheckReply text status.Done line = (n : ℕ) × IsVerdict text (Right n) × (line ≡ verdict_line (codes "right ") n)
IsCheckReply text status.Wrong line = (n : ℕ) × IsVerdict text (Wrong n) × (line ≡ verdict_line (codes "wrong ") n)
IsCheckReply text status.Refused why = IsVerdict text BadProofs × (why ≡ codes "bad proofs")
IsCheckReply text status.BadWords line = ⊥
IsCheckReply text status.Unread line = ⊥
IsCheckReply text status.Unwritten line = ⊥
IsCheckReply text status.OutOfMemory line = ⊥

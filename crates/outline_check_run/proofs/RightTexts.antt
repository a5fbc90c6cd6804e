-- A run finds a text of right certificates right.
use Rattle.std.proofs.Common.{◌≡◌, ℕ, ◌≤◌, ◌^◌, List, length, inl, inr, refl, sym, subst, codes, arith}
use Rattle.outline_check.specs.Verdicts.{IsVerdict}
use Rattle.outline_check.specs.declared.verdict.Verdict.TheVariants.{Right}
use Rattle.run_output.specs.Told.{Sinks, Source}
use Rattle.small_program.specs.Input.{TellsInput}
use Rattle.small_program.specs.ProgramRun.{HasDone, IsProgramRun, Writes}
use Rattle.small_program.specs.Reply.{IsReply}
use Rattle.run_output.specs.declared.status.Status.{Status}
use Rattle.run_output.specs.declared.status.Status.TheVariants as status
use Rattle.small_program.proofs.TakenInput.{one_input}
use Rattle.outline_check_run.specs.Inner.OneReply.{one_line}
use Rattle.outline_check_run.specs.Rechecked.{FindsRight}
use Rattle.outline_check_run.specs.Verdict.{IsCheckReply, verdict_line}

module _ (program text : List ℕ) (paths : ℕ) where
  -- the line that the run writes
  abbrev line : List ℕ
  line = verdict_line (codes "right ") paths

  -- this line is a reply to the text
  right_reply : IsVerdict text (Right paths) → length text ≤ 2 ^ 30 → IsReply IsCheckReply text status.Done line
  right_reply right few = inl (omega (arith, few), (paths, right, refl))

  -- there is no other reply
  reply_is : (said : List ℕ) → IsVerdict text (Right paths) → length text ≤ 2 ^ 30 → IsReply IsCheckReply text status.Done said → said ≡ line
  reply_is said right few (inl (short, made)) = one_line text said line status.Done status.Done made (paths, right, refl)
  reply_is said right few (inr (long, is, why)) = absurd (omega (arith, few, long))

  pub found_right : (words : ℕ) (end : Status) (source source_now : Source) (old new : Sinks) → IsProgramRun IsCheckReply program words end source source_now old new
      → words ≡ 0 → TellsInput source.files text → length text ≤ 2 ^ 30 → IsVerdict text (Right paths) → FindsRight paths end source source_now old new
  found_right words end source source_now old new ran none tells few right = record {
    done = λ still_in still_out. ran.complete none text line status.Done tells (right_reply right few) still_in still_out;
    writes = λ is. written (subst (λ (e : Status). HasDone IsCheckReply program e source source_now old new) is ran.outcome);
  }
    where
      written : HasDone IsCheckReply program status.Done source source_now old new → Writes line old new
      written (bytes, said, takes, is_reply, writes) =
          let same : text ≡ bytes = one_input source.files bytes text takes.has tells in
          subst (λ (l : List ℕ). Writes l old new)
          (reply_is said right few (subst (λ (l : List ℕ). IsReply IsCheckReply l status.Done said) (sym same) is_reply)) writes

-- The two ways in which a run ends meet the definition of a whole run: with an input that couldn't be read, and with a
-- reply.
use Rattle.std.proofs.Common.{◌≡◌, ℕ, ◌+◌, ◌<◌, ◌≤◌, ◌⊎◌, inl, inr, List, length, refl, sym, ◌∙◌, ap, subst, arith, codes}
use Rattle.pt_core.specs.Counts.{Rose, next_count}
use Rattle.pt_core.specs.Files.{Lacks}
use Rattle.run_output.specs.Names.{dash}
use Rattle.run_output.specs.Told.{Sinks, Source, Told}
use Rattle.small_program.specs.Input.{HasInput, HasTaken, TellsInput}
use Rattle.small_program.specs.ProgramRun.{HasDone, IsProgramRun, OnlySays, TakesInput, Writes}
use Rattle.small_program.specs.Inner.ProgramRun.{PutsReply}
use Rattle.small_program.specs.Reply.{IsReply}
use Rattle.small_program.specs.Inner.Reply.{stop_ending, stop_line}
use Rattle.run_output.specs.declared.status.Status.{Status}
use Rattle.run_output.specs.declared.status.Status.TheVariants as status
use Rattle.small_program.specs.declared.input.InputStop.{InputStop}
use Rattle.small_program.specs.declared.input.InputStop.TheVariants as stops
use Rattle.small_program.specs.declared.input.TheConstants.{MOST_BYTES}
use Rattle.small_program.proofs.TakenInput.{is_not_missing, is_there, one_input}

-- what is known if standard input couldn't be read to its end
pub record IsInputStopped (stop : InputStop) (source source_now : Source) : Type 0 where
  pub opened : source_now.openings ≡ next_count source.openings
  pub too_long : stop ≡ stops.TooLong → (bytes : List ℕ) × HasInput source.files bytes × (MOST_BYTES < length bytes)
  pub bound : stop ≡ stops.TooLong → (taken : List ℕ) × HasTaken source.files source_now.files taken × (length taken ≡ MOST_BYTES + 1)
  pub unread : stop ≡ stops.Unread → (Lacks source.files dash × (source_now.faults ≡ source.faults)) ⊎ Rose source.faults source_now.faults
  pub missing : Lacks source.files dash → stop ≡ stops.Unread
  pub steady : (stop ≡ stops.Unread) ⊎ (source_now.faults ≡ source.faults)

-- the outputs weren't called, so their count of faults didn't rise
same_faults : (old new : Sinks) → new.outs ≡ old.outs → old.outs.faults < new.outs.faults → ⊥
same_faults old new same less = let e : new.outs.faults ≡ old.outs.faults = ap (λ (t : Told). t.faults) same in omega arith

-- an input longer than a program takes is refused, whatever the task makes of it
long_is_refused : (makes : List ℕ → Status → List ℕ → Type 0) (bytes text : List ℕ) (well : Status) → MOST_BYTES < length bytes → IsReply makes bytes well text → status.Refused ≡ well
long_is_refused makes bytes text well long (inl (few, made)) = absurd (omega arith)
long_is_refused makes bytes text well long (inr (most, is, why)) = sym is

-- a run is as defined if its input couldn't be read
pub run_stopped : (makes : List ℕ → Status → List ℕ → Type 0) (program : List ℕ) (words : ℕ) (stop : InputStop) (source source_now : Source) (old new : Sinks)
    → words ≡ 0 → IsInputStopped stop source source_now → OnlySays (stop_line program stop) old new
    → IsProgramRun makes program words (stop_ending stop) source source_now old new
run_stopped makes program words stops.Unread source source_now old new none stopped says = record {
  outcome = (record { opened = stopped.opened; cause = stopped.unread refl }, says);
  bad_words = λ is. absurd (let never : status.Unread ≡ status.BadWords = is in cc);
  refused = λ some. absurd (omega arith);
  missing = λ _ _. refl;
  complete = λ _ bytes text well tells reply still_in still_out. absurd (no_cause bytes tells still_in (stopped.unread refl));
  unwritten = λ less. absurd (same_faults old new says.same less);
}
  where
    no_cause : (bytes : List ℕ) → TellsInput source.files bytes → (Rose source.faults source_now.faults → ⊥)
        → (Lacks source.files dash × (source_now.faults ≡ source.faults)) ⊎ Rose source.faults source_now.faults → ⊥
    no_cause bytes tells still (inl (lacks, same)) = is_there source.files bytes tells lacks
    no_cause bytes tells still (inr rose) = still rose
run_stopped makes program words stops.TooLong source source_now old new none stopped says =
    let (bytes, has, long) = stopped.too_long refl in
    let steady : source_now.faults ≡ source.faults = still stopped.steady in
    record {
      outcome = (bytes, codes "text too long", record { opened = stopped.opened; steady = steady; has = has }, λ _. stopped.bound refl, inr (long, refl, refl), says);
      bad_words = λ is. absurd (let never : status.Refused ≡ status.BadWords = is in cc);
      refused = λ some. absurd (omega arith);
      missing = λ _ lacks. absurd (is_not_missing source.files bytes has lacks);
      complete = λ _ others text well tells reply still_in still_out.
          inl (long_is_refused makes others text well (subst (λ (l : List ℕ). MOST_BYTES < length l) (sym (one_input source.files bytes others has tells)) long) reply);
      unwritten = λ less. absurd (same_faults old new says.same less);
    }
  where
    still : (stops.TooLong ≡ stops.Unread) ⊎ (source_now.faults ≡ source.faults) → source_now.faults ≡ source.faults
    still (inl never) = absurd (let e : stops.TooLong ≡ stops.Unread = never in cc)
    still (inr same) = same
run_stopped makes program words stops.OutOfMemory source source_now old new none stopped says = record {
  outcome = (record { opened = inr stopped.opened; steady = still stopped.steady }, says);
  bad_words = λ is. absurd (let never : status.OutOfMemory ≡ status.BadWords = is in cc);
  refused = λ some. absurd (omega arith);
  missing = λ _ lacks. absurd (let never : stops.OutOfMemory ≡ stops.Unread = stopped.missing lacks in cc);
  complete = λ _ bytes text well tells reply still_in still_out. inr refl;
  unwritten = λ less. absurd (same_faults old new says.same less);
}
  where
    still : (stops.OutOfMemory ≡ stops.Unread) ⊎ (source_now.faults ≡ source.faults) → source_now.faults ≡ source.faults
    still (inl never) = absurd (let e : stops.OutOfMemory ≡ stops.Unread = never in cc)
    still (inr same) = same

-- what is known if standard input was read to its end and has a reply
pub record IsReplied (makes : List ℕ → Status → List ℕ → Type 0) (bytes : List ℕ) (well : Status) (text : List ℕ) (source source_now : Source) : Type 0 where
  pub takes : TakesInput bytes source source_now
  pub few : length bytes ≤ MOST_BYTES
  pub made : makes bytes well text
  pub one : (text' : List ℕ) (other : Status) → makes bytes other text' → well ≡ other

-- there is only one reply to an input
one_reply : (makes : List ℕ → Status → List ℕ → Type 0) (bytes text : List ℕ) (well : Status) (source source_now : Source) → IsReplied makes bytes well text source source_now
    → (others more : List ℕ) (other : Status) → TellsInput source.files others → IsReply makes others other more → well ≡ other
one_reply makes bytes text well source source_now replied others more other tells (inl (few, made)) =
    replied.one more other (subst (λ (l : List ℕ). makes l other more) (one_input source.files bytes others replied.takes.has tells) made)
one_reply makes bytes text well source source_now replied others more other tells (inr (long, is, why)) =
    absurd (let same : others ≡ bytes = one_input source.files bytes others replied.takes.has tells in let e : length others ≡ length bytes = ap length same in omega (arith, replied.few))

-- a run is as defined if the document of its reply was written
outcome_written : (makes : List ℕ → Status → List ℕ → Type 0) (program bytes text : List ℕ) (well : Status) (source source_now : Source) (old new : Sinks)
    → (well ≡ status.Done) ⊎ (well ≡ status.Wrong) → IsReplied makes bytes well text source source_now → Writes text old new → HasDone makes program well source source_now old new
outcome_written makes program bytes text well source source_now old new (inl done) replied writes =
    subst (λ (e : Status). HasDone makes program e source source_now old new) (sym done)
    (bytes, text, replied.takes, inl (replied.few, subst (λ (e : Status). makes bytes e text) done replied.made), writes)
outcome_written makes program bytes text well source source_now old new (inr wrong) replied writes =
    subst (λ (e : Status). HasDone makes program e source source_now old new) (sym wrong)
    (bytes, text, replied.takes, inl (replied.few, subst (λ (e : Status). makes bytes e text) wrong replied.made), writes)

-- a run that ends well doesn't end with bad arguments
not_bad : (well : Status) → (well ≡ status.Done) ⊎ (well ≡ status.Wrong) → well ≡ status.BadWords → ⊥
not_bad well (inl done) bad = absurd (let never : status.Done ≡ status.BadWords = sym done ∙ bad in cc)
not_bad well (inr wrong) bad = absurd (let never : status.Wrong ≡ status.BadWords = sym wrong ∙ bad in cc)

-- a run is as defined if there is a reply, whether its document was written, cut off or refused
pub run_replied : (makes : List ℕ → Status → List ℕ → Type 0) (program : List ℕ) (words : ℕ) (bytes text : List ℕ) (well end : Status) (source source_now : Source) (old new : Sinks)
    → words ≡ 0 → IsReplied makes bytes well text source source_now → PutsReply program well text end old new
    → IsProgramRun makes program words end source source_now old new
run_replied makes program words bytes text well end source source_now old new none replied (inl (writable, inl (is, writes))) = record {
  outcome = subst (λ (e : Status). HasDone makes program e source source_now old new) (sym is) (outcome_written makes program bytes text well source source_now old new writable replied writes);
  bad_words = λ bad. absurd (not_bad well writable (sym is ∙ bad));
  refused = λ some. absurd (omega arith);
  missing = λ _ lacks. absurd (is_not_missing source.files bytes replied.takes.has lacks);
  complete = λ _ others more other tells reply still_in still_out. inl (is ∙ one_reply makes bytes text well source source_now replied others more other tells reply);
  unwritten = λ less. absurd (let e : new.outs.faults ≡ old.outs.faults = writes.went.steady in omega arith);
}
run_replied makes program words bytes text well end source source_now old new none replied (inl (writable, inr (is, cuts))) = record {
  outcome = subst (λ (e : Status). HasDone makes program e source source_now old new) (sym is) (bytes, well, text, replied.takes, inl (replied.few, replied.made), writable, cuts);
  bad_words = λ bad. absurd (let never : status.Unwritten ≡ status.BadWords = sym is ∙ bad in cc);
  refused = λ some. absurd (omega arith);
  missing = λ _ lacks. absurd (is_not_missing source.files bytes replied.takes.has lacks);
  complete = λ _ others more other tells reply still_in still_out. absurd (still_out cuts.broke.rose);
  unwritten = λ less. is;
}
run_replied makes program words bytes text well end source source_now old new none replied (inr (refused, is, says)) = record {
  outcome = subst (λ (e : Status). HasDone makes program e source source_now old new) (sym is)
      (bytes, text, replied.takes, λ long. absurd (omega (arith, replied.few)), inl (replied.few, subst (λ (e : Status). makes bytes e text) refused replied.made), says);
  bad_words = λ bad. absurd (let never : status.Refused ≡ status.BadWords = sym is ∙ bad in cc);
  refused = λ some. absurd (omega arith);
  missing = λ _ lacks. absurd (is_not_missing source.files bytes replied.takes.has lacks);
  complete = λ _ others more other tells reply still_in still_out. inl (is ∙ sym refused ∙ one_reply makes bytes text well source source_now replied others more other tells reply);
  unwritten = λ less. absurd (same_faults old new says.same less);
}

-- Filling the points text of a page's paths makes the same page again.
use Rattle.std.proofs.Common.{◌≡◌, ℕ, ◌^◌, ◌≤◌, List, length, inl, inr, refl, sym, subst, arith}
use Rattle.bit_image.specs.Page.{Page}
use Rattle.bit_image.specs.PbmText.{pbm_text}
use Rattle.run_output.specs.Told.{Sinks, Source}
use Rattle.small_program.specs.Input.{TellsInput}
use Rattle.small_program.specs.ProgramRun.{HasDone, IsProgramRun, Writes}
use Rattle.small_program.specs.Reply.{IsReply}
use Rattle.run_output.specs.declared.status.Status.{Status}
use Rattle.run_output.specs.declared.status.Status.TheVariants as status
use Rattle.small_program.proofs.TakenInput.{one_input}
use Rattle.point_fill.specs.Filled.{IsFilled}
use Rattle.point_fill_run.specs.FillReply.{IsFillReply, filler}
use Rattle.point_fill_run.specs.Inner.OneFillReply.{one_fill_text}
use Rattle.point_fill_run.specs.Round.{GivesBack}

-- the reply to a text that fills the page
page_reply : (text : List ℕ) (page : Page) → IsFilled text page → IsFillReply text status.Done (pbm_text page)
page_reply text page filled = inl (refl, (page, filled, refl))

-- there is no other reply
reply_is : (text reply : List ℕ) (page : Page) → length text ≤ 2 ^ 30 → IsFilled text page → IsReply IsFillReply text status.Done reply → reply ≡ pbm_text page
reply_is text reply page few filled (inl (short, made)) = one_fill_text text reply (pbm_text page) status.Done status.Done made (page_reply text page filled)
reply_is text reply page few filled (inr (long, is, why)) = absurd (omega arith)

pub page_comes_back : (text : List ℕ) (page : Page) (words : ℕ) (end : Status) (source source_now : Source) (old new : Sinks)
    → IsProgramRun IsFillReply filler words end source source_now old new → words ≡ 0 → TellsInput source.files text → length text ≤ 2 ^ 30 → IsFilled text page
    → GivesBack page end source source_now old new
page_comes_back text page words end source source_now old new ran none tells few filled = record {
  done = λ still_in still_out. ran.complete none text (pbm_text page) status.Done tells (inl (few, page_reply text page filled)) still_in still_out;
  writes = λ is. written (subst (λ (e : Status). HasDone IsFillReply filler e source source_now old new) is ran.outcome);
}
  where
    written : HasDone IsFillReply filler status.Done source source_now old new → Writes (pbm_text page) old new
    written (bytes, reply, takes, is_reply, writes) =
        let same : text ≡ bytes = one_input source.files bytes text takes.has tells in
        subst (λ (l : List ℕ). Writes l old new)
        (reply_is text reply page few filled (subst (λ (l : List ℕ). IsReply IsFillReply l status.Done reply) (sym same) is_reply)) writes

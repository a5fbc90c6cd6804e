-- If the exit status is 0, each polygon of the text is the best one for its path.
use Rattle.std.proofs.Common.{◌≡◌, ℕ, List, inl, inr, sym, subst, arith}
use Rattle.std.specs.List.{All}
use Rattle.outline_check.specs.ProofsText.{Certified}
use Rattle.outline_check.specs.Texts.{IsProofs}
use Rattle.outline_check.specs.Verdicts.{IsVerdict}
use Rattle.outline_check.specs.declared.verdict.Verdict.TheVariants.{Right}
use Rattle.outline_check.proofs.OneReading.{best_polygons}
use Rattle.polygon_search.specs.Polygon.{IsBestPolygon}
use Rattle.run_output.specs.Told.{Sinks, Source}
use Rattle.run_output.specs.Status.{code_of}
use Rattle.small_program.specs.Input.{TellsInput}
use Rattle.small_program.specs.ProgramRun.{HasDone, TakesInput}
use Rattle.small_program.specs.Reply.{IsReply}
use Rattle.run_output.specs.declared.status.Status.{Status}
use Rattle.run_output.specs.declared.status.Status.TheVariants as status
use Rattle.small_program.proofs.TakenInput.{one_input}
use Rattle.outline_check_run.specs.Verdict.{IsCheckReply}

module _ (source source_now : Source) (text : List ℕ) (width height : ℕ) (paths : List Certified) (tells : TellsInput source.files text)
    (reads : IsProofs text width height paths) where
  best_of_reply : (bytes line : List ℕ) → TakesInput bytes source source_now → IsReply IsCheckReply bytes status.Done line
      → All (λ (c : Certified). IsBestPolygon c.points c.at) paths
  best_of_reply bytes line takes (inl (few, (n, verdict, is))) =
      let same : text ≡ bytes = one_input source.files bytes text takes.has tells in
      best_polygons text n width height paths (subst (λ t. IsVerdict t (Right n)) (sym same) verdict) reads
  best_of_reply bytes line takes (inr (long, refused, why)) = absurd let e : status.Done ≡ status.Refused = refused in cc

  -- at status 0 each polygon is the best one
  pub best_where_done : (program : List ℕ) (old new : Sinks) (end : Status) → code_of end ≡ 0 → HasDone IsCheckReply program end source source_now old new
      → All (λ (c : Certified). IsBestPolygon c.points c.at) paths
  best_where_done program old new status.Done zero (bytes, line, takes, reply, writes) = best_of_reply bytes line takes reply
  best_where_done program old new status.Wrong never done = absurd (omega (arith, never))
  best_where_done program old new status.BadWords never done = absurd (omega (arith, never))
  best_where_done program old new status.Refused never done = absurd (omega (arith, never))
  best_where_done program old new status.Unread never done = absurd (omega (arith, never))
  best_where_done program old new status.Unwritten never done = absurd (omega (arith, never))
  best_where_done program old new status.OutOfMemory never done = absurd (omega (arith, never))

use Rattle.std.proofs.Common.{◌≡◌, refl, true, false, rules}
use Rattle.bitmap_input.specs.Cut.Kind.{Truncated}
use Rattle.bitmap_input.specs.Cut.FileEnd.{Refused}
use Rattle.bitmap_input.specs.Cut.Cut.{Takes}
use Rattle.bitmap_input.specs.PageParts.{pixel}
use Rattle.bitmap_input.specs.Front.{plain_pixel}
use Rattle.std.proofs.lemmas.Result.{err_from_is_err_and}
use Rattle.bitmap_input.proofs.AddedBytes.{gap_stays}
use Rattle.bitmap_input.proofs.ComposedSteps.{reads_on, reads_stop, reads_after, reads_pass, reads_value, reads_end, reads_fault}
use Rattle.bitmap_input.proofs.Pixels.{plain_white_at, plain_black_at}
use Rattle.bitmap_input.proofs.StepEffects.{leaving}
use Rattle.bitmap_input.proofs.plain.read_plain_pixel.Goals as goal

pub returns-in-Byte-eq48 : goal.returns-in-Byte-eq48
returns-in-Byte-eq48 g c = record {
  reads = leaving (search rules)
      (let look = c.in-Byte-eq48.ensures.looks in
      let here : c.in-Byte-eq48.field-0 ≡ 48 = search rules in
      reads_pass {part = plain_pixel} {other = Takes false false} refl look.1 look.0 c.pass.ensures.bytes c.pass.ensures.ended
      (λ xs. plain_white_at c.in-Byte-eq48.field-0 xs here) (reads_value refl));
}

pub returns-in-Byte-eq49 : goal.returns-in-Byte-eq49
returns-in-Byte-eq49 g c = record {
  reads = leaving (search rules)
      (let look = c.in-Byte-eq49.ensures.looks in
      let here : c.in-Byte-eq49.field-0 ≡ 49 = search rules in
      reads_pass {part = plain_pixel} {other = Takes false true} refl look.1 look.0 c.pass-in-Byte-eq49.ensures.bytes c.pass-in-Byte-eq49.ensures.ended
      (λ xs. plain_black_at c.in-Byte-eq49.field-0 xs here) (reads_value refl));
}

pub returns-in_err-skip-in-Byte : goal.returns-in_err-skip-in-Byte
returns-in_err-skip-in-Byte g c = record {
  reads = leaving (search rules)
      (let p = err_from_is_err_and c.from_residual.result c.from_residual.ensures.1 in
      rw (p.1, p.2) (reads_after refl c.in-Byte.ensures.looks.0 (reads_stop (λ _. pixel) c.in_err-skip-in-Byte.ensures.reads.step)));
}

pub returns-in_ok-skip-in-Byte : goal.returns-in_ok-skip-in-Byte
returns-in_ok-skip-in-Byte g c = record {
  reads = leaving (search rules)
      (reads_after refl c.in-Byte.ensures.looks.0 (reads_on gap_stays c.in_ok-skip-in-Byte.ensures.reads.step (λ _ _. c.read_pixel.ensures.reads.step)));
}

pub returns-in-End : goal.returns-in-End
returns-in-End g c = record {
  reads = leaving (search rules)
      (let look = c.in-End.ensures.looks in reads_end {part = plain_pixel} (Refused Truncated) refl refl look.0 look.1.0 look.1.1);
}

pub returns-in-Fault : goal.returns-in-Fault
returns-in-Fault g c = record {
  reads = leaving (search rules)
      (let look = c.in-Fault.ensures.looks in reads_fault refl look.0 look.1 look.2 look.3);
}

use Rattle.std.proofs.Common.{◌≡◌, refl, true, false, nat_eq, rules}
use Rattle.bitmap_input.specs.Cut.Kind.{BadRaster, Truncated}
use Rattle.bitmap_input.specs.Cut.FileEnd.{Refused}
use Rattle.bitmap_input.specs.Cut.Cut.{Takes}
use Rattle.bitmap_input.specs.PageParts.{pixel}
use Rattle.bitmap_input.proofs.ComposedSteps.{reads_pass, reads_value, reads_behind, reads_end, reads_fault}
use Rattle.bitmap_input.proofs.Pixels.{white_at, black_at, no_pixel_at}
use Rattle.bitmap_input.proofs.StepEffects.{leaving}
use Rattle.bitmap_input.proofs.plain.read_pixel.Goals as goal

pub returns-in-48 : goal.returns-in-48
returns-in-48 g c = record {
  reads = leaving (search rules)
      (let look = c.in-Byte.ensures.looks in
      reads_pass {part = pixel} {other = Takes false false} refl look.1 look.0 c.pass.ensures.bytes c.pass.ensures.ended
      (λ xs. white_at c.in-Byte.byte xs c.in-48.is) (reads_value refl));
}

pub returns-in-49 : goal.returns-in-49
returns-in-49 g c = record {
  reads = leaving (search rules)
      (let look = c.in-Byte.ensures.looks in
      reads_pass {part = pixel} {other = Takes false true} refl look.1 look.0 c.pass.ensures.bytes c.pass.ensures.ended
      (λ xs. black_at c.in-Byte.byte xs c.in-49.is) (reads_value refl));
}

pub returns-in_default : goal.returns-in_default
returns-in_default g c = record {
  reads = leaving (search rules)
      (let look = c.in-Byte.ensures.looks in
      let white : nat_eq c.in-Byte.byte 48 ≡ false = search rules in
      let black : nat_eq c.in-Byte.byte 49 ≡ false = search rules in
      reads_behind {part = pixel} (Refused BadRaster) refl look.1 look.0 c.pass.ensures.bytes c.pass.ensures.ended
      (λ xs. no_pixel_at c.in-Byte.byte xs white black) refl);
}

pub returns-in-End : goal.returns-in-End
returns-in-End g c = record {
  reads = leaving (search rules)
      (let look = c.in-End.ensures.looks in reads_end {part = pixel} (Refused Truncated) refl refl look.0 look.1.0 look.1.1);
}

pub returns-in-Fault : goal.returns-in-Fault
returns-in-Fault g c = record {
  reads = leaving (search rules)
      (let look = c.in-Fault.ensures.looks in reads_fault {part = pixel} refl look.0 look.1 look.2 look.3);
}

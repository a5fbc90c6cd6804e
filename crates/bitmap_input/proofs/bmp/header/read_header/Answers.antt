use Rattle.std.proofs.Common.{rules}
use Rattle.std.proofs.lemmas.Result.{err_from_is_err_and}
use Rattle.bitmap_input.specs.Cut.{◌>>=◌}
use Rattle.bitmap_input.specs.Bmp.{info, masks, placed}
use Rattle.bitmap_input.proofs.BmpStays.{start_stays, info_stays, masks_stay}
use Rattle.bitmap_input.proofs.BmpLengths.{whole_has}
use Rattle.bitmap_input.proofs.BmpSteps.{reads_passes}
use Rattle.bitmap_input.proofs.ComposedSteps.{reads_on, reads_stop}
use Rattle.bitmap_input.proofs.StepEffects.{leaving}
use Rattle.bitmap_input.proofs.bmp.header.read_header.Goals as goal

pub invariant_of-info : goal.invariant_of-info
invariant_of-info g c = record { fields = whole_has c.read_masks.new.head c.in_ok-read_masks.ensures.whole }

pub returns-in_err-read_start : goal.returns-in_err-read_start
returns-in_err-read_start g c = record {
  reads = leaving (search rules)
      (let p = err_from_is_err_and c.from_residual.result c.from_residual.ensures.1 in
      rw (p.1, p.2) (reads_stop (λ head rest. info head rest >>= λ head rest. masks head rest >>= λ head rest. placed head rest) c.in_err-read_start.ensures.reads.step));
}

pub returns-in_err-depth : goal.returns-in_err-depth
returns-in_err-depth g c = record {
  reads = leaving (search rules)
      (let p = err_from_is_err_and c.from_residual-in_err-depth.result c.from_residual-in_err-depth.ensures.1 in
      rw (p.1, p.2) (reads_on start_stays c.in_ok-read_start.ensures.reads.step
      (λ head is. rw is (reads_stop (λ head rest. masks head rest >>= λ head rest. placed head rest) c.in_err-depth.ensures.reads.step))));
}

pub returns-in_err-read_masks : goal.returns-in_err-read_masks
returns-in_err-read_masks g c = record {
  reads = leaving (search rules)
      (let p = err_from_is_err_and c.from_residual-in_err-read_masks.result c.from_residual-in_err-read_masks.ensures.1 in
      rw (p.1, p.2) (reads_on start_stays c.in_ok-read_start.ensures.reads.step
      (λ head is. rw is (reads_on (info_stays c.read_start.new.head) c.in_ok-depth.ensures.reads.step
      (λ head2 is2. rw is2 (reads_stop placed c.in_err-read_masks.ensures.reads.step))))));
}

pub returns : goal.returns
returns g c = record {
  reads = leaving (search rules)
      (reads_on start_stays c.in_ok-read_start.ensures.reads.step
      (λ head is. rw is (reads_on (info_stays c.read_start.new.head) c.in_ok-depth.ensures.reads.step
      (λ head2 is2. rw is2 (reads_on (masks_stay c.read_info.new.head) c.in_ok-read_masks.ensures.reads.step
      (λ head3 is3. rw is3 (reads_passes c.describe.ensures.passes)))))));
}

use Rattle.std.proofs.Common.{◌≡◌, ◌-◌, ◌+◌, suc, map, length, arith, rules}
use Rattle.std.proofs.lemmas.Result.{err_from_is_err_and}
use Rattle.bitmap_input.specs.GrayRows.{lowered}
use Rattle.bitmap_input.proofs.AddedBytes.{plain_sample_stays}
use Rattle.bitmap_input.proofs.GatheredParts.{gathering_goes_on, gathering_stops, gathering_ends, one_more, all_taken}
use Rattle.bitmap_input.proofs.StepEffects.{leaving}
use Rattle.bitmap_input.proofs.gray_rows.read_plain_gray_row.Goals as goal

pub returns-in_err-sample-clause-reads : goal.returns-in_err-sample-clause-reads
returns-in_err-sample-clause-reads g c =
    leaving (search rules)
    (let p = err_from_is_err_and c.from_residual.result c.from_residual.ensures.1 in
    let one : length c.args.row.now - c.loop-x.x ≡ suc (length c.args.row.now - (c.loop-x.x + 1)) = omega arith in
    rw (p.1, p.2) (gathering_stops c.loop-x.row c.loop-x.invariant.so_far one c.in_err-sample.ensures.reads.step))

pub loop-x-preserved : goal.loop-x-preserved
loop-x-preserved g c =
    let one : length c.args.row.now - c.loop-x.x ≡ suc (length c.args.row.now - (c.loop-x.x + 1)) = omega arith in
    record {
      so_far = gathering_goes_on _ plain_sample_stays c.loop-x.invariant.so_far one c.in_ok-sample.ensures.reads.step
          (λ a capped values. one_more c.loop-x.row c.loop-x.x _ (lowered a) (map lowered values) (omega arith) (omega (arith, capped)));
      room = search rules;
      leaves = search rules;
    }

pub returns-clause-reads : goal.returns-clause-reads
returns-clause-reads g c =
    leaving (search rules)
    (gathering_ends c.loop-x.row c.loop-x.invariant.so_far (omega arith) (all_taken c.loop-x.row c.loop-x.x (omega arith)))

use Rattle.std.proofs.Common.{◌≡◌, ◌*◌, arith, ◌∙◌, ap, sym, false, length, rules}
use Rattle.std.proofs.lemmas.Result.{err_from_is_err_and}
use Rattle.bitmap_input.specs.Cut.Cut.{Takes}
use Rattle.bitmap_input.specs.Samples.{samples_in, samples, grouped, is_wide}
use Rattle.bitmap_input.specs.declared.channels.Channels.TheVariants.{Gray}
use Rattle.bitmap_input.proofs.SampleBytes.{samples-length}
use Rattle.bitmap_input.proofs.ComposedSteps.{reads_map, reads_stop}
use Rattle.bitmap_input.proofs.StepEffects.{leaving}
use Rattle.bitmap_input.proofs.gray_rows.read_raw_gray_row.Goals as goal

pub returns-in_err-read_block-clause-reads : goal.returns-in_err-read_block-clause-reads
returns-in_err-read_block-clause-reads g c =
    leaving (search rules)
    (let p = err_from_is_err_and c.from_residual.result c.from_residual.ensures.1 in
    let row = rw c.requires.whole at c.in_err-read_block.ensures.reads.step in
    rw (p.1, p.2) (reads_stop (λ bytes rest. Takes false (grouped Gray (samples (is_wide c.args.maxval) bytes)) rest) row))

pub returns-clause-reads : goal.returns-clause-reads
returns-clause-reads g c =
    leaving (search rules)
    (let row = rw c.requires.whole at c.in_ok-read_block.ensures.reads.step in
    let unpacked = rw c.is_wide.ensures at c.unpack.ensures in
    reads_map {js = λ _ values. c.unpack.new.row ≡ values} (samples (is_wide c.args.maxval))
    (λ _ bytes same. unpacked ∙ ap (samples (is_wide c.args.maxval)) (sym same)) row)

pub unpack-requires : goal.unpack-requires
unpack-requires g c =
    let same : length c.read_block.new.row ≡ length c.args.line.now = search rules in
    let long = samples-length (is_wide c.args.maxval) (samples_in Gray * length c.args.row.now) c.read_block.new.row (same ∙ c.requires.whole) in
    record { whole = rw c.is_wide.ensures (omega (arith, long)) }

use Rattle.std.proofs.Common.{◌≡◌, ◌+◌, ◌-◌, ◌++◌, length, take, arith, rules, ap, sym, ◌∙◌}
use Rattle.std.proofs.lemmas.Slice.{take-put_mid}
use Rattle.bitmap_input.proofs.Blocks.{block_as}
use Rattle.bitmap_input.proofs.ComposedSteps.{reads_weaken}
use Rattle.bitmap_input.proofs.StepEffects.{leaving}
use Rattle.bitmap_input.proofs.bmp.head.read_into.Goals as goal

pub returns-clause-reads : goal.returns-clause-reads
returns-clause-reads g c =
    leaving (search rules)
    (let fits : length c.read_block.new.row ≡ c.args.to - c.args.from = search rules in
    let reach : c.args.to ≡ c.args.from + length c.read_block.new.row = omega (arith, fits) in
    let whole = take-put_mid c.args.from (c.args.to - c.args.from) c.args.bytes.now c.read_block.new.row c.args.to reach (omega arith) in
    reads_weaken (λ _ bytes same. whole ∙ ap (λ xs. take c.args.from c.args.bytes.now ++ xs) (sym same)) (block_as c.read_block.ensures.reads.step (search rules)))

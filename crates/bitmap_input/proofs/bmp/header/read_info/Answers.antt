use Rattle.std.proofs.Common.{◌-◌, ◌++◌, ap, sym, ◌∙◌, refl, rules}
use Rattle.std.proofs.lemmas.Result.{err_from_is_err_and}
use Rattle.bitmap_input.specs.Cut.Kind.{BmpKind}
use Rattle.bitmap_input.specs.BmpHeader.{is_known_kind}
use Rattle.bitmap_input.specs.Bmp.{passes}
use Rattle.bitmap_input.proofs.AddedBytes.{block_stays}
use Rattle.bitmap_input.proofs.Blocks.{block_as}
use Rattle.bitmap_input.proofs.BmpLengths.{info_has}
use Rattle.bitmap_input.proofs.BmpSteps.{info_read, passed, not_passed}
use Rattle.bitmap_input.proofs.ComposedSteps.{reads_on, reads_stop}
use Rattle.bitmap_input.proofs.StepEffects.{leaving}
use Rattle.bitmap_input.proofs.bmp.header.read_info.Goals as goal

pub invariant_of-info : goal.invariant_of-info
invariant_of-info g c = record { fields = info_has c.read.new.self (info_read c.args.head.now c.read.new.self _ c.in_ok-read.ensures.reads.step c.in_ok-read.ensures.reach c.requires.begun (ap (λ n. n - 4) c.four_at-size.ensures)) }

pub returns-in-Some-clause-begun : goal.returns-in-Some-clause-begun
returns-in-Some-clause-begun g c =
    info_read c.args.head.now c.read.new.self _ c.in_ok-read.ensures.reads.step c.in_ok-read.ensures.reach c.requires.begun (ap (λ n. n - 4) c.four_at-size.ensures)

pub returns-in_err-read-clause-reads : goal.returns-in_err-read-clause-reads
returns-in_err-read-clause-reads g c =
    leaving (search rules)
    (let p = err_from_is_err_and c.from_residual.result c.from_residual.ensures.1 in
    rw (p.1, p.2) (reads_stop (λ more rest. passes BmpKind (is_known_kind (c.args.head.now ++ more)) (c.args.head.now ++ more) rest)
    (block_as c.in_err-read.ensures.reads.step (ap (λ n. n - 4) c.four_at-size.ensures))))

pub returns-in-Some-clause-reads : goal.returns-in-Some-clause-reads
returns-in-Some-clause-reads g c =
    leaving (search rules)
    (reads_on (block_stays _) (block_as c.in_ok-read.ensures.reads.step (ap (λ n. n - 4) c.four_at-size.ensures))
    (λ more same. passed BmpKind (is_known_kind (c.args.head.now ++ more)) (c.args.head.now ++ more) (ap is_known_kind (sym same) ∙ c.in-Some.ensures.0) (sym same)))

pub returns-in-None-clause-reads : goal.returns-in-None-clause-reads
returns-in-None-clause-reads g c =
    leaving (search rules)
    (reads_on (block_stays _) (block_as c.in_ok-read.ensures.reads.step (ap (λ n. n - 4) c.four_at-size.ensures))
    (λ more same. not_passed _ _ BmpKind (is_known_kind (c.args.head.now ++ more)) (c.args.head.now ++ more) (ap is_known_kind (sym same) ∙ c.in-None.ensures) refl))

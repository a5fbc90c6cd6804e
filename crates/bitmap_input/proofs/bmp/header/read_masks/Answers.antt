use Rattle.std.proofs.Common.{◌++◌, ap, sym, ◌∙◌, refl, rules}
use Rattle.std.proofs.lemmas.Result.{err_from_is_err_and}
use Rattle.bitmap_input.specs.Cut.Kind.{BmpKind}
use Rattle.bitmap_input.specs.BmpHeader.{has_known_colors}
use Rattle.bitmap_input.specs.Bmp.{passes}
use Rattle.bitmap_input.proofs.AddedBytes.{block_stays}
use Rattle.bitmap_input.proofs.Blocks.{block_as}
use Rattle.bitmap_input.proofs.BmpLengths.{info_has, whole_has, masks_within}
use Rattle.bitmap_input.proofs.BmpSteps.{whole_read, bits_stay, passed, not_passed}
use Rattle.bitmap_input.proofs.ComposedSteps.{reads_on, reads_stop}
use Rattle.bitmap_input.proofs.StepEffects.{leaving}
use Rattle.bitmap_input.proofs.bmp.header.read_masks.Goals as goal

pub invariant_of-info : goal.invariant_of-info
invariant_of-info g c = record { fields = info_has c.args.head.now c.requires.begun }

pub invariant_of-whole : goal.invariant_of-whole
invariant_of-whole g c = record { fields = whole_has c.read.new.self (whole_read c.args.head.now c.read.new.self _ c.in_ok-read.ensures.reads.step c.in_ok-read.ensures.reach c.requires.begun c.mask_bytes-n.ensures.value) }

pub has_known_colors-requires-clause-masked : goal.has_known_colors-requires-clause-masked
has_known_colors-requires-clause-masked g c =
    masks_within c.read.new.self (whole_read c.args.head.now c.read.new.self _ c.in_ok-read.ensures.reads.step c.in_ok-read.ensures.reach c.requires.begun c.mask_bytes-n.ensures.value)

pub has_known_colors-requires-clause-kind : goal.has_known_colors-requires-clause-kind
has_known_colors-requires-clause-kind g c =
    bits_stay c.args.head.now c.read.new.self _ c.in_ok-read.ensures.reads.step c.in_ok-read.ensures.reach c.requires.begun ∙ c.requires.kind

pub returns-then-has_known_colors-clause-whole : goal.returns-then-has_known_colors-clause-whole
returns-then-has_known_colors-clause-whole g c =
    whole_read c.args.head.now c.read.new.self _ c.in_ok-read.ensures.reads.step c.in_ok-read.ensures.reach c.requires.begun c.mask_bytes-n.ensures.value

pub returns-then-has_known_colors-clause-kind : goal.returns-then-has_known_colors-clause-kind
returns-then-has_known_colors-clause-kind g c =
    bits_stay c.args.head.now c.read.new.self _ c.in_ok-read.ensures.reads.step c.in_ok-read.ensures.reach c.requires.begun ∙ c.requires.kind

pub returns-in_err-read-clause-reads : goal.returns-in_err-read-clause-reads
returns-in_err-read-clause-reads g c =
    leaving (search rules)
    (let p = err_from_is_err_and c.from_residual.result c.from_residual.ensures.1 in
    rw (p.1, p.2) (reads_stop (λ more rest. passes BmpKind (has_known_colors (c.args.head.now ++ more)) (c.args.head.now ++ more) rest)
    (block_as c.in_err-read.ensures.reads.step c.mask_bytes-n.ensures.value)))

pub returns-then-has_known_colors-clause-reads : goal.returns-then-has_known_colors-clause-reads
returns-then-has_known_colors-clause-reads g c =
    leaving (search rules)
    (let known = sym c.has_known_colors.ensures ∙ c.if-has_known_colors.true in
    reads_on (block_stays _) (block_as c.in_ok-read.ensures.reads.step c.mask_bytes-n.ensures.value)
    (λ more same. passed BmpKind (has_known_colors (c.args.head.now ++ more)) (c.args.head.now ++ more) (ap has_known_colors (sym same) ∙ known) (sym same)))

pub returns-else-has_known_colors-clause-reads : goal.returns-else-has_known_colors-clause-reads
returns-else-has_known_colors-clause-reads g c =
    leaving (search rules)
    (let unknown = sym c.has_known_colors.ensures ∙ c.if-has_known_colors.false in
    reads_on (block_stays _) (block_as c.in_ok-read.ensures.reads.step c.mask_bytes-n.ensures.value)
    (λ more same. not_passed _ _ BmpKind (has_known_colors (c.args.head.now ++ more)) (c.args.head.now ++ more) (ap has_known_colors (sym same) ∙ unknown) refl))

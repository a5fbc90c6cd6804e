use Rattle.std.proofs.Common.{◌≡◌, ◌++◌, true, false, ap, sym, ◌∙◌, refl, rules}
use Rattle.std.proofs.lemmas.Result.{err_from_is_err_and}
use Rattle.bitmap_input.specs.Cut.Kind.{BmpKind}
use Rattle.bitmap_input.specs.BmpHeader.{header_size, is_known_size}
use Rattle.bitmap_input.specs.Bmp.{passes}
use Rattle.bitmap_input.proofs.AddedBytes.{block_stays}
use Rattle.bitmap_input.proofs.BmpSteps.{passed, not_passed}
use Rattle.bitmap_input.proofs.ComposedSteps.{reads_on, reads_stop}
use Rattle.bitmap_input.proofs.StepEffects.{leaving}
use Rattle.bitmap_input.proofs.bmp.header.read_start.Goals as goal

pub returns-in_err-read-clause-reads : goal.returns-in_err-read-clause-reads
returns-in_err-read-clause-reads g c =
    leaving (search rules)
    (let p = err_from_is_err_and c.from_residual.result c.from_residual.ensures.1 in
    rw (p.1, p.2) (reads_stop (λ head rest. passes BmpKind (is_known_size (header_size head)) head rest) c.in_err-read.ensures.reads.step))

pub returns-then-is_known_size-clause-reads : goal.returns-then-is_known_size-clause-reads
returns-then-is_known_size-clause-reads g c =
    leaving (search rules)
    (let known : is_known_size (header_size c.read.new.self) ≡ true = sym (c.is_known_size.ensures ∙ ap is_known_size c.four_at.ensures) ∙ c.if-is_known_size.true in
    reads_on (block_stays 16) c.in_ok-read.ensures.reads.step
    (λ head same. let read : c.read.new.self ≡ head = same ∙ ap (λ xs. xs ++ head) c.requires.none in
    passed BmpKind (is_known_size (header_size head)) head (sym (ap (λ xs. is_known_size (header_size xs)) read) ∙ known) (sym read)))

pub returns-else-is_known_size-clause-reads : goal.returns-else-is_known_size-clause-reads
returns-else-is_known_size-clause-reads g c =
    leaving (search rules)
    (let unknown : is_known_size (header_size c.read.new.self) ≡ false = sym (c.is_known_size.ensures ∙ ap is_known_size c.four_at.ensures) ∙ c.if-is_known_size.false in
    reads_on (block_stays 16) c.in_ok-read.ensures.reads.step
    (λ head same. let read : c.read.new.self ≡ head = same ∙ ap (λ xs. xs ++ head) c.requires.none in
    not_passed _ _ BmpKind (is_known_size (header_size head)) head (sym (ap (λ xs. is_known_size (header_size xs)) read) ∙ unknown) refl))

-- A row of the page has its pixels, and below and above the page all is white.
use Rattle.std.proofs.Common.{◌-◌, ◌&&◌, ◌∙◌, ap, sym, arith}
use Rattle.std.proofs.lemmas.Bool.{le-leb, lt-leb, false_from_ne_true}
use Rattle.bit_image.specs.Page.{image_of}
use Rattle.bit_image.proofs.Packed.{black_in-bits}
use Rattle.boundary_edges.proofs.edges.row_behind.Goals as goal
use Rattle.boundary_edges.proofs.edges.row_behind.Goals.{else-y-ge4-via-then-y-ge4+else-y-height, else-y-ge4-via-else-y-ge4}

pub returns-then-y-height-clause-pixels : goal.returns-then-y-height-clause-pixels
returns-then-y-height-clause-pixels c = λ u.
    let y = c.args.y in
    let image = image_of c.args.page.now in
    black_in-bits c.row_words.result.now image _ c.row_words.ensures.bits u
    ∙ sym (ap (λ t. t && image u (y - 4)) (le-leb 4 y (omega arith)))

pub returns-else-y-ge4-clause-pixels : goal.returns-else-y-ge4-clause-pixels
returns-else-y-ge4-clause-pixels c = λ u.
    let y = c.args.y in
    let image = image_of c.args.page.now in
    c.requires.white u ∙ sym (elim c.else-y-ge4.branch [
      | else-y-ge4-via-then-y-ge4+else-y-height w ↦
          ap (λ t. t && image u (y - 4)) (le-leb 4 y w.if-y-ge4.true)
          ∙ false_from_ne_true (image u (y - 4)) (λ black. let at = c.height-height.ensures.fits u (y - 4) black in absurd (omega (arith, at.1, w.if-y-height.false, c.height-height.ensures.value)))
      | else-y-ge4-via-else-y-ge4 w ↦ ap (λ t. t && image u (y - 4)) (lt-leb 4 y w.if-y-ge4.false)
    ])

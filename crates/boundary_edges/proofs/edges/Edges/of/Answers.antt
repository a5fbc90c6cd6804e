-- Words of 0 have no edges, and then they have those of the page.
use Rattle.std.proofs.Common.{◌+◌, ◌*◌, ◌/◌, length, refl, ap, ◌∙◌}
use Rattle.boundary_edges.proofs.Bounded.{whole_blocks, made, no_edges, no_pixels}
use Rattle.boundary_edges.proofs.Spread.{length-zeros}
use Rattle.boundary_edges.proofs.edges.Edges.of.Goals as goal

pub put_page-requires-clause-white : goal.put_page-requires-clause-white
put_page-requires-clause-white c = λ u.
    no_pixels _ c.deref.result.now u (c.deref.ensures.value ∙ c.in_ok-white.ensures.items_if_clones_equal (λ b e. e))

pub put_page-requires-clause-none : goal.put_page-requires-clause-none
put_page-requires-clause-none c = λ k u v p.
    no_edges _ _ c.in_ok-words.words k u v c.in_ok-words.ensures

pub put_page-requires-clause-room : goal.put_page-requires-clause-room
put_page-requires-clause-room c =
    ap length c.in_ok-words.ensures ∙ length-zeros _ ∙ whole_blocks (c.width-width.result / 64 + 2) (c.height-height.result / 8 + 2) ∙ ap (λ n. 2 * ((n / 64 + 2) * (8 * (c.height-height.result / 8 + 2)))) c.width-width.ensures.value

pub invariant_of-result : goal.invariant_of-result
invariant_of-result c =
    let w = c.width-width.result in
    let h = c.height-height.result in
    let size = c.in_ok-put_page.ensures.length ∙ ap length c.in_ok-words.ensures ∙ length-zeros _ ∙ whole_blocks (w / 64 + 2) (h / 8 + 2) in
    (made w h (8 * (h / 8 + 2)) (w / 64 + 2) c.put_page.new.words c.args.page.now c.width-width.ensures.page c.width-width.ensures.value c.height-height.ensures.value refl refl size c.in_ok-put_page.ensures.edges).0

pub returns : goal.returns
returns c =
    let w = c.width-width.result in
    let h = c.height-height.result in
    let size = c.in_ok-put_page.ensures.length ∙ ap length c.in_ok-words.ensures ∙ length-zeros _ ∙ whole_blocks (w / 64 + 2) (h / 8 + 2) in
    (made w h (8 * (h / 8 + 2)) (w / 64 + 2) c.put_page.new.words c.args.page.now c.width-width.ensures.page c.width-width.ensures.value c.height-height.ensures.value refl refl size c.in_ok-put_page.ensures.edges).1

-- Both words are written, or both are 0.
use Rattle.std.proofs.Common.{◌+◌, ◌*◌, ◌/◌, ◌%◌, ◌∙◌, length, ap, sym, false, arith}
use Rattle.boundary_edges.specs.Inner.BoundaryBits.{has_edge}
use Rattle.boundary_edges.proofs.EdgeBits.{place_inside, has_edge-set_two, has_edge-set_apart, strip_edges, strip_edges-none}
use Rattle.boundary_edges.proofs.strips.put_strip.Goals as goal

pub returns-in_ok-put_two-clause-row : goal.returns-in_ok-put_two-clause-row
returns-in_ok-put_two-clause-row c = λ below above under over k u p here.
    let y = c.args.y in
    let strip = c.args.strip in
    ap (λ ws. has_edge c.args.rows ws k u y) c.in_ok-put_two.ensures
    ∙ has_edge-set_two c.args.rows c.args.words.now strip y (16 * c.block_of.result + 2 * (c.args.y % 8)) _ _ c.requires.y c.block_of.ensures
    (omega (arith, c.block_of.ensures, place_inside c.args.rows strip y 1 (length c.args.words.now) c.requires.y (omega arith) c.requires.room)) k u y p
    ∙ strip_edges below above strip y u c.pixels_behind-pixels.result c.pixels_behind.result c.pixels_behind-2.result
    (has_edge c.args.rows c.args.words.now k u y) k p here (c.pixels_behind-pixels.ensures below strip under) (c.pixels_behind.ensures below strip under) (c.pixels_behind-2.ensures above strip over)

pub returns-in_ok-put_two-clause-others : goal.returns-in_ok-put_two-clause-others
returns-in_ok-put_two-clause-others c = λ k u v p away.
    ap (λ ws. has_edge c.args.rows ws k u v) c.in_ok-put_two.ensures
    ∙ has_edge-set_apart c.args.rows c.args.words.now c.args.strip c.args.y (16 * c.block_of.result + 2 * (c.args.y % 8)) _ _ c.requires.y c.block_of.ensures
    (omega (arith, c.block_of.ensures, place_inside c.args.rows c.args.strip c.args.y 1 (length c.args.words.now) c.requires.y (omega arith) c.requires.room)) k u v p away

pub returns-else-down-left-ne0-clause-row : goal.returns-else-down-left-ne0-clause-row
returns-else-down-left-ne0-clause-row c = λ below above under over k u p here.
    let y = c.args.y in
    let strip = c.args.strip in
    c.requires.none k u p here
    ∙ sym (strip_edges-none strip y k (u / 64) (u % 64) _ _ c.if-down-left-ne0.false)
    ∙ strip_edges below above strip y u c.pixels_behind-pixels.result c.pixels_behind.result c.pixels_behind-2.result
    false k p here (c.pixels_behind-pixels.ensures below strip under) (c.pixels_behind.ensures below strip under) (c.pixels_behind-2.ensures above strip over)

pub put_two-requires-clause-block : goal.put_two-requires-clause-block
put_two-requires-clause-block c =
    omega (arith, c.block_of.ensures, place_inside c.args.rows c.args.strip c.args.y 1 (length c.args.words.now) c.requires.y (omega arith) c.requires.room)

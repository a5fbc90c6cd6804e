use Rattle.std.proofs.Common.{◌≡◌, ap, length, map, sym, subst, ◌∙◌, arith}
use Rattle.std.proofs.lemmas.List.FromFn.{length-map-range_with_len}
use Rattle.std.specs.List.{All, range_with_len}
use Rattle.corner_smooth.specs.Corner.{HasRoundness, StaysNear, corner_piece}
use Rattle.corner_smooth.proofs.Round.{one_lap_on, one_more, one_more_such}
use Rattle.corner_smooth.proofs.outline.smooth.Goals as goal

pub loop-j-preserved : goal.loop-j-preserved
loop-j-preserved c = record {
  pieces = one_more c.args.alphamax c.args.vertices.now c.loop-j.j c.next.result c.loop-j.list.items _ c.loop-j.before c.piece.result
      c.loop-j-test.true c.next.ensures.value c.loop-j.invariant.before c.piece.ensures.value c.loop-j.invariant.pieces c.in_ok-push.ensures.items;
  before = one_lap_on c.args.vertices.now c.loop-j.j c.loop-j-test.true;
  near = one_more_such StaysNear c.loop-j.list.items _ c.piece.result c.loop-j.invariant.near c.piece.ensures.near c.in_ok-push.ensures.items;
  round = one_more_such HasRoundness c.loop-j.list.items _ c.piece.result c.loop-j.invariant.round c.piece.ensures.round c.in_ok-push.ensures.items;
}

pub returns-clause-one_each : goal.returns-clause-one_each
returns-clause-one_each c =
    ap length (c.from_vec.ensures ∙ c.loop-j.invariant.pieces) ∙ length-map-range_with_len _ 0 c.loop-j.j ∙ omega arith

-- each vertex is near the page
pub piece-requires-clause-at : goal.piece-requires-clause-at
piece-requires-clause-at c = c.requires.near c.loop-j.j _ c.loop-j-test.true

pub piece-requires-clause-after : goal.piece-requires-clause-after
piece-requires-clause-after c = c.requires.near c.next.result _ c.next.ensures.within

-- all is in what the loop left
pub returns-clause-near : goal.returns-clause-near
returns-clause-near c = subst (All StaysNear) (sym c.from_vec.ensures) c.loop-j.invariant.near

pub returns-clause-round : goal.returns-clause-round
returns-clause-round c = subst (All HasRoundness) (sym c.from_vec.ensures) c.loop-j.invariant.round

pub returns-clause-pieces : goal.returns-clause-pieces
returns-clause-pieces c =
    let vertices = c.args.vertices.now in
    let end : c.loop-j.j ≡ length vertices = omega (arith, c.loop-j.auto.j-end, c.loop-j-test.false) in
    c.from_vec.ensures ∙ c.loop-j.invariant.pieces ∙ ap (λ n. map (corner_piece c.args.alphamax vertices) (range_with_len 0 n)) end

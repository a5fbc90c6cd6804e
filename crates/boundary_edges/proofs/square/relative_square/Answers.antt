-- One row more: it begins otherwise than the one below it where an edge is between them.
use Rattle.std.proofs.Common.{◌≡◌, ◌∙◌, subst, arith}
use Rattle.turn_policies.proofs.Square.{IsFilledTo, none_filled, more_filled, all_filled}
use Rattle.boundary_edges.proofs.Differ.{not-beq}
use Rattle.boundary_edges.proofs.EightPixels.{relative, first_relative, relative_first, row_relative, column_relative}
use Rattle.boundary_edges.proofs.square.relative_square.Goals as goal

pub loop-j-init : goal.loop-j-init
loop-j-init c =
    record {
      square = λ b edges. none_filled (relative b c.args.x c.args.y);
      column = λ b edges. first_relative b c.args.x c.args.y;
    }

pub loop-j-preserved : goal.loop-j-preserved
loop-j-preserved c =
    let words = c.args.words.now in
    let j = c.loop-j.j in
    record {
      square = λ b edges.
          more_filled c.loop-j.pixels c.row_from.result j (relative b c.args.x c.args.y) (omega arith) c.row_from.ensures.small (c.loop-j.invariant.square b edges)
          (c.row_from.ensures.pixels (λ i. relative b c.args.x c.args.y i j) (relative_first b c.args.x c.args.y j c.loop-j.differs (c.loop-j.invariant.column b edges))
          (λ i p. row_relative b c.args.rows words c.args.x c.args.y j i _ edges (c.eight.ensures i (omega arith))));
      column = λ b edges.
          not-beq c.loop-j.differs c.has_edge-differs.result
          ∙ column_relative b c.args.rows words c.args.x c.args.y j c.loop-j.differs c.has_edge-differs.result edges (c.loop-j.invariant.column b edges) c.has_edge-differs.ensures;
    }

pub returns : goal.returns
returns c = λ b edges.
    let whole : c.loop-j.j ≡ 8 = omega arith in
    all_filled c.loop-j.pixels (relative b c.args.x c.args.y)
    (subst (λ n. IsFilledTo n c.loop-j.pixels (relative b c.args.x c.args.y)) whole (c.loop-j.invariant.square b edges))

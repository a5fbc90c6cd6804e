-- A row without edges that go down is white.
use Rattle.std.proofs.Common.{◌+◌, arith}
use Rattle.bit_image.specs.Page.{image_of}
use Rattle.boundary_edges.proofs.Bounded.{self_edges, row_none}
use Rattle.boundary_edges.proofs.edges.Edges.is_white_down_from.Goals as goal

pub returns-then-row : goal.returns-then-row
returns-then-row c = λ yes u v low near.
    let a = c.self.inside in
    row_none (image_of c.args.self.now) a.rows a.words 0 v (self_edges _ _ _ _ _ c.args.self.now c.self.invariant c.self.view_is) (λ n left. absurd (omega arith))
    (λ n _. c.is_white_band.ensures yes n (v + 4) (omega arith)) u

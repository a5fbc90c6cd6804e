-- The relative pixels are the pixels where the first one is white, and the other way round where it is black.
use Rattle.std.proofs.Common.{◌∙◌, sym}
use Rattle.bit_image.specs.Page.{image_of}
use Rattle.boundary_edges.proofs.Differ.{not-beq}
use Rattle.boundary_edges.proofs.EdgeBits.{read_bit}
use Rattle.boundary_edges.proofs.EightPixels.{square_same, square_turned}
use Rattle.boundary_edges.proofs.Bounded.{self_edges}
use Rattle.boundary_edges.proofs.edges.Edges.square.Goals as goal

pub returns-then-wrong : goal.returns-then-wrong
returns-then-wrong c = λ i j p q.
    let b = image_of c.args.self.now in
    let edges = self_edges _ _ _ _ _ c.args.self.now c.self.invariant c.self.view_is in
    square_turned b c.args.x c.args.y c.relative_square-square.result c.args.black _ (read_bit c.relative_square-square.result 36) c.requires.pixel
    (sym (not-beq _ c.args.black) ∙ c.if-wrong.true) (c.relative_square-square.ensures b edges) i j p q

pub returns-else-wrong : goal.returns-else-wrong
returns-else-wrong c = λ i j p q.
    let b = image_of c.args.self.now in
    let edges = self_edges _ _ _ _ _ c.args.self.now c.self.invariant c.self.view_is in
    square_same b c.args.x c.args.y c.relative_square-square.result c.args.black _ (read_bit c.relative_square-square.result 36) c.requires.pixel
    (sym (not-beq _ c.args.black) ∙ c.if-wrong.false) (c.relative_square-square.ensures b edges) i j p q

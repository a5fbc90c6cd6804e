-- The first edge of the row is the left side of its first black pixel.
use Rattle.std.proofs.Common.{◌≡◌, ℕ, ◌+◌, ◌∙◌, ap, sym, arith}
use Rattle.bit_image.specs.Page.{image_of}
use Rattle.boundary_edges.specs.Inner.BoundaryBits.{has_edge}
use Rattle.boundary_edges.proofs.Bounded.{self_edges, row_found, row_none}
use Rattle.boundary_edges.proofs.edges.Edges.first_black_in_row.Goals as goal

pub returns-in-Some-clause-black : goal.returns-in-Some-clause-black
returns-in-Some-clause-black c =
    let a = c.self.inside in
    let y = c.args.y in
    let row : y + 1 + 3 ≡ y + 4 = omega arith in
    let same : (n : ℕ) → has_edge a.rows a.words 0 n (y + 4) ≡ has_edge a.rows a.words 0 n (y + 1 + 3) = λ n. sym (ap (has_edge a.rows a.words 0 n) row) in
    let found = row_found (image_of c.args.self.now) a.rows a.words c.args.x y c.in-Some.column (self_edges _ _ _ _ _ c.args.self.now c.self.invariant c.self.view_is) c.requires.white
    c.in-Some.ensures.edge.0 (same c.in-Some.column ∙ c.in-Some.ensures.edge.1) (λ n right left. same n ∙ c.in-Some.ensures.left n right left) in
    (omega (arith, c.in-Some.ensures.edge.0), found.0)

pub returns-in-Some-clause-left : goal.returns-in-Some-clause-left
returns-in-Some-clause-left c = λ u _ before.
    let a = c.self.inside in
    let y = c.args.y in
    let row : y + 1 + 3 ≡ y + 4 = omega arith in
    let same : (n : ℕ) → has_edge a.rows a.words 0 n (y + 4) ≡ has_edge a.rows a.words 0 n (y + 1 + 3) = λ n. sym (ap (has_edge a.rows a.words 0 n) row) in
    (row_found (image_of c.args.self.now) a.rows a.words c.args.x y c.in-Some.column (self_edges _ _ _ _ _ c.args.self.now c.self.invariant c.self.view_is) c.requires.white
    c.in-Some.ensures.edge.0 (same c.in-Some.column ∙ c.in-Some.ensures.edge.1) (λ n right left. same n ∙ c.in-Some.ensures.left n right left)).1 u before

pub returns-in-None-clause-none : goal.returns-in-None-clause-none
returns-in-None-clause-none c = λ none u _.
    let a = c.self.inside in
    let y = c.args.y in
    let row : y + 1 + 3 ≡ y + 4 = omega arith in
    row_none (image_of c.args.self.now) a.rows a.words c.args.x y (self_edges _ _ _ _ _ c.args.self.now c.self.invariant c.self.view_is) c.requires.white
    (λ n right. sym (ap (has_edge a.rows a.words 0 n) row) ∙ c.in-None.ensures.none none n right) u

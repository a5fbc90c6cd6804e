use Rattle.std.proofs.Common.{◌≡◌, ◌+◌, ◌*◌, ◌/◌, ◌%◌, ◌∙◌, get_or, ap, arith}
use Rattle.boundary_edges.proofs.blocks.Blocks.get.Goals as goal

pub returns : goal.returns
returns c =
    let whole : 16 * (c.args.place / 16) + c.args.place % 16 ≡ c.args.place = omega arith in
    c.get_in.ensures ∙ ap (λ n. get_or c.args.self.now n 0) whole

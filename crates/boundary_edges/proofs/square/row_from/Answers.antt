-- Each step tells a pixel from the one twice as far on its left; at the end there is none.
use Rattle.std.proofs.Common.{◌*◌, ◌%◌, subst, sym}
use Rattle.std.specs.Int.RustNames.{bit_or}
use Rattle.boundary_edges.proofs.EightPixels.{TellsFrom, from_one, from_twice, from_eight}
use Rattle.boundary_edges.proofs.square.row_from.Goals as goal

pub returns-clause-pixels : goal.returns-clause-pixels
returns-clause-pixels c = λ f start between i p.
    let one : TellsFrom 1 (bit_or (c.args.edges * 2 % 18446744073709551616) c.from.result) f =
    subst (λ n. TellsFrom 1 (bit_or (c.args.edges * 2 % 18446744073709551616) n) f) (sym c.from.ensures) (from_one f c.args.edges c.args.first start between) in
    from_eight f _ i (from_twice f _ 4 (from_twice f _ 2 (from_twice f _ 1 one))) p

use Rattle.std.proofs.Common.{◌*◌, ◌/◌, ◌≤◌, ◌^◌, ℕ, length, arith, sym, ◌∙◌, ap}
use Rattle.std.proofs.Math.Nat.{div-mul-le_self}
use Rattle.prefix_moments.specs.Inner.Table.{prefix_of}
use Rattle.prefix_moments.proofs.Prefixes.{row_begins, row_is}
use Rattle.prefix_moments.proofs.moments.Moments.row_between.Goals as goal

pub sums_to-requires-clause-before : goal.sums_to-requires-clause-before
sums_to-requires-clause-before c =
    let points = c.self.inside.points.now in
    let shift : ℕ = c.self.inside.shift in
    let row : ℕ = c.args.k / 2 ^ shift in
    let within : row * 2 ^ shift ≤ length points = omega (arith, div-mul-le_self c.args.k (2 ^ shift), c.requires, ap length c.self.view_is) in
    row_is points shift c.self.inside.rows.items c.self.invariant row c.index.result.now within c.index.ensures
    ∙ ap (λ n. prefix_of points n) (sym (row_begins (length points) shift row (omega (arith, c.self.invariant.few)) within))

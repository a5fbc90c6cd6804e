use Rattle.std.proofs.Common.{ℕ, ◌+◌, ◌-◌, ◌*◌, ◌/◌, subst}
use Rattle.pt_core.specs.Root.{IsRoot}
use Rattle.prefix_moments.proofs.moments.Moments.penalty.Goals as goal

pub returns : goal.returns
returns c =
    let P : ℕ → Type 0 = λ total. IsRoot (65536 * total / (c.args.j - c.args.i + 1)) c.root_of_mean.result in
    subst P c.total.ensures.value c.root_of_mean.ensures

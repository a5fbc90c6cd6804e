use Rattle.std.proofs.Common.{◌*◌, ◌^◌, ap, ◌∙◌, arith}
use Rattle.std.proofs.lemmas.Nat.{mul-le}
use Rattle.prefix_moments.proofs.moments.square.Goals as goal

pub returns : goal.returns
returns c =
    let one = c.from.ensures in
    let other = c.from-2.ensures in
    let few = c.requires in
    record {
      value = ap (λ n. n * c.from-2.result) one ∙ ap (λ n. c.args.limit * n) other;
      most = omega (arith, mul-le c.from.result c.from-2.result (2 ^ 56) (2 ^ 56) (omega arith) (omega arith));
    }

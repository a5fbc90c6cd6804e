use Rattle.path_cones.proofs.Mirrors.{mirrored_funnel, mirrored_numbers, above_back, below_back}
use Rattle.path_cones.proofs.funnel.Funnel.mirrored.Goals as goal

pub returns-clause-of : goal.returns-clause-of
returns-clause-of c = λ path steps of.
    let n = of.numbers in
    rw (c.mirrored.ensures, c.mirrored-2.ensures, c.mirrored-3.ensures, above_back c.args.self n, below_back c.args.self n)
    (mirrored_funnel path steps c.args.self of)

pub returns-clause-numbers : goal.returns-clause-numbers
returns-clause-numbers c = λ n.
    rw (c.mirrored.ensures, c.mirrored-2.ensures, c.mirrored-3.ensures, above_back c.args.self n, below_back c.args.self n)
    (mirrored_numbers c.args.self n)

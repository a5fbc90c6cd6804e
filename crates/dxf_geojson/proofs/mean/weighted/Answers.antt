use Rattle.std.proofs.Common.{◌*◌, ℤ, pos, neg_ℤ, ◌≤ℤ◌, subst, sym, ◌∙◌, w32}
use Rattle.std.proofs.lemmas.Int.{to_z-of_z}
use Rattle.dxf_geojson.proofs.Means.{short_of, weighted_back, weighted_fits, weighted_least, weighted_most}
use Rattle.dxf_geojson.proofs.mean.weighted.Goals as goal

pub returns-clause-value : goal.returns-clause-value
returns-clause-value c =
    weighted_back c.args.weight c.args.c c.from.result c.from-2.result c.requires (short_of c.args.c c.ranges.c) c.from.ensures
    (c.from-2.ensures ∙ to_z-of_z w32 c.args.c c.ranges.c)

pub returns-clause-least : goal.returns-clause-least
returns-clause-least c =
    let P : ℤ → Type 0 = λ r. neg_ℤ (pos (c.args.weight * 2147483648)) ≤ℤ r in
    subst P (sym (returns-clause-value c)) (weighted_least c.args.weight c.args.c (short_of c.args.c c.ranges.c))

pub returns-clause-most : goal.returns-clause-most
returns-clause-most c =
    let P : ℤ → Type 0 = λ r. r ≤ℤ pos (c.args.weight * 2147483647) in
    subst P (sym (returns-clause-value c)) (weighted_most c.args.weight c.args.c (short_of c.args.c c.ranges.c))

pub overflow_mul-result : goal.overflow_mul-result
overflow_mul-result c =
    weighted_fits c.args.weight c.args.c c.from.result c.from-2.result c.requires (short_of c.args.c c.ranges.c) c.from.ensures
    (c.from-2.ensures ∙ to_z-of_z w32 c.args.c c.ranges.c)

-- The sum of the weighted coordinates lies between 512 times the least and 512 times the greatest number of 32 bits.
use Rattle.std.proofs.Common.{pos, ◌*ℤ◌, w32, ap, ◌∙◌, arith}
use Rattle.std.proofs.lemmas.Int.{to_z-of_z}
use Rattle.pt_core.specs.Floor.{floor_of}
use Rattle.dxf_geojson.proofs.Means.{AreWeighted, three_fits, four_fits, quotient_is, quotient_fits, quotient_back, same_sum}
use Rattle.dxf_geojson.proofs.mean.mean.Goals as goal

pub overflow_add-sum-2 : goal.overflow_add-sum-2
overflow_add-sum-2 c =
    three_fits c.args.i c.args.j c.args.k c.weighted.result c.weighted-2.result c.weighted-3.result (omega arith)
    (record { least = c.weighted.ensures.least; most = c.weighted.ensures.most })
    (record { least = c.weighted-2.ensures.least; most = c.weighted-2.ensures.most })
    (record { least = c.weighted-3.ensures.least; most = c.weighted-3.ensures.most })

pub overflow_add-sum-3 : goal.overflow_add-sum-3
overflow_add-sum-3 c =
    let w : AreWeighted c.args.i c.args.j c.args.k c.args.l c.weighted.result c.weighted-2.result c.weighted-3.result c.weighted-4.result =
    record {
      all = c.requires;
      first = record { least = c.weighted.ensures.least; most = c.weighted.ensures.most };
      second = record { least = c.weighted-2.ensures.least; most = c.weighted-2.ensures.most };
      third = record { least = c.weighted-3.ensures.least; most = c.weighted-3.ensures.most };
      fourth = record { least = c.weighted-4.ensures.least; most = c.weighted-4.ensures.most };
    } in
    four_fits c.args.i c.args.j c.args.k c.args.l c.weighted.result c.weighted-2.result c.weighted-3.result c.weighted-4.result w

pub overflow_cast-result : goal.overflow_cast-result
overflow_cast-result c =
    let w : AreWeighted c.args.i c.args.j c.args.k c.args.l c.weighted.result c.weighted-2.result c.weighted-3.result c.weighted-4.result =
    record {
      all = c.requires;
      first = record { least = c.weighted.ensures.least; most = c.weighted.ensures.most };
      second = record { least = c.weighted-2.ensures.least; most = c.weighted-2.ensures.most };
      third = record { least = c.weighted-3.ensures.least; most = c.weighted-3.ensures.most };
      fourth = record { least = c.weighted-4.ensures.least; most = c.weighted-4.ensures.most };
    } in
    quotient_fits c.args.i c.args.j c.args.k c.args.l c.weighted.result c.weighted-2.result c.weighted-3.result c.weighted-4.result c.div_euclid.result w
    (quotient_is c.args.i c.args.j c.args.k c.args.l c.weighted.result c.weighted-2.result c.weighted-3.result c.weighted-4.result c.div_euclid.result w c.div_euclid.ensures)

pub returns : goal.returns
returns c =
    let w : AreWeighted c.args.i c.args.j c.args.k c.args.l c.weighted.result c.weighted-2.result c.weighted-3.result c.weighted-4.result =
    record {
      all = c.requires;
      first = record { least = c.weighted.ensures.least; most = c.weighted.ensures.most };
      second = record { least = c.weighted-2.ensures.least; most = c.weighted-2.ensures.most };
      third = record { least = c.weighted-3.ensures.least; most = c.weighted-3.ensures.most };
      fourth = record { least = c.weighted-4.ensures.least; most = c.weighted-4.ensures.most };
    } in
    quotient_back c.args.i c.args.j c.args.k c.args.l c.weighted.result c.weighted-2.result c.weighted-3.result c.weighted-4.result c.div_euclid.result w
    (quotient_is c.args.i c.args.j c.args.k c.args.l c.weighted.result c.weighted-2.result c.weighted-3.result c.weighted-4.result c.div_euclid.result w c.div_euclid.ensures)
    ∙ ap (λ v. floor_of v 512)
    (same_sum _ _ _ _ _ _ _ _
    (c.weighted.ensures.value ∙ ap (λ v. pos c.args.i *ℤ v) (to_z-of_z w32 c.args.a c.ranges.a))
    (c.weighted-2.ensures.value ∙ ap (λ v. pos c.args.j *ℤ v) (to_z-of_z w32 c.args.b c.ranges.b))
    (c.weighted-3.ensures.value ∙ ap (λ v. pos c.args.k *ℤ v) (to_z-of_z w32 c.args.c c.ranges.c))
    (c.weighted-4.ensures.value ∙ ap (λ v. pos c.args.l *ℤ v) (to_z-of_z w32 c.args.d c.ranges.d)))

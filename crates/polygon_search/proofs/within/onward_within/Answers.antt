use Rattle.std.proofs.Common.{ap, refl, arith}
use Rattle.polygon_search.specs.declared.search.OnwardSegment.{OnwardSegment}
use Rattle.polygon_search.specs.Inner.Within.IsOnwardBy.{kept, too_dear}
use Rattle.polygon_search.proofs.within.onward_within.Goals.{else-broad, then-broad}
use Rattle.polygon_search.proofs.within.onward_within.Goals as goal

-- the cheapest segment costs too much
pub returns-then-most-onward-clause-onward : goal.returns-then-most-onward-clause-onward
returns-then-most-onward-clause-onward c = elim c.if-broad.branch [
  | then-broad w ↦ too_dear (λ k above below. omega (
    arith,
    w.cheapest_by_blocks-onward.ensures.none (omega (arith, ap (λ (o : OnwardSegment). o.cost) w.onward-is, c.if-most-onward.true)) k above (omega arith),
  )) refl
  | else-broad w ↦ too_dear (λ k above below. omega (
    arith,
    w.cheapest_from-onward.ensures.cheapest k above below,
    ap (λ (o : OnwardSegment). o.cost) w.onward-is,
    c.if-most-onward.true,
  )) refl
]

pub returns-clause-onward : goal.returns-clause-onward
returns-clause-onward c = elim c.if-broad.branch [
  | then-broad w ↦ kept (rw (← w.onward-is) at w.cheapest_by_blocks-onward.ensures.cheapest (omega (arith, ap (λ (o : OnwardSegment). o.cost) w.onward-is, c.if-most-onward.false)))
      (omega (arith, c.if-most-onward.false))
  | else-broad w ↦ kept (rw (← w.onward-is) at w.cheapest_from-onward.ensures) (omega (arith, c.if-most-onward.false))
]

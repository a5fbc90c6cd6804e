use Rattle.std.proofs.Common.{◌^◌, arith, refl, sym, subst, ◌∙◌}
use Rattle.curve_join.proofs.Widths.{size_back, back}
use Rattle.curve_join.proofs.JoinedRuns.{crosses}
use Rattle.curve_join.proofs.Meetings.{way_round}
use Rattle.curve_join.specs.Vector.{GoesNoFarther, way_of}
use Rattle.curve_join.specs.declared.vector.Displacement.{Displacement}
use Rattle.curve_join.proofs.run.triangle.Goals as goal

pub returns-clause-most : goal.returns-clause-most
returns-clause-most c = size_back c.cross.result (2 ^ 58) c.cross.ensures.most (omega arith)

pub cross-requires-clause-short : goal.cross-requires-clause-short
cross-requires-clause-short c = let P : Displacement → Type 0 = λ v. GoesNoFarther (2 ^ 27) v in
    subst P (sym c.way.ensures) c.requires.from_start

pub cross-requires-clause-long : goal.cross-requires-clause-long
cross-requires-clause-long c = way_round c.args.place c.args.end (way_of c.args.end c.args.place) c.way-2.result refl c.way-2.ensures c.requires.from_end

pub returns-clause-value : goal.returns-clause-value
returns-clause-value c = back c.cross.result (omega (arith, c.cross.ensures.most)) ∙ c.cross.ensures.value ∙ crosses _ _ _ _ c.way.ensures c.way-2.ensures

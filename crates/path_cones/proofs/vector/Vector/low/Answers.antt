use Rattle.std.proofs.Common.{subst, sym}
use Rattle.path_cones.specs.Inner.Cones.{IsShort}
use Rattle.path_cones.specs.declared.vector.Vector.{Vector}
use Rattle.path_cones.proofs.Bounds.{same_vector, added, lead_small, minus_back, minus_fits, minus_passed, corner_fits, shorter_back, shorter_passed, low_short}
use Rattle.path_cones.proofs.vector.Vector.low.Goals as goal

-- the numbers fit, and are passed as they are
pub overflow_sub-self : goal.overflow_sub-self
overflow_sub-self c = minus_fits c.args.self.x c.requires.x

pub overflow_sub-self-2 : goal.overflow_sub-self-2
overflow_sub-self-2 c = minus_fits c.args.self.x c.requires.x

pub overflow_sub-self-3 : goal.overflow_sub-self-3
overflow_sub-self-3 c = minus_fits c.args.self.y c.requires.y

pub lead-requires-clause-first : goal.lead-requires-clause-first
lead-requires-clause-first c = shorter_passed c.args.self.y c.requires.y

pub lead-requires-clause-second : goal.lead-requires-clause-second
lead-requires-clause-second c = minus_passed c.args.self.x c.requires.x

pub lead-requires-2-clause-first : goal.lead-requires-2-clause-first
lead-requires-2-clause-first c = minus_passed c.args.self.x c.requires.x

pub lead-requires-2-clause-second : goal.lead-requires-2-clause-second
lead-requires-2-clause-second c = minus_passed c.args.self.y c.requires.y

pub overflow_add-result : goal.overflow_add-result
overflow_add-result c = corner_fits c.args.self.x c.lead.result _ _ c.requires.x c.lead.ensures

pub overflow_add-result-2 : goal.overflow_add-result-2
overflow_add-result-2 c = corner_fits c.args.self.y c.lead-2.result _ _ c.requires.y c.lead-2.ensures

pub returns-clause-value : goal.returns-clause-value
returns-clause-value c =
    let e = rw (shorter_back c.args.self.y c.requires.y, minus_back c.args.self.x c.requires.x) at c.lead.ensures in
    let e2 = rw (minus_back c.args.self.x c.requires.x, minus_back c.args.self.y c.requires.y) at c.lead-2.ensures in
    same_vector _ _ _ _
    (added c.args.self.x _ _ e c.requires.x (lead_small _ _))
    (added c.args.self.y _ _ e2 c.requires.y (lead_small _ _))

pub returns-clause-short : goal.returns-clause-short
returns-clause-short c =
    let P : Vector → Type 0 = IsShort 65536 in
    subst P (sym (returns-clause-value c)) (low_short c.args.self c.requires)

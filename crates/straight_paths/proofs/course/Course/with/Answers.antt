use Rattle.std.proofs.Common.{◌≡◌, ◌+◌, ◌↔◌, suc, refl, sym, subst, arith}
use Rattle.path_cones.specs.Inner.Cones.{HoldsWay, IsSound}
use Rattle.straight_paths.specs.Inner.Courses.{cone_of}
use Rattle.path_cones.specs.Straight.{IsNear}
use Rattle.straight_paths.specs.Inner.NextSteps.{AreTaken}
use Rattle.path_cones.specs.declared.cone.Cone.{Cone}
use Rattle.straight_paths.specs.declared.course.Course.{Course}
use Rattle.path_cones.specs.declared.vector.Vector.{Vector}
use Rattle.straight_paths.proofs.Wording.{course_on}
use Rattle.straight_paths.proofs.course.Course.with.Goals as goal

pub returns : goal.returns
returns c =
    let end = c.end-end.result in
    let P : Cone → Cone → Type 0 = λ old new. (other : Vector) → HoldsWay new other ↔ (HoldsWay old other × IsNear end other) in
    let both : P (cone_of c.args.self.cone) (cone_of c.in_ok-cone.cone) =
    subst (P (cone_of c.args.self.cone)) (sym c.in_ok-cone.ensures) (subst (λ (old : Cone). P old c.narrowed.result) c.wide.ensures c.narrowed.ensures.both) in
    let new : Course = record { front = c.args.front; last = c.args.digit; way = c.in_ok-way.way; cone = c.in_ok-cone.cone; flags = c.with.result } in
    record {
      front_is = refl;
      last = refl;
      sound = subst IsSound (sym c.in_ok-cone.ensures) c.narrowed.ensures.sound;
      has = λ path count step has.
          let e : count + 1 ≡ suc count = omega arith in
          course_on path count c.args.digit c.args.self end step has c.end-end.ensures.value new c.in_ok-way.ensures both
          (subst (λ n. AreTaken path n c.with.result) e (c.with.ensures path count step has.taken));
    }

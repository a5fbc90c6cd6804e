use Rattle.std.proofs.Common.{◌≡◌, ◌+◌, Bool, true, false, not, suc, refl, subst, IsTrue, rules, arith}
use Rattle.std.proofs.lemmas.Bool.{false≢true}
use Rattle.path_cones.specs.Inner.Cones.{HoldsWay}
use Rattle.path_cones.specs.Straight.{TakesAllFour}
use Rattle.path_cones.specs.declared.cone.Cone.{Cone}
use Rattle.straight_paths.proofs.Wording.{not_held, straight_on}
use Rattle.straight_paths.proofs.course.Course.goes_on.Goals as goal

pub returns-then-not-holds-clause-not_straight : goal.returns-then-not-holds-clause-not_straight
returns-then-not-holds-clause-not_straight c = λ _ path count step has.
    let out : ¬ HoldsWay c.wide.result c.end.result = search rules in
    not_held path count c.args.digit c.args.self c.end.result step has c.end.ensures.value
    (subst (λ (cone : Cone). ¬ HoldsWay cone c.end.result) c.wide.ensures out)

not_all : (all : Bool) → IsTrue (not all) → ¬ IsTrue all
not_all true on is = false≢true on
not_all false on is = false≢true is

all_of : (all : Bool) → ¬ IsTrue (not all) → IsTrue all
all_of true off = refl
all_of false off = absurd (off refl)

pub returns-clause-straight : goal.returns-clause-straight
returns-clause-straight c = λ on path count step has straight rest.
    let held : HoldsWay c.wide.result c.end.result = search rules in
    let four = c.all.ensures path (count + 1) (c.with.ensures path count step has.taken) in
    let e : suc count ≡ count + 1 = omega arith in
    straight_on path count c.args.digit c.args.self c.end.result step has c.end.ensures.value
    (subst (λ (cone : Cone). HoldsWay cone c.end.result) c.wide.ensures held)
    (λ t. not_all c.all.result on (four.1 (subst (TakesAllFour path) e t))) straight rest

pub returns-clause-not_straight : goal.returns-clause-not_straight
returns-clause-not_straight c = λ off path count step has straight.
    let four = c.all.ensures path (count + 1) (c.with.ensures path count step has.taken) in
    let e : count + 1 ≡ suc count = omega arith in
    straight.not_all_four (subst (TakesAllFour path) e (four.0 (all_of c.all.result off)))

use Rattle.std.proofs.Common.{sym, subst, rules}
use Rattle.std.proofs.lemmas.List.Elements.{All-set}
use Rattle.vertex_adjust.specs.Inner.Quadratic.{IsErrorOver, IsLeastShift}
use Rattle.vertex_adjust.specs.declared.memo.LeastShift.{LeastShift}
use Rattle.vertex_adjust.specs.declared.quadratic.Quadratic.{Quadratic}
use Rattle.vertex_adjust.proofs.memo.VertexMemo.shift.Goals as goal

pub returns-then-is_one_quadratic-clause-least : goal.returns-then-is_one_quadratic-clause-least
returns-then-is_one_quadratic-clause-least c =
    let kept = c.index-kept.result.now in
    let items = c.self.inside.shifts.items in
    let P : LeastShift → Type 0 = λ least. IsLeastShift least in
    let is : IsLeastShift kept = subst P (sym c.index-kept.ensures) (c.self.invariant.1 c.place_of_quadratic-at.result kept (search rules)) in
    λ error over. (
    let Q : Quadratic → Type 0 = λ quadratic. IsErrorOver error quadratic in
    is.least error (subst Q (sym (c.is_one_quadratic.ensures c.if-is_one_quadratic.true)) over))

pub invariant_of-self : goal.invariant_of-self
invariant_of-self c = (
  c.self.invariant.0,
  All-set IsLeastShift c.self.inside.shifts.items c.place_of_quadratic-at.result c.of-least.result c.of-least.ensures.least c.self.invariant.1,
)

pub returns-clause-least : goal.returns-clause-least
returns-clause-least c = λ error over. (
    let Q : Quadratic → Type 0 = λ quadratic. IsErrorOver error quadratic in
    c.of-least.ensures.least.least error (subst Q (sym c.of-least.ensures.quadratic) over))

use Rattle.std.proofs.Common.{◌+◌, refl, sym, subst, arith}
use Rattle.std.specs.Prelude.{IfOk, Result, Ok, Err}
use Rattle.cyclic_optimal.specs.Inner.Fronts.{IsFrontOf, IsMoved}
use Rattle.cyclic_optimal.specs.declared.fronts.Front.{Front}
use Rattle.cyclic_optimal.proofs.Passing.{AreToldOn, front_told}
use Rattle.cyclic_optimal.proofs.merged.earlier_by.Goals as goal

-- what follows from all that holds of a front that is there
where_ok : {E : Type 0} (A B C D F P : Front → Type 0) (result : Result Front E) → ((front : Front) → A front → B front → C front → D front → F front → P front)
    → IfOk result A → IfOk result B → IfOk result C → IfOk result D → IfOk result F → IfOk result P
where_ok A B C D F P (Ok front) so a b c d f = so front a b c d f
where_ok A B C D F P (Err e) so a b c d f = tt

pub returns-then-is_moved-clause-front : goal.returns-then-is_moved-clause-front
returns-then-is_moved-clause-front c =
    let s = c.args.sides.now in
    let points = s.moments.now in
    let later = c.args.later.now in
    let other : Front = c.index-kept-later.result in
    let before : Front = c.index-kept-later-then-later-kept.result in
    let moved : IsMoved later other = c.if-is_moved.ensures refl in
    let is = c.if-is_before.ensures in
    let is_other : IsFrontOf points other = subst (IsFrontOf points) (sym c.index-kept-later.is) (c.requires.kept later.left other (omega (arith, c.if-later-kept.true))) in
    let is_before : IsFrontOf points before = subst (IsFrontOf points) (sym c.index-kept-later-then-later-kept.is) (c.requires.kept (later.left + 1) before (omega (arith, c.if-later-kept.true))) in
    let told : AreToldOn points c.args.top later other before = record {
      is_later = c.requires.front;
      is_other = is_other;
      is_before = is_before;
      moved = moved;
      ends = is.end refl;
      lefts = is.left refl;
      early = c.requires.before;
      low = is.low refl;
      high = is.top refl;
      few = c.requires.few;
      reached = c.requires.reached;
    } in
    let front = c.moved.ensures in
    where_ok _ _ _ _ _ (IsFrontOf points) c.moved.result
    (λ front end left low top each. front_told points s.on_page c.args.top later other before told front end left low top each)
    front.end front.left front.low front.top front.each

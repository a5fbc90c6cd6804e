use Rattle.std.proofs.Common.{◌≡◌, ℕ, ◌+◌, ◌-◌, List, length, sym, subst, arith}
use Rattle.cyclic_optimal.proofs.Lowest.{IsSoFar, before_end, reached, rest_by, front_at, so_far_all, so_far_more, so_far_none}
use Rattle.cyclic_optimal.proofs.round.first_way.Goals as goal

pub first_onward-onward-requires-clause-point : goal.first_onward-onward-requires-clause-point
first_onward-onward-requires-clause-point c =
    let s = c.args.sides.now in
    let points = s.moments.now in
    let end : ℕ = c.args.start + length points in
    let left : ℕ = c.loop-left.left - 1 in
    let e : c.loop-left.left ≡ left + 1 = omega (arith, c.loop-left-test.true) in
    let P : ℕ → Type 0 = λ n. IsSoFar points end (length c.args.fronts.now - 1) c.args.start c.args.worth n c.loop-left.at c.loop-left.rest c.loop-left.way.items in
    let before = before_end points c.args.start c.args.worth c.args.fronts.now c.requires.fronts left c.loop-left.at c.loop-left.rest c.loop-left.way.items
    (subst P e c.loop-left.invariant) in
    omega (arith, before c.index-fronts-left.result c.index-fronts-left.is, c.requires.start)

pub first_onward-onward-requires-clause-few : goal.first_onward-onward-requires-clause-few
first_onward-onward-requires-clause-few c =
    let points = c.args.sides.now.moments.now in
    let end : ℕ = c.args.start + length points in
    let left : ℕ = c.loop-left.left - 1 in
    let e : c.loop-left.left ≡ left + 1 = omega (arith, c.loop-left-test.true) in
    let P : ℕ → Type 0 = λ n. IsSoFar points end (length c.args.fronts.now - 1) c.args.start c.args.worth n c.loop-left.at c.loop-left.rest c.loop-left.way.items in
    let at = front_at points c.args.start c.args.worth c.args.fronts.now c.requires.fronts left c.loop-left.at c.loop-left.rest c.loop-left.way.items
    (subst P e c.loop-left.invariant) c.index-fronts-left.result c.index-fronts-left.is in
    at.few

pub first_onward-onward-requires-clause-front : goal.first_onward-onward-requires-clause-front
first_onward-onward-requires-clause-front c =
    let points = c.args.sides.now.moments.now in
    let end : ℕ = c.args.start + length points in
    let left : ℕ = c.loop-left.left - 1 in
    let e : c.loop-left.left ≡ left + 1 = omega (arith, c.loop-left-test.true) in
    let P : ℕ → Type 0 = λ n. IsSoFar points end (length c.args.fronts.now - 1) c.args.start c.args.worth n c.loop-left.at c.loop-left.rest c.loop-left.way.items in
    let at = front_at points c.args.start c.args.worth c.args.fronts.now c.requires.fronts left c.loop-left.at c.loop-left.rest c.loop-left.way.items
    (subst P e c.loop-left.invariant) c.index-fronts-left.result c.index-fronts-left.is in
    at.is

pub first_onward-onward-requires-clause-rest : goal.first_onward-onward-requires-clause-rest
first_onward-onward-requires-clause-rest c =
    let points = c.args.sides.now.moments.now in
    let end : ℕ = c.args.start + length points in
    let left : ℕ = c.loop-left.left - 1 in
    let e : c.loop-left.left ≡ left + 1 = omega (arith, c.loop-left-test.true) in
    let P : ℕ → Type 0 = λ n. IsSoFar points end (length c.args.fronts.now - 1) c.args.start c.args.worth n c.loop-left.at c.loop-left.rest c.loop-left.way.items in
    rest_by points c.args.start c.args.worth c.args.fronts.now c.requires.fronts left c.loop-left.at c.loop-left.rest c.loop-left.way.items
    (subst P e c.loop-left.invariant) c.index-fronts-left.result c.index-fronts-left.is

pub first_onward-onward-requires-clause-reached : goal.first_onward-onward-requires-clause-reached
first_onward-onward-requires-clause-reached c =
    let points = c.args.sides.now.moments.now in
    let end : ℕ = c.args.start + length points in
    let left : ℕ = c.loop-left.left - 1 in
    let e : c.loop-left.left ≡ left + 1 = omega (arith, c.loop-left-test.true) in
    let P : ℕ → Type 0 = λ n. IsSoFar points end (length c.args.fronts.now - 1) c.args.start c.args.worth n c.loop-left.at c.loop-left.rest c.loop-left.way.items in
    reached points c.args.start c.args.worth c.args.fronts.now c.requires.fronts left c.loop-left.at c.loop-left.rest c.loop-left.way.items
    (subst P e c.loop-left.invariant) c.index-fronts-left.result c.index-fronts-left.is

pub loop-left-preserved : goal.loop-left-preserved
loop-left-preserved c =
    let points = c.args.sides.now.moments.now in
    let end : ℕ = c.args.start + length points in
    let left : ℕ = c.loop-left.left - 1 in
    let e : c.loop-left.left ≡ left + 1 = omega (arith, c.loop-left-test.true) in
    let P : ℕ → Type 0 = λ n. IsSoFar points end (length c.args.fronts.now - 1) c.args.start c.args.worth n c.loop-left.at c.loop-left.rest c.loop-left.way.items in
    let onward = c.first_onward-onward.result in
    let Q : List ℕ → Type 0 = λ l. IsSoFar points end (length c.args.fronts.now - 1) c.args.start c.args.worth left onward.next onward.least l in
    subst Q (sym c.in_ok-push.ensures.items)
    (so_far_more points c.args.start c.args.worth c.args.fronts.now c.requires.fronts left c.loop-left.at c.loop-left.rest c.loop-left.way.items
    (subst P e c.loop-left.invariant) c.index-fronts-left.result c.index-fronts-left.is onward c.first_onward-onward.ensures)

pub returns : goal.returns
returns c =
    let points = c.args.sides.now.moments.now in
    let end : ℕ = c.args.start + length points in
    let none : c.loop-left.left ≡ 0 = omega (arith, c.loop-left-test.false) in
    let P : ℕ → Type 0 = λ n. IsSoFar points end (length c.args.fronts.now - 1) c.args.start c.args.worth n c.loop-left.at c.loop-left.rest c.loop-left.way.items in
    so_far_all points end (length c.args.fronts.now - 1) c.args.start c.args.worth c.loop-left.at c.loop-left.rest c.loop-left.way.items
    (subst P none c.loop-left.invariant)

-- no segment yet
pub loop-left-init : goal.loop-left-init
loop-left-init c =
    let points = c.args.sides.now.moments.now in
    let end : ℕ = c.args.start + length points in
    let Q : List ℕ → Type 0 = λ l. IsSoFar points end (length c.args.fronts.now - 1) c.args.start c.args.worth (length c.args.fronts.now - 1) c.args.start c.args.worth l in
    subst Q (sym c.in_ok-way.ensures.items) (so_far_none points end (length c.args.fronts.now - 1) c.args.start c.args.worth c.requires.worth c.requires.some)

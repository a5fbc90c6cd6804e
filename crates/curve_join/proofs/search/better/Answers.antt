use Rattle.std.proofs.Common.{◌≡◌, ℕ, ◌+◌, ◌-◌, ◌<◌, ◌≤◌, inr, refl, ap, ◌∙◌, subst, arith, inl}
use Rattle.curve_join.specs.Inner.CutSearch.{IsNotBehind, paid}
use Rattle.curve_join.specs.declared.search.WayOn.{WayOn}
use Rattle.std.proofs.lemmas.Bool.{cases_lt}
use Rattle.curve_join.specs.Inner.Costs.{joined_small}
use Rattle.curve_join.specs.Join.{joined_piece, penalty_at}
use Rattle.curve_join.proofs.Slices.{joinable, may_be_one, penalty_is, penalty_of}
use Rattle.curve_join.proofs.search.better.Goals as goal

not_single : (i j : ℕ) → i + 1 < j → ¬ (j - i ≡ 1)
not_single i j onwards = λ e. omega arith

pub joined_round-requires-clause-round : goal.joined_round-requires-clause-round
joined_round-requires-clause-round c = rw c.run.ensures c.requires.round

-- a way that isn't better without its penalty isn't better with it
behind_paid : (best way : WayOn) (penalty : ℕ) → IsNotBehind best way → IsNotBehind best (paid penalty way)
behind_paid best way penalty is = record {
  count = is.count;
  cost = λ same. omega (arith, is.cost same);
  next = λ same cost. let least = is.cost same in is.next same (omega (arith, least, cost));
}

no_worse : (way : WayOn) → IsNotBehind way way
no_worse way = record { count = omega arith; cost = λ _. omega arith; next = λ _ _. omega arith }

paid_same : (way : WayOn) (n m : ℕ) → n ≡ m → IsNotBehind (paid n way) (paid m way)
paid_same way n m e = subst (λ k. IsNotBehind (paid n way) (paid k way)) e (no_worse (paid n way))

pub returns-then-not-is_before-clause-run : goal.returns-then-not-is_before-clause-run
returns-then-not-is_before-clause-run c = λ may. behind_paid c.args.best c.args.way _ (c.if-not-is_before.ensures.not refl)

-- a way that was ruled out for its penalty isn't better
above : (n m : ℕ) → ¬ (n ≤ m) → m < n
above n m not = elim (cases_lt m n) [ inl more ↦ more | inr few ↦ absurd (not few) ]

pub limit_of-limit-requires : goal.limit_of-limit-requires
limit_of-limit-requires c = c.if-not-is_before.ensures.before refl

pub returns-in_default-clause-run : goal.returns-in_default-clause-run
returns-in_default-clause-run c = λ may.
    let run = c.run.result.bends.now in
    let tol = c.args.runs.now.tol in
    let single = not_single c.args.from c.args.way.next c.requires.onwards in
    let joins = joinable c.args.runs.now.bends.items run c.args.from c.args.way.next c.run.ensures single tol may in
    let dear = above (penalty_at run) c.limit_of-limit.result (λ few. c.in_default.ensures (joins, few)) in
    subst (λ n. IsNotBehind c.args.best (paid n c.args.way)) (penalty_of c.args.runs.now.bends.items run c.args.from c.args.way.next c.run.ensures single)
    (c.limit_of-limit.ensures (penalty_at run) (joined_small tol c.args.runs.now.tolerance run joins) dear)

pub returns-clause-run : goal.returns-clause-run
returns-clause-run c = λ may. paid_same c.args.way _ _ (c.from.ensures ∙ penalty_is c.args.runs.now.bends.items c.run.result.bends.now c.args.from c.args.way.next c.run.ensures (not_single c.args.from c.args.way.next c.requires.onwards) _ c.in-Some.penalty c.in-Some.ensures.is)

pub returns-clause-one : goal.returns-clause-one
returns-clause-one c =
    inr (
      may_be_one c.args.runs.now.bends.items c.run.result.bends.now c.args.from c.args.way.next c.run.ensures (not_single c.args.from c.args.way.next c.requires.onwards) c.args.runs.now.tol c.requires.within c.in-Some.ensures.holds.0,
      ap (λ n. paid n c.args.way) (c.from.ensures ∙ penalty_is c.args.runs.now.bends.items c.run.result.bends.now c.args.from c.args.way.next c.run.ensures (not_single c.args.from c.args.way.next c.requires.onwards) _ c.in-Some.penalty c.in-Some.ensures.is),
    )

pub returns-then-not-is_before-clause-best : goal.returns-then-not-is_before-clause-best
returns-then-not-is_before-clause-best c = no_worse c.args.best

pub returns-in_default-clause-best : goal.returns-in_default-clause-best
returns-in_default-clause-best c = no_worse c.args.best

pub returns-then-not-is_before-2-clause-best : goal.returns-then-not-is_before-2-clause-best
returns-then-not-is_before-2-clause-best c = no_worse c.args.best

pub returns-then-not-is_before-clause-one : goal.returns-then-not-is_before-clause-one
returns-then-not-is_before-clause-one c = inl refl

pub joined_round-requires-clause-tol : goal.joined_round-requires-clause-tol
joined_round-requires-clause-tol c = c.args.runs.now.tolerance

pub returns-in_default-clause-one : goal.returns-in_default-clause-one
returns-in_default-clause-one c = inl refl

pub returns-clause-best : goal.returns-clause-best
returns-clause-best c = c.if-not-is_before-2.ensures.before refl

pub returns-then-not-is_before-2-clause-one : goal.returns-then-not-is_before-2-clause-one
returns-then-not-is_before-2-clause-one c = inl refl

pub returns-then-not-is_before-2-clause-run : goal.returns-then-not-is_before-2-clause-run
returns-then-not-is_before-2-clause-run c = λ may. subst (λ n. IsNotBehind c.args.best (paid n c.args.way))
    (c.from.ensures ∙ penalty_is c.args.runs.now.bends.items c.run.result.bends.now c.args.from c.args.way.next c.run.ensures (not_single c.args.from c.args.way.next c.requires.onwards) _ c.in-Some.penalty c.in-Some.ensures.is)
    (c.if-not-is_before-2.ensures.not refl)

pub returns-clause-joined : goal.returns-clause-joined
returns-clause-joined c = λ onwards. ap (λ both. both.0) c.in-Some.ensures.is ∙ ap joined_piece c.run.ensures

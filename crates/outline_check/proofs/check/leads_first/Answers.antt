use Rattle.std.proofs.Common.{ℕ, length, ◌<◌, ◌∙◌, subst, inl, inr, arith}
use Rattle.std.proofs.lemmas.Bool.{cases_eq, cases_lt}
use Rattle.std.proofs.lemmas.List.{get_or_default}
use Rattle.polygon_search.specs.Inner.Lasts.{IsUpToLast}
use Rattle.polygon_search.specs.Polygon.{penalty_of}
use Rattle.outline_check.specs.Labels.{LeadsTo, label_at}
use Rattle.outline_check.proofs.check.leads_first.Goals as goal

-- the segments that are tried lead from a point of the path, and no farther than the longest one
pub leads-requires-clause-from : goal.leads-requires-clause-from
leads-requires-clause-from c = omega (arith, c.if-from-size.false, c.size.ensures)

pub leads-requires-clause-reached : goal.leads-requires-clause-reached
leads-requires-clause-reached c =
    let s = c.args.segments.now in
    let there : c.args.from < length s.lasts.items = omega (arith, c.if-from-size.false, c.size.ensures, s.places) in
    omega (arith, c.loop-k-test.true, c.if-to-index.false, c.index.ensures ∙ get_or_default s.lasts.items c.args.from c.index.result.now 0 there)

pub leads-requires-2-clause-from : goal.leads-requires-2-clause-from
leads-requires-2-clause-from c = omega (arith, c.if-from-size.false, c.size.ensures)

pub leads-requires-2-clause-reached : goal.leads-requires-2-clause-reached
leads-requires-2-clause-reached c =
    let s = c.args.segments.now in
    let there : c.args.from < length s.lasts.items = omega (arith, c.if-from-size.false, c.size.ensures, s.places) in
    omega (arith, c.if-to-index.false, c.index.ensures ∙ get_or_default s.lasts.items c.args.from c.index.result.now 0 there)

-- the label comes from none of the points before
pub loop-k-preserved : goal.loop-k-preserved
loop-k-preserved c = λ j above below leads.
    let s = c.args.segments.now in
    let labels = c.args.labels.now in
    let P : ℕ → Type 0 = λ n. LeadsTo (IsUpToLast s.lasts.items) (penalty_of s.moments) labels c.args.from n (label_at labels c.args.from) in
    elim (cases_eq j c.loop-k.k) [
      | inl here ↦ (let yes = c.leads.ensures.1 (subst P here leads) in absurd (cc))
      | inr earlier ↦ c.loop-k.invariant j above (omega arith) leads
    ]

pub returns-then-leads : goal.returns-then-leads
returns-then-leads c = (λ no. absurd (cc), λ is. absurd (omega (arith, is.first c.loop-k.k (c.leads.ensures.0 c.if-leads.true), c.loop-k-test.true)))

pub returns : goal.returns
returns c = (
  λ yes. record {
    leads = c.leads-2.ensures.0 yes;
    first = λ k leads. elim (cases_lt k c.args.to) [
      | inl before ↦ absurd (c.loop-k.invariant k leads.allowed.0 (omega (arith, c.loop-k-test.false)) leads)
      | inr after ↦ after
    ];
  },
  λ is. c.leads-2.ensures.1 is.leads,
)

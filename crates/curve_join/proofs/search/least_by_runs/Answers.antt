use Rattle.std.proofs.Common.{◌≡◌, ℕ, ◌+◌, List, ◌++◌, length, take, sym, ap, ◌∙◌, subst, arith}
use Rattle.std.proofs.Math.Seq.{take-append_seam}
use Rattle.least_walk.specs.Inner.Suffix.{HasCosts, HasFewest, HasNexts}
use Rattle.std.specs.List.{All}
use Rattle.curve_join.specs.Choice.{MayBeOne, run_penalty}
use Rattle.curve_join.specs.Inner.CutSearch.{AreJoinedRuns}
use Rattle.curve_join.specs.declared.room.JoinedRun.{JoinedRun}
use Rattle.curve_join.proofs.search.least_by_runs.Goals as goal

-- what was written through a slice of a whole vector
whole : {X : Type 0} (written rest : List X) (len : ℕ) → len ≡ length written → take len (written ++ rest) ≡ written
whole written rest len all = ap (λ n. take n (written ++ rest)) all ∙ take-append_seam written rest

-- the lists have an entry for each piece, and one more
one_more : (held len places pieces : ℕ) → held ≡ len → len ≡ places + 1 → places ≡ pieces → held ≡ pieces + 1
one_more held len places pieces e f g = e ∙ f ∙ ap (λ n. n + 1) g

pub walk_by-requires-clause-nexts : goal.walk_by-requires-clause-nexts
walk_by-requires-clause-nexts c =
    let runs = c.args.runs.now in
    let bends = runs.bends.items in
    let P : List ℕ → Type 0 = λ nexts. HasNexts (length bends) (MayBeOne runs.tol bends) (run_penalty bends) 0 nexts in
    let same : c.deref-3.result.now ≡ c.fill_ways.new.nexts =
    c.deref-3.ensures.value ∙ whole c.fill_ways.new.nexts _ _ (sym (c.fill_ways.auto.nexts ∙ c.deref_mut-3.ensures.len)) in
    subst P (sym same) c.fill_ways.ensures.nexts

pub fill_ways-requires-clause-count_places : goal.fill_ways-requires-clause-count_places
fill_ways-requires-clause-count_places c = one_more _ _ _ _ (c.deref_mut.ensures.len ∙ c.in_ok-counts.counts.ok.0) c.in_ok-counts.ensures (c.len-places.ensures ∙ c.args.runs.now.bends.ok.0)

pub fill_ways-requires-clause-cost_places : goal.fill_ways-requires-clause-cost_places
fill_ways-requires-clause-cost_places c = one_more _ _ _ _ (c.deref_mut-2.ensures.len ∙ c.in_ok-costs.costs.ok.0) c.in_ok-costs.ensures (c.len-places.ensures ∙ c.args.runs.now.bends.ok.0)

pub fill_ways-requires-clause-next_places : goal.fill_ways-requires-clause-next_places
fill_ways-requires-clause-next_places c = one_more _ _ _ _ (c.deref_mut-3.ensures.len ∙ c.in_ok-nexts.nexts.ok.0) c.in_ok-nexts.ensures (c.len-places.ensures ∙ c.args.runs.now.bends.ok.0)

pub walk_by-requires-clause-count_places : goal.walk_by-requires-clause-count_places
walk_by-requires-clause-count_places c = one_more _ _ _ _ (c.deref.ensures.len ∙ c.in_ok-counts.counts.ok.0) c.in_ok-counts.ensures (c.len-places.ensures ∙ c.args.runs.now.bends.ok.0)

pub walk_by-requires-clause-cost_places : goal.walk_by-requires-clause-cost_places
walk_by-requires-clause-cost_places c = one_more _ _ _ _ (c.deref-2.ensures.len ∙ c.in_ok-costs.costs.ok.0) c.in_ok-costs.ensures (c.len-places.ensures ∙ c.args.runs.now.bends.ok.0)

pub walk_by-requires-clause-next_places : goal.walk_by-requires-clause-next_places
walk_by-requires-clause-next_places c = one_more _ _ _ _ (c.deref-3.ensures.len ∙ c.in_ok-nexts.nexts.ok.0) c.in_ok-nexts.ensures (c.len-places.ensures ∙ c.args.runs.now.bends.ok.0)

pub walk_by-requires-clause-counts : goal.walk_by-requires-clause-counts
walk_by-requires-clause-counts c =
    let runs = c.args.runs.now in
    let bends = runs.bends.items in
    let P : List ℕ → Type 0 = λ counts. HasFewest (length bends) (MayBeOne runs.tol bends) 0 counts in
    let same : c.deref.result.now ≡ c.fill_ways.new.counts =
    c.deref.ensures.value ∙ whole c.fill_ways.new.counts _ _ (sym (c.fill_ways.auto.counts ∙ c.deref_mut.ensures.len)) in
    subst P (sym same) c.fill_ways.ensures.counts

pub walk_by-requires-clause-costs : goal.walk_by-requires-clause-costs
walk_by-requires-clause-costs c =
    let runs = c.args.runs.now in
    let bends = runs.bends.items in
    let P : List ℕ → Type 0 = λ costs. HasCosts (length bends) (MayBeOne runs.tol bends) (run_penalty bends) 0 costs in
    let same : c.deref-2.result.now ≡ c.fill_ways.new.costs =
    c.deref-2.ensures.value ∙ whole c.fill_ways.new.costs _ _ (sym (c.fill_ways.auto.costs ∙ c.deref_mut-2.ensures.len)) in
    subst P (sym same) c.fill_ways.ensures.costs

pub overflow_add-places : goal.overflow_add-places
overflow_add-places c = record { fits = omega (arith, c.len-places.ensures, c.args.runs.now.most, c.args.runs.now.bends.ok.0) }

pub returns-clause-least : goal.returns-clause-least
returns-clause-least c = c.in_ok-walk.ensures.least

pub fill_ways-requires-clause-joined_places : goal.fill_ways-requires-clause-joined_places
fill_ways-requires-clause-joined_places c = one_more _ _ _ _ (c.deref_mut-4.ensures.len ∙ c.in_ok-joined.joined.ok.0) c.in_ok-joined.ensures.places (c.len-places.ensures ∙ c.args.runs.now.bends.ok.0)

pub fill_ways-requires-clause-none : goal.fill_ways-requires-clause-none
fill_ways-requires-clause-none c =
    let P : List JoinedRun → Type 0 = λ runs. All (λ run. run.to ≡ 0) runs in
    subst P (sym c.deref_mut-4.ensures.value) c.in_ok-joined.ensures.none

pub returns-clause-places : goal.returns-clause-places
returns-clause-places c =
    let all : c.in_ok-joined.joined.len ≡ length c.fill_ways.new.joined = sym (c.fill_ways.auto.joined ∙ c.deref_mut-4.ensures.len) in
    ap length (whole c.fill_ways.new.joined _ _ all) ∙ one_more _ _ _ _ (sym all ∙ c.in_ok-joined.joined.ok.0) c.in_ok-joined.ensures.places (c.len-places.ensures ∙ c.args.runs.now.bends.ok.0)

pub returns-clause-joined : goal.returns-clause-joined
returns-clause-joined c =
    let all : c.in_ok-joined.joined.len ≡ length c.fill_ways.new.joined = sym (c.fill_ways.auto.joined ∙ c.deref_mut-4.ensures.len) in
    let P : List JoinedRun → Type 0 = λ runs. AreJoinedRuns c.args.runs.now.bends.items runs in
    subst P (sym (whole c.fill_ways.new.joined _ _ all)) c.fill_ways.ensures.joined

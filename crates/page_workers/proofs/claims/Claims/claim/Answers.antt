use Rattle.std.proofs.Common.{◌≡◌, ◌<◌, ◌≤◌, ◌^◌, ◌∙◌, true, true≢false, refl, sym, ap, arith, rules}
use Rattle.page_workers.specs.declared.hand.Hand.{Hand}
use Rattle.page_workers.specs.NumberLists.{has_from}
use Rattle.page_workers.specs.Seats.{Counter, Counting, Claimant}
use Rattle.page_workers.proofs.Lists.{still, ends}
use Rattle.page_workers.proofs.Claiming.{is_claim, page_below, page_past}
use Rattle.page_workers.proofs.Events.{shows_all}
use Rattle.page_workers.proofs.Table.{allows_claim, credits_kept}
use Rattle.page_workers.proofs.claims.Claims.claim.Goals as goal

pub fetch_add-number-requires : goal.fetch_add-number-requires
fetch_add-number-requires c =
    let same = rw (← c.seat.view_is, ← c.self.view_is) at c.requires in
    let words = c.self.invariant.words in
    let one = c.seat.invariant.credit c.if-seat.false in (
      ap (λ (k : Counter). k.table) same,
      omega arith,
      allows_claim c.self.inside.table.shared.table_id.slots c.seat.inside.at_table.id c.seat.inside.at_table.me (omega arith),
    )

pub invariant_of-seat : goal.invariant_of-seat
invariant_of-seat c =
    let told = c.fetch_add-number.ensures.2 in
    let is = told.0.hand in
    let total : c.seat.inside.total ≡ c.self.inside.total = ap (λ (k : Counter). k.total) (rw (← c.seat.view_is, ← c.self.view_is) at c.requires) in
    let page : c.fetch_add-number.result < c.self.inside.total = omega (arith, c.from.ensures, c.if-number-from.true) in
    let small : c.fetch_add-number.result < 2 ^ 32 = omega (arith, c.seat.ranges.0) in
    record {
      slots = told.1 ∙ c.seat.invariant.slots;
      part = ap (λ (h : Hand). h.parts) is ∙ c.seat.invariant.part;
      credit = λ live. ap (λ (h : Hand). h.credits) is ∙ credits_kept _ _ small ∙ c.seat.invariant.credit live;
      past = c.seat.invariant.past ∙ sym (still _ _ _ _ (ap (λ (h : Hand). h.drawn) is) (omega arith));
      rising = told.0.rising;
    }

pub invariant_of-seat-else-number-from : goal.invariant_of-seat-else-number-from
invariant_of-seat-else-number-from c =
    let told = c.fetch_add-number.ensures.2 in
    let is = told.0.hand in
    let total : c.seat.inside.total ≡ c.self.inside.total = ap (λ (k : Counter). k.total) (rw (← c.seat.view_is, ← c.self.view_is) at c.requires) in
    let past : c.self.inside.total ≤ c.fetch_add-number.result = omega (arith, c.from.ensures, c.if-number-from.false) in
    record {
      slots = told.1 ∙ c.seat.invariant.slots;
      part = ap (λ (h : Hand). h.parts) is ∙ c.seat.invariant.part;
      credit = λ live. absurd (true≢false live);
      past = sym (ends _ _ _ _ (ap (λ (h : Hand). h.drawn) is) (omega arith));
      rising = told.0.rising;
    }

pub returns-then-seat-clause-all : goal.returns-then-seat-clause-all
returns-then-seat-clause-all c _ = shows_all _ _ (search rules)

-- a page leaves the seat as it was, which isn't spent
pub returns-then-number-from-clause-none : goal.returns-then-number-from-clause-none
returns-then-number-from-clause-none c =
    let told = c.fetch_add-number.ensures.2 in
    let total : c.seat.inside.total ≡ c.self.inside.total = ap (λ (k : Counter). k.total) (rw (← c.seat.view_is, ← c.self.view_is) at c.requires) in
    let page : c.fetch_add-number.result < c.self.inside.total = omega (arith, c.from.ensures, c.if-number-from.true) in
    let same = still _ _ _ _ (ap (λ (h : Hand). h.drawn) told.0.hand) (omega (arith, page, total)) in
    ((λ none. absurd (true≢false none)), (λ spent. sym spent ∙ same ∙ sym c.seat.invariant.past ∙ c.if-seat.false))

-- a number that is no page
past_all : (c : goal.After-seat-1) → has_from c.seat.inside.total c.fetch_add-number.new.seat.me.0.drawn ≡ true
past_all c =
    let told = c.fetch_add-number.ensures.2 in
    let total : c.seat.inside.total ≡ c.self.inside.total = ap (λ (k : Counter). k.total) (rw (← c.seat.view_is, ← c.self.view_is) at c.requires) in
    let past : c.self.inside.total ≤ c.fetch_add-number.result = omega (arith, c.from.ensures, c.if-number-from.false) in
    ends _ _ _ _ (ap (λ (h : Hand). h.drawn) told.0.hand) (omega (arith, past, total))

pub returns-else-number-from-clause-none : goal.returns-else-number-from-clause-none
returns-else-number-from-clause-none c = ((λ none. past_all c), (λ spent. refl))

pub returns-else-number-from-clause-all : goal.returns-else-number-from-clause-all
returns-else-number-from-clause-all c none = shows_all _ _ (past_all c)

pub returns-then-number-from-clause-event : goal.returns-then-number-from-clause-event
returns-then-number-from-clause-event c live =
    let told = c.fetch_add-number.ensures.2 in
    let old : c.seat.inside.at_table.me.0.drawn ≡ c.args.seat.now.drawn = ap (λ (s : Claimant). s.drawn) c.seat.view_is in
    let mine : c.args.self.now.counter.total ≡ c.args.seat.now.counter.total = sym (ap (λ (k : Counter). k.total) c.requires) in
    let total : c.self.inside.total ≡ c.args.self.now.counter.total = ap (λ (s : Counting). s.counter.total) c.self.view_is in
    is_claim _ _ _ _ _ _ told.0 (sym old) refl (page_below c.args.seat.now.counter.total c.fetch_add-number.result (omega (arith, c.from.ensures, c.if-number-from.true, mine, total)))

pub returns-else-number-from-clause-event : goal.returns-else-number-from-clause-event
returns-else-number-from-clause-event c live =
    let told = c.fetch_add-number.ensures.2 in
    let old : c.seat.inside.at_table.me.0.drawn ≡ c.args.seat.now.drawn = ap (λ (s : Claimant). s.drawn) c.seat.view_is in
    let mine : c.args.self.now.counter.total ≡ c.args.seat.now.counter.total = sym (ap (λ (k : Counter). k.total) c.requires) in
    let total : c.self.inside.total ≡ c.args.self.now.counter.total = ap (λ (s : Counting). s.counter.total) c.self.view_is in
    is_claim _ _ _ _ _ _ told.0 (sym old) refl (page_past c.args.seat.now.counter.total c.fetch_add-number.result (omega (arith, c.from.ensures, c.if-number-from.false, mine, total)))

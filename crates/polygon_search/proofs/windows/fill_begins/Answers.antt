use Rattle.std.proofs.Common.{◌≡◌, ℕ, zero, suc, ◌+◌, ◌-◌, ◌<◌, List, [], ◌++◌, length, take, replicate, set, refl, subst, sym, ap, ◌∙◌, get_or-set_same, inl, inr, arith}
use Rattle.std.proofs.lemmas.Bool.{cases_eq}
use Rattle.std.proofs.lemmas.List.{get_or-replicate, get_or-set_other, length-set}
use Rattle.std.specs.Prelude.{slice_index}
use Rattle.polygon_search.specs.Inner.Search.{BeginsWindow, counts_of}
use Rattle.polygon_search.proofs.Counting.{counted, last_of}
use Rattle.polygon_search.proofs.Opening.{begins_at_end, far_below, far_reaches}
use Rattle.polygon_search.proofs.Stepping.{windows}
use Rattle.polygon_search.proofs.Windowed.{opens_before}
use Rattle.polygon_search.proofs.windows.fill_begins.Goals as goal

take_none : (n : ℕ) (xs : List ℕ) → xs ≡ [] → take n xs ≡ []
take_none zero xs none = refl
take_none (suc n) xs none = ap (take (suc n)) none

-- a list that was empty has one number in all places
all_one : (items before : List ℕ) (n places value k : ℕ) → items ≡ take n before ++ replicate places value → before ≡ [] → k < places
    → slice_index items k ≡ value
all_one items before n places value k are none inside =
    let same : items ≡ replicate places value = are ∙ ap (λ xs. xs ++ replicate places value) (take_none n before none) in
    ap (λ xs. slice_index xs k) same ∙ get_or-replicate places k value 0 inside

pub loop-window-init : goal.loop-window-init
loop-window-init c =
    let s = c.args.segments.now in
    let size = length s.moments.now in
    let lasts = s.lasts.items in
    let counts = counts_of size lasts in
    let known = counted size lasts s.onwards s.rising in
    let count = c.requires.ends.count in
    record {
      places = omega (arith, c.in_ok-resize.ensures.len, c.resize.new.self.ok);
      inside = omega (arith, count);
      each = λ v above below.
          (let there = all_one c.resize.new.self.items c.clear.new.self.items _ _ c.len.result v c.in_ok-resize.ensures.items c.clear.ensures.items
          (omega (arith, ap length c.clear.ensures.items)) in
          begins_at_end size lasts counts known v _ (omega (arith, count)) (omega (arith, there, s.places)));
    }

pub begin_before-requires-clause-end : goal.begin_before-requires-clause-end
begin_before-requires-clause-end c =
    let s = c.args.segments.now in
    let at : ℕ = c.loop-window.window - 1 in
    let e : c.loop-window.window ≡ at + 1 = omega (arith, c.loop-window-test.true) in
    let next = c.loop-window.invariant.each (at + 1) (omega arith) (omega (arith, c.loop-window.invariant.inside)) in
    let w = windows (length s.moments.now) s.lasts.items c.args.farthest.now at _ s.onwards s.rising c.requires.ends (omega (arith, c.loop-window.invariant.inside)) next in
    far_below (length s.moments.now) s.lasts.items (counts_of (length s.moments.now) s.lasts.items) c.args.farthest.now at _ w

pub begin_before-requires-clause-reaches : goal.begin_before-requires-clause-reaches
begin_before-requires-clause-reaches c =
    let s = c.args.segments.now in
    let at : ℕ = c.loop-window.window - 1 in
    let e : c.loop-window.window ≡ at + 1 = omega (arith, c.loop-window-test.true) in
    let next = c.loop-window.invariant.each (at + 1) (omega arith) (omega (arith, c.loop-window.invariant.inside)) in
    let w = windows (length s.moments.now) s.lasts.items c.args.farthest.now at _ s.onwards s.rising c.requires.ends (omega (arith, c.loop-window.invariant.inside)) next in
    let begin = last_of c.loop-window.begins.items (at + 1) c.index.result.now (omega (arith, c.loop-window.invariant.inside, c.loop-window.invariant.places)) c.index.ensures in
    omega (arith, begin, far_reaches (length s.moments.now) s.lasts.items (counts_of (length s.moments.now) s.lasts.items) c.args.farthest.now at _ w)

pub loop-window-preserved : goal.loop-window-preserved
loop-window-preserved c =
    let s = c.args.segments.now in
    let size = length s.moments.now in
    let lasts = s.lasts.items in
    let counts = counts_of size lasts in
    let begins = c.loop-window.begins.items in
    let at : ℕ = c.loop-window.window - 1 in
    let e : c.loop-window.window ≡ at + 1 = omega (arith, c.loop-window-test.true) in
    let inside = c.loop-window.invariant.inside in
    let places = c.loop-window.invariant.places in
    let next = c.loop-window.invariant.each (at + 1) (omega arith) (omega (arith, inside)) in
    let w = windows size lasts c.args.farthest.now at _ s.onwards s.rising c.requires.ends (omega (arith, inside)) next in
    let first : ℕ = c.begin_before.result in
    let begin = last_of begins (at + 1) c.index.result.now (omega (arith, inside, places)) c.index.ensures in
    let is = c.begin_before.ensures in
    let opens = opens_before size lasts counts c.args.farthest.now at (slice_index begins (at + 1)) first w is.near
    (omega (arith, begin, is.reaches)) (λ k below. omega (arith, begin, is.first k below)) in
    record {
      places = omega (arith, length-set begins at first, places);
      inside = omega (arith, inside);
      each = λ v above below. elim (cases_eq v at) [
        | inl same ↦ (
            let P : ℕ → Type 0 = λ n. BeginsWindow size counts n (slice_index (set begins at first) n) in
            subst P (sym same) (subst (BeginsWindow size counts at) (sym (get_or-set_same begins at first 0 (omega (arith, inside, places)))) opens))
        | inr other ↦ subst (BeginsWindow size counts v) (sym (get_or-set_other begins at v first 0 other)) (c.loop-window.invariant.each v (omega arith) below)
      ];
    }

-- Pointers skip only starts that no longer need a holder, so marking a span skips no start that counts.
use Rattle.std.proofs.Common.{◌≡◌, ℕ, zero, suc, ◌+◌, ◌-◌, ◌<◌, ◌≤◌, ◌^◌, Bool, true, false, ◌&&◌, nat_lt, Option, None, Some, List, [], ◌∷◌, ◌++◌, length, get_or, set, drop, All, ap, sym, subst, ◌∙◌, inl, inr, arith, get_or-set_other, get_or-set_same}
use Rattle.std.specs.Prelude.{is_none, is_some}
use Rattle.std.specs.List.{range_with_len}
use Rattle.std.specs.List.Sorted.{IsNonDecreasingBy, IsPartitionPoint}
use Rattle.std.proofs.Math.Seq.{drop-cons}
use Rattle.std.proofs.lemmas.Bool.{cases_eq, cases_lt, false≢true, lt-ltb, le-ltb, ltb-true}
use Rattle.std.proofs.lemmas.List.{drop_all, length-set, length-drop, get_or-drop}
use Rattle.std.proofs.lemmas.List.FromFn.{get_or-range_with_len, length-range_with_len}
use Rattle.pt_core.proofs.AppendedTexts.{any_default}
use Rattle.path_tree.specs.declared.starts.PathStart.{PathStart}
use Rattle.path_tree.specs.Inner.Free.{AreFree, AreSkips, LeadPast, StandBefore, has_holder, no_start}
use Rattle.path_tree.specs.Inner.Starts.{is_in_span, marked, marked_one}
use Rattle.path_tree.proofs.MarkedPaths.{all_below, and-false, below_low, from_high, marked-past, no_marking, within_both}

-- a pointer that is moved further stays within the list
pub skips-set : (skips : List ℕ) (at v : ℕ) → AreSkips skips → at < length skips → at ≤ v → v < length skips → AreSkips (set skips at v)
skips-set skips at v are short from most = record {
  onwards = λ i h. elim (cases_eq i at) [
    | inl same ↦
        let e : get_or (set skips at v) i 0 ≡ v = ap (λ n. get_or (set skips at v) n 0) same ∙ get_or-set_same skips at v 0 short in
        omega arith
    | inr other ↦
        let len = length-set skips at v in
        let e : get_or (set skips at v) i 0 ≡ get_or skips i 0 = get_or-set_other skips at i v 0 other in
        let o : i ≤ get_or skips i 0 = are.onwards i (omega arith) in
        omega arith
  ];
  within = λ i h. elim (cases_eq i at) [
    | inl same ↦
        let len = length-set skips at v in
        let e : get_or (set skips at v) i 0 ≡ v = ap (λ n. get_or (set skips at v) n 0) same ∙ get_or-set_same skips at v 0 short in
        omega arith
    | inr other ↦
        let len = length-set skips at v in
        let e : get_or (set skips at v) i 0 ≡ get_or skips i 0 = get_or-set_other skips at i v 0 other in
        let o : get_or skips i 0 < length skips = are.within i (omega arith) in
        omega arith
  ];
}

-- a pointer that is moved past more held starts still skips only held ones
pub past-set : (held : ℕ → Bool) (skips : List ℕ) (at v : ℕ) → LeadPast held skips → at < length skips → ((k : ℕ) → at ≤ k → k < v → held k ≡ true)
    → LeadPast held (set skips at v)
past-set held skips at v past short more i k h low high = elim (cases_eq i at) [
  | inl same ↦
      let e : get_or (set skips at v) i 0 ≡ v = ap (λ n. get_or (set skips at v) n 0) same ∙ get_or-set_same skips at v 0 short in
      more k (omega arith) (omega arith)
  | inr other ↦
      let len = length-set skips at v in
      let e : get_or (set skips at v) i 0 ≡ get_or skips i 0 = get_or-set_other skips at i v 0 other in
      past i k (omega arith) low (omega arith)
]

-- the starts before the index after the next one are held
pub past-twice : (held : ℕ → Bool) (skips : List ℕ) (at : ℕ) → AreSkips skips → LeadPast held skips → at < length skips
    → (k : ℕ) → at ≤ k → k < get_or skips (get_or skips at 0) 0 → held k ≡ true
past-twice held skips at are past short k low high = elim (cases_lt k (get_or skips at 0)) [
  | inl before ↦ past at k short low before
  | inr behind ↦ past (get_or skips at 0) k (are.within at short) behind high
]

last : (a n j : ℕ) → a + n ≡ j → range_with_len a (suc n) ≡ range_with_len a n ++ j ∷ []
last a zero j e = ap (λ k. k ∷ []) (let same : a ≡ j = omega arith in same)
last a (suc n) j e = ap (λ ks. a ∷ ks) (last (a + 1) n j (omega arith))

-- the range with one more number
pub range-more : (n : ℕ) → range_with_len 0 (n + 1) ≡ range_with_len 0 n ++ n ∷ []
range-more n = let on : n + 1 ≡ suc n = omega arith in ap (range_with_len 0) on ∙ last 0 n n (omega arith)

-- at first each pointer points to itself
module _ (starts : List PathStart) (holders : List (Option ℕ)) (skips : List ℕ) (few : length starts < 2 ^ 32) (order : IsNonDecreasingBy (λ s. s.place) starts) (known : All (λ s. s.path < length holders) starts) (all : skips ≡ range_with_len 0 (length starts + 1)) where
  len : length skips ≡ length starts + 1
  len = ap length all ∙ length-range_with_len 0 (length starts + 1)

  itself : (i : ℕ) → i < length skips → get_or skips i 0 ≡ i
  itself i h = ap (λ ns. get_or ns i 0) all ∙ get_or-range_with_len 0 (length starts + 1) i 0 (omega (arith, len)) ∙ (let e : 0 + i ≡ i = omega arith in e)

  pub free-all : AreFree starts holders skips
  free-all = record {
    order = order;
    known = known;
    are = record {
      onwards = λ i h. (let e = itself i h in omega arith);
      within = λ i h. (let e = itself i h in omega arith);
    };
    places = len;
    few = few;
    past = λ i k h low high. (let e = itself i h in absurd (omega arith));
  }

still_some : (holders : List (Option ℕ)) (p j : ℕ) (v : ℕ) → p < length holders → is_some (get_or holders j None) ≡ true → is_some (get_or (set holders p (Some v)) j None) ≡ true
still_some holders p j v within some = elim (cases_eq j p) [
  | inl same ↦ ap (λ n. is_some (get_or (set holders p (Some v)) n None)) same ∙ ap is_some (get_or-set_same holders p (Some v) None within)
  | inr other ↦ ap is_some (get_or-set_other holders p j (Some v) None other) ∙ some
]

-- the path of start number `at` gets a holder, and its pointer is moved on
pub free-one : (starts : List PathStart) (holders : List (Option ℕ)) (skips : List ℕ) (at v : ℕ) → AreFree starts holders skips → at < length starts
    → (get_or starts at no_start).path < length holders → AreFree starts (set holders (get_or starts at no_start).path (Some v)) (set skips at (at + 1))
free-one starts holders skips at v free short within =
    let p : ℕ = (get_or starts at no_start).path in
    let len = free.places in
    let here : at < length skips = omega arith in
    record {
      order = free.order;
      known = all_below starts (length holders) (length (set holders p (Some v))) (sym (length-set holders p (Some v))) free.known;
      are = skips-set skips at (at + 1) free.are here (omega arith) (omega arith);
      places = length-set skips at (at + 1) ∙ free.places;
      few = free.few;
      past = past-set (has_holder starts (set holders p (Some v))) skips at (at + 1)
          (λ i k h low high. still_some holders p (get_or starts k no_start).path v within (free.past i k h low high))
          here
          (λ k low high. (
          let same : k ≡ at = omega arith in
          ap (λ n. has_holder starts (set holders p (Some v)) n) same
          ∙ ap is_some (get_or-set_same holders p (Some v) None within)));
    }

-- a search that moves pointers on still skips only held starts
pub free-found : (starts : List PathStart) (holders : List (Option ℕ)) (old new : List ℕ) → AreFree starts holders old → AreSkips new → length new ≡ length old
    → ((held : ℕ → Bool) → LeadPast held old → LeadPast held new) → AreFree starts holders new
free-found starts holders old new free are len past = record {
  order = free.order;
  known = free.known;
  are = are;
  places = len ∙ free.places;
  few = free.few;
  past = past (has_holder starts holders) free.past;
}

held_marks : (later passes : Bool) (v : Option ℕ) → is_some v ≡ true → (later && (passes && is_none v)) ≡ false
held_marks later passes None some = absurd (false≢true some)
held_marks later passes (Some j) some = ap (λ b. later && b) (and-false passes) ∙ and-false later

-- paths that have a holder get no other
pub past-held : (i : ℕ) (test : ℕ → Bool) (starts : List PathStart) (holders : List (Option ℕ)) (from to : ℕ) → from ≤ to → to ≤ length starts
    → ((k : ℕ) → from ≤ k → k < to → has_holder starts holders k ≡ true)
    → marked i test (drop from starts) holders ≡ marked i test (drop to starts) holders
past-held i test starts holders from to order within held =
    let e : from + (to - from) ≡ to = omega arith in
    marked-past i test starts holders no_start (to - from) from (omega arith)
    (λ k low high. (
    let s : PathStart = get_or starts k no_start in
    held_marks (nat_lt i s.path) (test s.place) (get_or holders s.path None) (held k low (omega arith))))
    ∙ ap (λ n. marked i test (drop n starts) holders) e

-- starts before the span aren't marked
pub before-span : (i low high first : ℕ) (starts : List PathStart) (holders : List (Option ℕ)) → first ≤ length starts
    → IsPartitionPoint (λ s. nat_lt s.place low ≡ true) (λ s. nat_lt s.place low ≡ false) starts first
    → marked i (is_in_span low high) starts holders ≡ marked i (is_in_span low high) (drop first starts) holders
before-span i low high first starts holders within parted =
    let e : 0 + first ≡ first = omega arith in
    marked-past i (is_in_span low high) starts holders no_start first 0 (omega arith)
    (λ k least most. (
    let s : PathStart = get_or starts k no_start in
    no_marking i s holders (is_in_span low high s.place)
    (ap (λ b. nat_lt i s.path && b) (below_low low high s.place (parted.0 k no_start (omega arith) (omega arith))) ∙ and-false (nat_lt i s.path))))
    ∙ ap (λ n. marked i (is_in_span low high) (drop n starts) holders) e

-- no start is left
pub no_more : (i : ℕ) (test : ℕ → Bool) (starts : List PathStart) (holders : List (Option ℕ)) (n : ℕ) → length starts ≤ n → marked i test (drop n starts) holders ≡ holders
no_more i test starts holders n most = ap (λ ss. marked i test ss holders) (drop_all n starts most)

-- starts after the span aren't marked
pub behind-span : (i low high at : ℕ) (starts : List PathStart) (holders : List (Option ℕ)) → IsNonDecreasingBy (λ s. s.place) starts → at < length starts
    → high ≤ (get_or starts at no_start).place → marked i (is_in_span low high) (drop at starts) holders ≡ holders
behind-span i low high at starts holders order within from =
    let e : at + (length starts - at) ≡ length starts = omega arith in
    marked-past i (is_in_span low high) starts holders no_start (length starts - at) at (omega arith)
    (λ k least most. (
    let s : PathStart = get_or starts k no_start in
    let later : (get_or starts at no_start).place ≤ s.place = order at k no_start least (omega arith) in
    no_marking i s holders (is_in_span low high s.place)
    (ap (λ b. nat_lt i s.path && b) (from_high low high s.place (omega arith)) ∙ and-false (nat_lt i s.path))))
    ∙ ap (λ n. marked i (is_in_span low high) (drop n starts) holders) e
    ∙ no_more i (is_in_span low high) starts holders (length starts) (omega arith)

-- the start at an index of the span is marked, and then those after it
pub in-span : (i low high at next first : ℕ) (starts : List PathStart) (old new : List (Option ℕ))
    → IsPartitionPoint (λ s. nat_lt s.place low ≡ true) (λ s. nat_lt s.place low ≡ false) starts first → first ≤ at → at < length starts
    → (get_or starts at no_start).place < high → new ≡ marked_one i true (get_or starts at no_start) old
    → at + 1 ≤ next → next ≤ length starts → ((k : ℕ) → at + 1 ≤ k → k < next → has_holder starts new k ≡ true)
    → marked i (is_in_span low high) (drop next starts) new ≡ marked i (is_in_span low high) (drop at starts) old
in-span i low high at next first starts old new parted from short below made order within held =
    let s : PathStart = get_or starts at no_start in
    let e : at + 1 ≡ suc at = omega arith in
    sym (past-held i (is_in_span low high) starts new (at + 1) next order within held)
    ∙ ap (λ n. marked i (is_in_span low high) (drop n starts) new) e
    ∙ ap (marked i (is_in_span low high) (drop (suc at) starts)) made
    ∙ ap (λ b. marked i (is_in_span low high) (drop (suc at) starts) (marked_one i b s old))
    (sym (within_both low high s.place (parted.1 at no_start from short) below))
    ∙ sym (ap (λ ss. marked i (is_in_span low high) ss old) (drop-cons starts at no_start short))

-- if the first n starts lie before a place, only the others have to be searched
pub parted-behind : (starts : List PathStart) (n m place : ℕ) → StandBefore starts n place
    → IsPartitionPoint (λ s. nat_lt s.place place ≡ true) (λ s. nat_lt s.place place ≡ false) (drop n starts) m
    → IsPartitionPoint (λ s. nat_lt s.place place ≡ true) (λ s. nat_lt s.place place ≡ false) starts (n + m)
parted-behind starts n m place before parted = (
  λ k d least high. elim (cases_lt k n) [
    | inl passed ↦ lt-ltb _ _ (subst (λ (s : PathStart). s.place < place) (any_default starts k no_start d (omega (arith, before.most))) (before.below k passed))
    | inr behind ↦
        let e : n + (k - n) ≡ k = omega arith in
        let there = parted.0 (k - n) d (omega arith) (omega arith) in
        subst (λ (s : PathStart). nat_lt s.place place ≡ true) (get_or-drop n starts (k - n) d ∙ ap (λ j. get_or starts j d) e) there
  ],
  λ k d low high.
      let e : n + (k - n) ≡ k = omega arith in
      let there = parted.1 (k - n) d (omega arith) (omega (arith, length-drop n starts)) in
      subst (λ (s : PathStart). nat_lt s.place place ≡ false) (get_or-drop n starts (k - n) d ∙ ap (λ j. get_or starts j d) e) there,
)

-- if the next start doesn't lie before the place, no later one does
pub parted-here : (starts : List PathStart) (n place : ℕ) → IsNonDecreasingBy (λ s. s.place) starts → StandBefore starts n place → (n < length starts → place ≤ (get_or starts n no_start).place)
    → IsPartitionPoint (λ s. nat_lt s.place place ≡ true) (λ s. nat_lt s.place place ≡ false) starts n
parted-here starts n place order before next = (
  λ k d least high. lt-ltb _ _ (subst (λ (s : PathStart). s.place < place) (any_default starts k no_start d (omega (arith, before.most))) (before.below k high)),
  λ k d low high.
      let later : (get_or starts n d).place ≤ (get_or starts k d).place = order n k d low high in
      let first : place ≤ (get_or starts n d).place = subst (λ (s : PathStart). place ≤ s.place) (any_default starts n no_start d (omega arith)) (next (omega arith)) in
      le-ltb _ _ (omega arith),
)

-- the starts before the place, as the search counts them
pub before-parted : (starts : List PathStart) (n place : ℕ) → n ≤ length starts → IsPartitionPoint (λ s. nat_lt s.place place ≡ true) (λ s. nat_lt s.place place ≡ false) starts n → StandBefore starts n place
before-parted starts n place most parted = record { most = most; below = λ k low. ltb-true _ _ (parted.0 k no_start (omega arith) low) }

-- starts before a place also lie before a later place
pub before-later : (starts : List PathStart) (n place later : ℕ) → place ≤ later → StandBefore starts n place → StandBefore starts n later
before-later starts n place later order before = record { most = before.most; below = λ k low. (let here = before.below k low in omega arith) }

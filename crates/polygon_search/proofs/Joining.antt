-- How two windows are joined: what was known of earlier ones stays.
use Rattle.std.proofs.Common.{◌≡◌, ℕ, ◌+◌, ◌<◌, ◌≤◌, ◌^◌, List, length, replicate, set, refl, sym, ◌∙◌, ap, subst, get_or-set_same, inl, inr, arith}
use Rattle.std.proofs.lemmas.Bool.{cases_eq, cases_lt}
use Rattle.std.proofs.lemmas.List.{get_or-replicate, get_or-set_other, get_or_past, length-replicate, length-set}
use Rattle.std.specs.Prelude.{slice_index}
use Rattle.polygon_search.specs.declared.bounds.Bound.{Bound}
use Rattle.polygon_search.specs.Inner.VertexBounds.{AreBoundsOf, AreWindowBegins, IsInWindow, IsPairBounded, bound_at, no_bound}
use Rattle.polygon_search.specs.Inner.Joining.{AreBlank, AreChanged}
use Rattle.polygon_search.specs.Inner.Search.{counts_of}
use Rattle.polygon_search.proofs.Counting.{AreCounted}
use Rattle.polygon_search.proofs.Windowed.{begin_near, end_before, last_within, windows_apart}

-- nothing was changed
pub changed_none : (is_change : ℕ → Bound → Bound → Type 0) (begin : ℕ) (bounds : List Bound) → AreChanged is_change begin begin bounds bounds
changed_none is_change begin bounds = record {
  places = refl;
  others = λ k outside. refl;
  changed = λ k above below. absurd (omega arith);
}

-- one point was changed
pub changed_one : (is_change : ℕ → Bound → Bound → Type 0) (at : ℕ) (bounds : List Bound) (bound : Bound) → at < length bounds
    → is_change at (bound_at bounds at) bound → AreChanged is_change at (at + 1) bounds (set bounds at bound)
changed_one is_change at bounds bound room is = record {
  places = length-set bounds at bound;
  others = λ k outside. get_or-set_other bounds at k bound no_bound (λ same. elim outside [
    | inl below ↦ omega arith
    | inr above ↦ omega arith
  ]);
  changed = λ k above below.
      (let same : k ≡ at = omega arith in
      let P : ℕ → Type 0 = λ n. is_change n (bound_at bounds n) (bound_at (set bounds at bound) n) in
      subst P (sym same) (subst (is_change at (bound_at bounds at)) (sym (get_or-set_same bounds at bound no_bound room)) is));
}

-- or stays as it is, which is such a change too
pub changed_same : (is_change : ℕ → Bound → Bound → Type 0) (at : ℕ) (bounds : List Bound) → is_change at (bound_at bounds at) (bound_at bounds at)
    → AreChanged is_change at (at + 1) bounds bounds
changed_same is_change at bounds is = record {
  places = refl;
  others = λ k outside. refl;
  changed = λ k above below.
      (let same : k ≡ at = omega arith in
      subst (λ n. is_change n (bound_at bounds n) (bound_at bounds n)) (sym same) is);
}

-- points were changed, and those behind them then
pub changed_both : (is_change : ℕ → Bound → Bound → Type 0) (begin middle end : ℕ) (before between after : List Bound) → begin ≤ middle → middle ≤ end
    → AreChanged is_change begin middle before between → AreChanged is_change middle end between after → AreChanged is_change begin end before after
changed_both is_change begin middle end before between after up on first then = record {
  places = then.places ∙ first.places;
  others = λ k outside. elim outside [
    | inl below ↦ then.others k (inl (omega arith)) ∙ first.others k (inl below)
    | inr above ↦ then.others k (inr above) ∙ first.others k (inr (omega arith))
  ];
  changed = λ k above below. elim (cases_lt k middle) [
    | inl early ↦ subst (is_change k (bound_at before k)) (sym (then.others k (inl early))) (first.changed k above early)
    | inr late ↦ subst (λ b. is_change k b (bound_at after k)) (first.others k (inr late)) (then.changed k late below)
  ];
}

-- points were changed, and some of them again, which is no other change
pub changed_again : (is_change is_other : ℕ → Bound → Bound → Type 0) (begin middle end : ℕ) (before between after : List Bound) → middle ≤ end
    → ((k : ℕ) → (a b c : Bound) → is_change k a b → is_other k b c → is_change k a c)
    → AreChanged is_change begin end before between → AreChanged is_other begin middle between after → AreChanged is_change begin end before after
changed_again is_change is_other begin middle end before between after within both first then = record {
  places = then.places ∙ first.places;
  others = λ k outside. elim outside [
    | inl below ↦ then.others k (inl below) ∙ first.others k (inl below)
    | inr above ↦ then.others k (inr (omega arith)) ∙ first.others k (inr above)
  ];
  changed = λ k above below. elim (cases_lt k middle) [
    | inl early ↦ both k (bound_at before k) (bound_at between k) (bound_at after k) (first.changed k above below) (then.changed k above early)
    | inr late ↦ subst (is_change k (bound_at before k)) (sym (then.others k (inr late))) (first.changed k above below)
  ];
}

-- what holds of each changed point, and of one that stays as it is, holds of each
pub changed_each : (is_change : ℕ → Bound → Bound → Type 0) (P : Bound → Bound → Type 0) (begin end : ℕ) (before after : List Bound)
    → AreChanged is_change begin end before after → ((k : ℕ) → (from to : Bound) → is_change k from to → P from to) → ((b : Bound) → P b b)
    → (k : ℕ) → P (bound_at before k) (bound_at after k)
changed_each is_change P begin end before after are each same k = elim (cases_lt k begin) [
  | inl early ↦ subst (P (bound_at before k)) (sym (are.others k (inl early))) (same (bound_at before k))
  | inr up ↦ elim (cases_lt k end) [
    | inl inside ↦ each k (bound_at before k) (bound_at after k) (are.changed k up inside)
    | inr late ↦ subst (P (bound_at before k)) (sym (are.others k (inr late))) (same (bound_at before k))
  ]
]

-- where nothing is known of any point, nothing is of each
pub bound_of_none : (bounds : List Bound) (places : ℕ) → bounds ≡ replicate places no_bound → (k : ℕ) → bound_at bounds k ≡ no_bound
bound_of_none bounds places none k = elim (cases_lt k places) [
  | inl inside ↦ ap (λ xs. bound_at xs k) none ∙ get_or-replicate places k no_bound no_bound inside
  | inr past ↦ get_or_past bounds k no_bound (omega (arith, ap length none, length-replicate places no_bound))
]

-- what two windows' join changes: of this window's vertices what is ahead, and of the next one's what is behind and the floor
pub record AreJoined (lasts begins farthest : List ℕ) (cost : ℕ → ℕ → ℕ) (window : ℕ) (before after : List Bound) : Type 0 where
  pub early : (k : ℕ) → k < slice_index begins window → bound_at after k ≡ bound_at before k
  pub late : (k : ℕ) → slice_index farthest (window + 1) < k → bound_at after k ≡ bound_at before k
  pub floor : (k : ℕ) → k < slice_index begins (window + 1) → (bound_at after k).floor ≡ (bound_at before k).floor
  pub behind : (k : ℕ) → k < slice_index begins (window + 1) → (bound_at after k).behind ≡ (bound_at before k).behind
  pub ahead : (k : ℕ) → slice_index farthest window < k → (bound_at after k).ahead ≡ (bound_at before k).ahead
  pub small : (k : ℕ) → slice_index begins (window + 1) ≤ k → (bound_at after k).floor < 2 ^ 56
  pub joined : (i j : ℕ) → IsInWindow begins farthest window i → slice_index begins (window + 1) ≤ j → j ≤ slice_index lasts i
      → IsPairBounded (cost i j) (bound_at after i) (bound_at after j)

-- two vertices stay joined
joined_still : (cost : ℕ) (i j k l : Bound) → k ≡ i → l.floor ≡ j.floor → l.behind ≡ j.behind → IsPairBounded cost i j → IsPairBounded cost k l
joined_still cost i j k l same floor behind joined =
    let ahead = ap (λ (b : Bound). b.ahead) same in
    let paid = ap (λ (b : Bound). b.floor) same in
    record { floor = omega (arith, joined.floor, paid, floor); halves = omega (arith, joined.halves, ahead, behind) }

module _ (size : ℕ) (lasts begins farthest : List ℕ) (known : AreCounted size lasts (counts_of size lasts))
    (are : AreWindowBegins size lasts begins farthest) (cost : ℕ → ℕ → ℕ) (window : ℕ) (room : window + 1 < length farthest)
    (before after : List Bound) (joined : AreJoined lasts begins farthest cost window before after) where
  -- a segment of an earlier window leads to a vertex up to the end of this one
  end_early : (earlier i j : ℕ) → earlier < window → IsInWindow begins farthest earlier i → slice_index begins (earlier + 1) ≤ j
      → j ≤ slice_index lasts i → j ≤ slice_index farthest window
  end_early earlier i j before inside above reached =
      let within = last_within size lasts begins farthest known are earlier (omega arith) i inside in
      elim (cases_eq (earlier + 1) window) [
        | inl next ↦
            let end = ap (slice_index farthest) next in
            omega (arith, within, end)
        | inr far ↦
            let last = begin_near size lasts begins farthest known are window (omega arith) in
            omega (
              arith,
              windows_apart size lasts begins farthest known are (earlier + 1) window j (slice_index farthest window) (omega arith) (omega arith)
                  (record { begin = above; end = omega (arith, within) }) (record { begin = last; end = omega arith }),
            )
      ]

  pub joined_more : AreBoundsOf lasts begins farthest cost window before → AreBoundsOf lasts begins farthest cost (window + 1) after
  joined_more so_far =
      let between = end_before size lasts begins farthest known are window room in
      record {
        first = joined.floor 0 (omega (arith, between)) ∙ so_far.first;
        small = λ k. elim (cases_lt k (slice_index begins (window + 1))) [
          | inl early ↦ omega (arith, joined.floor k early, so_far.small k)
          | inr late ↦ joined.small k late
        ];
        joined = λ earlier i j below inside above reached. elim (cases_lt earlier window) [
          | inl before_it ↦
              let last = begin_near size lasts begins farthest known are window (omega arith) in
              let early = windows_apart size lasts begins farthest known are earlier window i (slice_index begins window) before_it (omega arith) inside
              (record { begin = omega arith; end = last }) in
              let end = end_early earlier i j before_it inside above reached in
              joined_still (cost i j) (bound_at before i) (bound_at before j) (bound_at after i) (bound_at after j) (joined.early i early)
              (joined.floor j (omega (arith, end, between))) (joined.behind j (omega (arith, end, between)))
              (so_far.joined earlier i j before_it inside above reached)
          | inr at_it ↦
              let same : earlier ≡ window = omega arith in
              joined.joined i j (subst (λ n. IsInWindow begins farthest n i) same inside)
              (subst (λ n. slice_index begins (n + 1) ≤ j) same above) reached
        ];
      }

  pub blank_more : AreBlank begins farthest window before → AreBlank begins farthest (window + 1) after
  blank_more blank =
      let between = end_before size lasts begins farthest known are window room in
      let near = begin_near size lasts begins farthest known are window (omega arith) in
      let next = begin_near size lasts begins farthest known are (window + 1) room in
      record {
        ahead = λ k above. joined.ahead k (omega (arith, between)) ∙ blank.ahead k (omega (arith, near, between));
        behind = λ k beyond. ap (λ (b : Bound). b.behind) (joined.late k beyond) ∙ blank.behind k (omega (arith, between, next));
      }

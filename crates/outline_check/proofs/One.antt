-- There are right labels, and only one list of them.
use Rattle.std.proofs.Common.{◌≡◌, ℕ, zero, suc, ◌+◌, ◌<◌, ◌≤◌, ◌⊎◌, List, length, refl, ap, sym, subst, ◌∙◌, inl, inr, set, get_or-set_same, arith}
use Rattle.std.proofs.lemmas.Bool.{cases_eq, cases_lt, cases_order}
use Rattle.std.proofs.lemmas.List.{get_or-set_other, length-set}
use Rattle.outline_check.specs.declared.label.Label.{Label}
use Rattle.outline_check.specs.Labels.{no_label, label_at, label_by, IsUpTo, LeadsTo, IsRight, AreRight}
use Rattle.outline_check.specs.Labels.IsUpTo.{fewer, as_few}
use Rattle.outline_check.proofs.Right.{one_right, right_same, up_to_itself, up_to_trans}

-- of two labels one is up to the other
up_to_cases : (a b : Label) → IsUpTo a b ⊎ IsUpTo b a
up_to_cases a b = elim (cases_order a.count b.count) [
  | inl tied ↦ elim (cases_lt b.cost a.cost) [
    | inl cheaper ↦ inr (as_few (sym tied) (omega arith))
    | inr as_cheap ↦ inl (as_few tied as_cheap)
  ]
  | inr (inl less) ↦ inl (fewer less)
  | inr (inr more) ↦ inr (fewer more)
]

module _ (size : ℕ) (is_allowed : ℕ → ℕ → Type 0) (cost : ℕ → ℕ → ℕ) (goes_up : (i j : ℕ) → is_allowed i j → (i < j) × (j ≤ size)) where
  -- right labels are the same from the end down
  module _ (labels other : List Label) (right : AreRight size is_allowed cost labels) (also : AreRight size is_allowed cost other) where
    same_from : (fuel i : ℕ) → i + fuel ≡ size → (k : ℕ) → i ≤ k → k ≤ size → label_at labels k ≡ label_at other k
    same_from zero i at k above within =
        let end : k ≡ size = omega arith in
        ap (label_at labels) end ∙ right.last ∙ sym also.last ∙ ap (label_at other) (sym end)
    same_from (suc fuel) i at k above within =
        elim (cases_eq k i) [
          | inl here ↦
              let later : (j : ℕ) → is_allowed i j → label_at labels j ≡ label_at other j = λ j allowed.
              (let up = goes_up i j allowed in same_from fuel (suc i) (omega arith) j (omega arith) up.1) in
              let below : i < size = omega arith in
              let one = one_right is_allowed cost labels i (label_at labels i) (label_at other i) (right.each i below)
              (right_same is_allowed cost other labels i later (label_at other i) (also.each i below)) in
              ap (label_at labels) here ∙ one ∙ ap (label_at other) (sym here)
          | inr later ↦ same_from fuel (suc i) (omega arith) k (omega arith) within
        ]

    pub same_labels : (k : ℕ) → k ≤ size → label_at labels k ≡ label_at other k
    same_labels k within = same_from size 0 (omega arith) k (omega arith) within

  -- the least label by a step to before `to`
  record IsRightBelow (labels : List Label) (i to : ℕ) (label : Label) : Type 0 where
    next : ℕ
    leads : LeadsTo is_allowed cost labels i next label
    least : (j : ℕ) → j < to → is_allowed i j → IsUpTo label (label_by cost labels i j)

  module _ (decided : (i j : ℕ) → is_allowed i j ⊎ ¬ is_allowed i j) (step : (i : ℕ) → i < size → is_allowed i (i + 1))
      (labels : List Label) (i : ℕ) (below : i < size) where
    right_more : (to : ℕ) (label : Label) → IsRightBelow labels i to label → (more : Label) × IsRightBelow labels i (suc to) more
    right_more to label so_far =
        let there = label_by cost labels i to in
        elim (decided i to) [
          | inl allowed ↦ elim (up_to_cases label there) [
            | inl kept ↦ (
              label,
              record {
                next = so_far.next;
                leads = so_far.leads;
                least = λ j inside may. elim (cases_eq j to) [
                  | inl same ↦ subst (λ n. IsUpTo label (label_by cost labels i n)) (sym same) kept
                  | inr other ↦ so_far.least j (omega arith) may
                ];
              },
            )
            | inr taken ↦ (
              there,
              record {
                next = to;
                leads = record { allowed = allowed; by_step = refl };
                least = λ j inside may. elim (cases_eq j to) [
                  | inl same ↦ subst (λ n. IsUpTo there (label_by cost labels i n)) (sym same) (up_to_itself there)
                  | inr other ↦ up_to_trans there label (label_by cost labels i j) taken (so_far.least j (omega arith) may)
                ];
              },
            )
          ]
          | inr refused ↦ (
            label,
            record {
              next = so_far.next;
              leads = so_far.leads;
              least = λ j inside may. elim (cases_eq j to) [
                | inl same ↦ absurd (refused (subst (is_allowed i) same may))
                | inr other ↦ so_far.least j (omega arith) may
              ];
            },
          )
        ]

    right_below : (n : ℕ) → (label : Label) × IsRightBelow labels i (suc (suc i) + n) label
    right_below zero = (
      label_by cost labels i (i + 1),
      record {
        next = i + 1;
        leads = record { allowed = step i below; by_step = refl };
        least = λ j inside may.
            let up = goes_up i j may in
            let same : j ≡ i + 1 = omega arith in
            subst (λ n. IsUpTo (label_by cost labels i (i + 1)) (label_by cost labels i n)) (sym same) (up_to_itself (label_by cost labels i (i + 1)));
      },
    )
    right_below (suc n) =
        let so_far = right_below n in
        let more = right_more (suc (suc i) + n) so_far.0 so_far.1 in
        let same : suc (suc (suc i) + n) ≡ suc (suc i) + suc n = omega arith in
        (more.0, subst (λ to. IsRightBelow labels i to more.0) same more.1)

    right_here : (label : Label) × IsRight is_allowed cost labels i label
    right_here =
        let found = right_below size in (
          found.0,
          record {
            next = found.1.next;
            leads = found.1.leads;
            least = λ j may. (let up = goes_up i j may in found.1.least j (omega arith) may);
          },
        )

  -- right labels from an index on
  record AreRightFrom (low : ℕ) (labels : List Label) : Type 0 where
    places : length labels ≡ size + 1
    last : label_at labels size ≡ no_label
    each : (k : ℕ) → low ≤ k → k < size → IsRight is_allowed cost labels k (label_at labels k)

  module _ (decided : (i j : ℕ) → is_allowed i j ⊎ ¬ is_allowed i j) (step : (i : ℕ) → i < size → is_allowed i (i + 1)) where
    earlier : (i : ℕ) (labels : List Label) → i < size → AreRightFrom (suc i) labels → (more : List Label) × AreRightFrom i more
    earlier i labels below from =
        let found = right_here decided step labels i below in
        let more = set labels i found.0 in
        let room : i < length labels = omega (arith, from.places) in
        let same : (k : ℕ) → ¬ (k ≡ i) → label_at more k ≡ label_at labels k = λ k other. get_or-set_other labels i k found.0 no_label other in (
          more,
          record {
            places = omega (arith, length-set labels i found.0, from.places);
            last = same size (λ end. let no : ⊥ = omega arith in no) ∙ from.last;
            each = λ k above inside. elim (cases_eq k i) [
              | inl here ↦ subst (λ n. IsRight is_allowed cost more n (label_at more n)) (sym here)
                  (subst (IsRight is_allowed cost more i) (sym (get_or-set_same labels i found.0 no_label room))
                  (right_same is_allowed cost labels more i (λ j may. let up = goes_up i j may in same j (λ e. let no : ⊥ = omega arith in no)) found.0 found.1))
              | inr later ↦ subst (IsRight is_allowed cost more k) (sym (same k later))
                  (right_same is_allowed cost labels more k (λ j may. let up = goes_up k j may in same j (λ e. let no : ⊥ = omega arith in no)) (label_at labels k) (from.each k (omega arith) inside))
            ];
          },
        )

    right_from : (labels : List Label) → length labels ≡ size + 1 → label_at labels size ≡ no_label
        → (fuel i : ℕ) → i + fuel ≡ size → (more : List Label) × AreRightFrom i more
    right_from labels places last zero i at = (
      labels,
      record {
        places = places;
        last = last;
        each = λ k above inside. absurd (omega arith);
      },
    )
    right_from labels places last (suc fuel) i at =
        let later = right_from labels places last fuel (suc i) (omega arith) in
        earlier i later.0 (omega arith) later.1

    pub right_found : (labels : List Label) → length labels ≡ size + 1 → label_at labels size ≡ no_label → (more : List Label) × AreRight size is_allowed cost more
    right_found labels places last =
        let found = right_from labels places last size 0 (omega arith) in (
          found.0,
          record {
            places = found.1.places;
            last = found.1.last;
            each = λ i below. found.1.each i (omega arith) below;
          },
        )

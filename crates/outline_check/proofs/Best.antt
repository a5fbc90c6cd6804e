-- The polygon of a certificate is the best one.
use Rattle.std.proofs.Common.{◌≡◌, ℕ, ◌+◌, ◌<◌, ◌≤◌, List, [], ◌∷◌, ◌++◌, length, length-append, refl, ap, sym, subst, ◌∙◌, inl, inr, arith}
use Rattle.std.proofs.lemmas.Bool.{cases_eq}
use Rattle.std.specs.List.{All}
use Rattle.std.specs.Ordering.{nat_cmp}
use Rattle.std.specs.Cmp.Lexicographic.{slice_cmp}
use Rattle.std.specs.declared.cmp.Ordering.TheVariants.{Less, Greater}
use Rattle.std.proofs.lemmas.List.Elements.{All-head, All-tail}
use Rattle.least_walk.specs.LeastWalk.{Step, steps_from, total_cost, walk_from, IsBefore, IsLeast}
use Rattle.least_walk.specs.LeastWalk.IsBefore.{by_steps, by_cost, by_list}
use Rattle.least_walk.specs.Inner.Suffix.{IsLeastFrom, WalksOn}
use Rattle.least_walk.proofs.Before.{slice_cmp-cons, nat_cmp_above}
use Rattle.least_walk.proofs.Going.{length-steps_from, total_cost-cons}
use Rattle.least_walk.proofs.Walks.{least_from_goes}
use Rattle.outline_check.specs.declared.label.Label.{Label}
use Rattle.outline_check.specs.Labels.{no_label, label_at, label_by, IsUpTo, LeadsTo, AreRight, LeadsFirst}
use Rattle.outline_check.specs.Labels.IsUpTo.{fewer, as_few}
use Rattle.outline_check.specs.Leading.{LeadFirst}
use Rattle.outline_check.proofs.Right.{label_same, up_to_both, up_to_trans}

-- the label of a way to go on
abbrev way_label : (ℕ → ℕ → ℕ) → ℕ → List ℕ → Label
way_label cost i rest = record { count = length rest; cost = total_cost cost (i ∷ rest) }

module _ (size : ℕ) (is_allowed : ℕ → ℕ → Type 0) (cost : ℕ → ℕ → ℕ) (goes_up : (i j : ℕ) → is_allowed i j → (i < j) × (j ≤ size))
    (labels : List Label) (right : AreRight size is_allowed cost labels) where
  abbrev label : ℕ → Label
  label i = label_at labels i

  -- one more step on both
  up_to_more : (a b : Label) (c d : ℕ) → IsUpTo a b → c ≤ d → IsUpTo (record { count = a.count + 1; cost = a.cost + c }) (record { count = b.count + 1; cost = b.cost + d })
  up_to_more a b c d (fewer h) l = fewer (omega arith)
  up_to_more a b c d (as_few h k) l = as_few (omega arith) (omega arith)

  way_more : (i j : ℕ) (rest : List ℕ) → way_label cost i (j ∷ rest) ≡ record { count = length rest + 1; cost = (way_label cost j rest).cost + cost i j }
  way_more i j rest =
      label_same (way_label cost i (j ∷ rest)) (record { count = length rest + 1; cost = (way_label cost j rest).cost + cost i j })
      (omega arith) (omega (arith, total_cost-cons cost i j rest))

  -- no way to go on is less than the label
  pub none_less : (i : ℕ) (rest : List ℕ) → WalksOn size is_allowed i rest → IsUpTo (label i) (way_label cost i rest)
  none_less i [] at_end =
      let here : label i ≡ no_label = ap label at_end ∙ right.last in
      subst (λ l. IsUpTo l (way_label cost i [])) (sym here) (as_few refl (omega arith))
  none_less i (j ∷ rest) goes =
      let up = goes_up i j goes.1 in
      let least = (right.each i (omega arith)).least j goes.1 in
      let later = none_less j rest goes.2 in
      let more = up_to_more (label j) (way_label cost j rest) (cost i j) (cost i j) later (omega arith) in
      subst (IsUpTo (label i)) (sym (way_more i j rest)) (up_to_trans (label i) (label_by cost labels i j) _ least more)

  -- from index to index the first one that the label comes from
  abbrev pub Follows : ℕ → List ℕ → Type 0
  Follows i [] = i ≡ size
  Follows i (j ∷ rest) = LeadsFirst is_allowed cost labels i j × Follows j rest

  pub follows_goes : (i : ℕ) (rest : List ℕ) → Follows i rest → WalksOn size is_allowed i rest
  follows_goes i [] at_end = at_end
  follows_goes i (j ∷ rest) (leads, more) =
      ((goes_up i j leads.leads.allowed).0, leads.leads.allowed, follows_goes j rest more)

  -- so the way has the label
  pub follows_label : (i : ℕ) (rest : List ℕ) → Follows i rest → label i ≡ way_label cost i rest
  follows_label i [] at_end = ap label at_end ∙ right.last
  follows_label i (j ∷ rest) (leads, more) =
      let later = follows_label j rest more in
      let F : Label → Label = λ l. record { count = l.count + 1; cost = l.cost + cost i j } in
      leads.leads.by_step ∙ ap F later ∙ sym (way_more i j rest)

  -- another way with the same label leads to the label by its first step too
  other_leads : (i k : ℕ) (v : List ℕ) → WalksOn size is_allowed i (k ∷ v) → label i ≡ way_label cost i (k ∷ v)
      → LeadsTo is_allowed cost labels i k (label i) × (label k ≡ way_label cost k v)
  other_leads i k v goes same =
      let up = goes_up i k goes.1 in
      let least = (right.each i (omega arith)).least k goes.1 in
      let later = none_less k v goes.2 in
      let more = up_to_more (label k) (way_label cost k v) (cost i k) (cost i k) later (omega arith) in
      let whole : label i ≡ record { count = length v + 1; cost = (way_label cost k v).cost + cost i k } = same ∙ way_more i k v in
      let by : label i ≡ label_by cost labels i k = up_to_both (label i) (label_by cost labels i k) least (subst (IsUpTo (label_by cost labels i k)) (sym whole) more) in
      let counts = ap (λ (l : Label). l.count) (sym by ∙ whole) in
      let costs = ap (λ (l : Label). l.cost) (sym by ∙ whole) in
      (record { allowed = goes.1; by_step = by }, label_same (label k) (way_label cost k v) (omega arith) (omega arith))

  -- and isn't the lower list
  pub not_lower : (i : ℕ) (rest other : List ℕ) → Follows i rest → WalksOn size is_allowed i other → label i ≡ way_label cost i other
      → ¬ (slice_cmp nat_cmp other rest ≡ Less)
  not_lower i [] [] follows goes same lower = cc
  not_lower i [] (k ∷ v) follows goes same lower =
      let up = goes_up i k goes.1 in
      absurd (omega arith)
  not_lower i (j ∷ rest) [] (leads, more) goes same lower =
      let up = goes_up i j leads.leads.allowed in
      absurd (omega arith)
  not_lower i (j ∷ rest) (k ∷ v) (leads, more) goes same lower =
      let other = other_leads i k v goes same in
      let first = leads.first k other.0 in
      elim (cases_eq j k) [
        | inl tied ↦
            let P : ℕ → Type 0 = λ n. slice_cmp nat_cmp (n ∷ v) (j ∷ rest) ≡ Less in
            let tail = sym (slice_cmp-cons j v rest) ∙ subst P (sym tied) lower in
            let goes_there = subst (λ n. WalksOn size is_allowed n v) (sym tied) goes.2 in
            let label_there = subst (λ n. label n ≡ way_label cost n v) (sym tied) other.1 in
            not_lower j rest v more goes_there label_there tail
        | inr apart ↦
            let order : slice_cmp nat_cmp (k ∷ v) (j ∷ rest) ≡ Greater = rw (nat_cmp_above k j (omega arith)) in
            absurd (let both = sym order ∙ lower in cc)
      ]

  module _ (i : ℕ) (rest : List ℕ) (follows : Follows i rest) where
    most : (other : List ℕ) → WalksOn size is_allowed i other → IsUpTo (way_label cost i rest) (way_label cost i other)
    most other goes = subst (λ l. IsUpTo l (way_label cost i other)) (follows_label i rest follows) (none_less i other goes)

    none_before : (other : List ℕ) → WalksOn size is_allowed i other → ¬ IsBefore cost (i ∷ other) (i ∷ rest)
    none_before other goes (by_steps less) =
        elim (most other goes) [
          | fewer h ↦ omega (arith, length-steps_from i other, length-steps_from i rest)
          | as_few h l ↦ omega (arith, length-steps_from i other, length-steps_from i rest)
        ]
    none_before other goes (by_cost tied cheaper) =
        elim (most other goes) [
          | fewer h ↦ omega (arith, length-steps_from i other, length-steps_from i rest)
          | as_few h l ↦ omega arith
        ]
    none_before other goes (by_list tied as_cheap lower) =
        not_lower i rest other follows goes
        (follows_label i rest follows ∙ label_same (way_label cost i rest) (way_label cost i other)
        (omega (arith, length-steps_from i other, length-steps_from i rest)) (sym as_cheap))
        (sym (slice_cmp-cons i other rest) ∙ lower)

    -- so it is the least way to go on
    pub least_follows : IsLeastFrom size is_allowed cost i rest
    least_follows = record { goes_on = follows_goes i rest follows; none_before = none_before }

  -- the vertices of a certificate
  follows_steps : (i : ℕ) (rest : List ℕ) → All (λ step. LeadsFirst is_allowed cost labels step.from step.to) (steps_from i (rest ++ size ∷ []))
      → Follows i (rest ++ size ∷ [])
  follows_steps i [] all =
      (All-head (λ (step : Step). LeadsFirst is_allowed cost labels step.from step.to) (record { from = i; to = size }) [] all, refl)
  follows_steps i (j ∷ rest) all =
      let step : Step = record { from = i; to = j } in
      let others = steps_from j (rest ++ size ∷ []) in (
        All-head (λ (step : Step). LeadsFirst is_allowed cost labels step.from step.to) step others all,
        follows_steps j rest (All-tail (λ (step : Step). LeadsFirst is_allowed cost labels step.from step.to) step others all),
      )

  pub best : (at : List ℕ) → LeadFirst size is_allowed cost labels at
      → IsLeast size is_allowed cost (walk_from at size) × (total_cost cost (walk_from at size) ≡ (label 0).cost) × (length at ≡ (label 0).count)
  best [] lead = absurd (let none = lead.starts in cc)
  best (i ∷ rest) lead =
      let zero_first : i ≡ 0 = (let first = lead.starts in cc) in
      let walk = rest ++ size ∷ [] in
      let follows = subst (λ n. Follows n walk) zero_first (follows_steps i rest lead.leads) in
      let least = least_from_goes size is_allowed cost walk (least_follows 0 walk follows) in
      let labelled = follows_label 0 walk follows in
      let P : ℕ → Type 0 = λ n. IsLeast size is_allowed cost (n ∷ walk) in
      let Q : ℕ → Type 0 = λ n. total_cost cost (n ∷ walk) ≡ (label 0).cost in (
        subst P (sym zero_first) least,
        subst Q (sym zero_first) (ap (λ (l : Label). l.cost) (sym labelled)),
        omega (arith, ap (λ (l : Label). l.count) labelled, length-append rest (size ∷ [])),
      )

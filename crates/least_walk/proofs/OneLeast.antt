-- There is at most one least walk.
use Rattle.std.proofs.Common.{◌≡◌, ℕ, List, refl, ap, sym, ◌∙◌, inl, inr, arith}
use Rattle.std.specs.Ordering.{nat_cmp, ordering_reverse}
use Rattle.std.specs.Cmp.Lexicographic.{slice_cmp}
use Rattle.std.specs.declared.cmp.Ordering.{Ordering}
use Rattle.std.specs.declared.cmp.Ordering.TheVariants.{Less, Equal, Greater}
use Rattle.std.proofs.lemmas.Cmp.{nat_list_cmp_total}
use Rattle.std.proofs.lemmas.Map.Lookups.{exact_bytes}
use Rattle.std.proofs.lemmas.Bool.{cases_lt}
use Rattle.least_walk.specs.LeastWalk.{step_count, total_cost, IsBefore, IsLeast}
use Rattle.least_walk.specs.LeastWalk.IsBefore.{by_steps, by_cost, by_list}

module _ (cost : ℕ → ℕ → ℕ) (v w : List ℕ)
    (not_v : ¬ IsBefore cost v w) (not_w : ¬ IsBefore cost w v) where
  -- of two lists that tie in steps and cost, one is the lower one, or they are the same
  same_from_lists : step_count v ≡ step_count w → total_cost cost v ≡ total_cost cost w
      → (order : Ordering) → slice_cmp nat_cmp v w ≡ order
      → v ≡ w
  same_from_lists tied as_cheap Less lower = absurd (not_v (by_list tied as_cheap lower))
  same_from_lists tied as_cheap Equal same = exact_bytes v w same
  same_from_lists tied as_cheap Greater higher =
      let lower = nat_list_cmp_total.antisymm w v ∙ ap ordering_reverse higher in
      absurd (not_w (by_list (sym tied) (sym as_cheap) lower))

  same_from_costs : step_count v ≡ step_count w → v ≡ w
  same_from_costs tied =
      elim (cases_lt (total_cost cost v) (total_cost cost w)) [
        | inl cheaper ↦ absurd (not_v (by_cost tied cheaper))
        | inr as_dear ↦ elim (cases_lt (total_cost cost w) (total_cost cost v)) [
          | inl cheaper ↦ absurd (not_w (by_cost (sym tied) cheaper))
          | inr as_cheap ↦ same_from_lists tied (omega arith) (slice_cmp nat_cmp v w) refl
        ]
      ]

  -- two lists of which neither is before the other are the same
  pub same_from_neither : v ≡ w
  same_from_neither =
      elim (cases_lt (step_count v) (step_count w)) [
        | inl fewer ↦ absurd (not_v (by_steps fewer))
        | inr at_least ↦ elim (cases_lt (step_count w) (step_count v)) [
          | inl fewer ↦ absurd (not_w (by_steps fewer))
          | inr at_most ↦ same_from_costs (omega arith)
        ]
      ]

-- two least walks are the same
pub one_least : (size : ℕ) (is_allowed : ℕ → ℕ → Type 0) (cost : ℕ → ℕ → ℕ) (v w : List ℕ)
    → IsLeast size is_allowed cost v
    → IsLeast size is_allowed cost w
    → v ≡ w
one_least size is_allowed cost v w v_least w_least =
    same_from_neither cost v w
    (w_least.none_before v v_least.is_walk) (v_least.none_before w w_least.is_walk)

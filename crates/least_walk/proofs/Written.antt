-- The least walk, while its indices are written down.
use Rattle.std.proofs.Common.{◌≡◌, ℕ, ◌<◌, ◌≤◌, List, [], ◌∷◌, ◌++◌, length, Some, append_assoc, ap, sym, ◌∙◌, subst}
use Rattle.std.proofs.Common.{inl, inr, arith, length-append}
use Rattle.std.proofs.Math.Seq.{get_or-append_seam}
use Rattle.std.proofs.lemmas.Bool.{cases_lt}
use Rattle.std.proofs.lemmas.Option.{slice_get-get_or}
use Rattle.least_walk.specs.LeastWalk.{step_count, IsLeast}
use Rattle.least_walk.specs.LeastWalk.IsBefore.{by_steps}
use Rattle.least_walk.specs.Inner.MarkedPlaces.{IsPlace}
use Rattle.least_walk.specs.Inner.Suffix.{IsLeastFrom, IsLeastNext, WalksOn}
use Rattle.least_walk.proofs.Going.{goes_below}
use Rattle.least_walk.proofs.Walks.{least_from_goes}
use Rattle.least_walk.proofs.Onward.{goes_next}

-- the starts are written down, and the least walk goes on from i
abbrev pub IsWritten : (size : ℕ) → (ℕ → ℕ → Type 0) → (ℕ → ℕ → ℕ) → List ℕ → ℕ → Type 0
IsWritten size is_allowed cost starts i =
    (rest : List ℕ) × IsLeastFrom size is_allowed cost i rest × IsLeast size is_allowed cost (starts ++ i ∷ rest)

module _ (size : ℕ) (is_allowed : ℕ → ℕ → Type 0) (cost : ℕ → ℕ → ℕ) where
  -- at first there is none
  pub written_none : (starts : List ℕ) (j : ℕ) → starts ≡ [] → IsLeastNext size is_allowed cost 0 j
      → IsWritten size is_allowed cost starts 0
  written_none starts j none next =
      let rest = j ∷ next.rest in (
        rest,
        next.is_least,
        subst (λ v. IsLeast size is_allowed cost (v ++ 0 ∷ rest)) (sym none) (least_from_goes size is_allowed cost rest next.is_least),
      )

  -- the least walk has the fewest steps, so walks of fewest steps go through i
  pub written_place : (starts : List ℕ) (i : ℕ) → IsWritten size is_allowed cost starts i → IsPlace size is_allowed i
  written_place starts i (rest, least, walk) =
      let whole = starts ++ i ∷ rest in
      let within : length starts < length whole = simp length-append (omega arith) in (
        length starts,
        record {
          walk = whole;
          is_fewest = record {
            is_walk = walk.is_walk;
            none_fewer = λ other other_walk. elim (cases_lt (step_count other) (step_count whole)) [
              | inl fewer ↦ absurd (walk.none_before other other_walk (by_steps fewer))
              | inr most ↦ most
            ];
          };
          stands = slice_get-get_or whole (length starts) 0 within ∙ ap Some (get_or-append_seam starts i rest 0);
        },
      )

  -- then i is written down, and the walk goes on from the next index
  pub written_more : (starts more : List ℕ) (i j : ℕ) → more ≡ starts ++ i ∷ [] → IsLeastNext size is_allowed cost i j
      → IsWritten size is_allowed cost starts i
      → IsWritten size is_allowed cost more j
  written_more starts more i j pushed next (rest, least, walk) =
      let (after, same, after_least) = goes_next size is_allowed cost i j rest least next in
      let regrouped : starts ++ i ∷ rest ≡ more ++ j ∷ after =
      ap (λ v. starts ++ i ∷ v) same ∙ sym (append_assoc starts (i ∷ []) (j ∷ after)) ∙ sym (ap (λ v. v ++ j ∷ after) pushed) in
      (after, after_least, subst (IsLeast size is_allowed cost) regrouped walk)

  -- and at the end the walk is whole
  ended : (starts : List ℕ) (i : ℕ) (rest : List ℕ) → size ≤ i → WalksOn size is_allowed i rest
      → IsLeast size is_allowed cost (starts ++ i ∷ rest)
      → IsLeast size is_allowed cost (starts ++ size ∷ [])
  ended starts i [] above at_end walk = subst (λ m. IsLeast size is_allowed cost (starts ++ m ∷ [])) at_end walk
  ended starts i (j ∷ rest) above goes walk =
      absurd (let room = goes_below size is_allowed j rest goes.2 in omega arith)

  pub written_all : (starts : List ℕ) (i : ℕ) → size ≤ i → IsWritten size is_allowed cost starts i
      → IsLeast size is_allowed cost (starts ++ size ∷ [])
  written_all starts i above (rest, least, walk) = ended starts i rest above least.goes_on walk

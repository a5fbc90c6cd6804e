-- Marks, while they spread on from the start.
use Rattle.std.proofs.Common.{◌≡◌, ℕ, suc, ◌+◌, ◌<◌, ◌≤◌, ◌⊎◌, ◌↔◌, ◌≢◌, Bool, true, false, List, length, sym, ◌∙◌, subst, refl, set, get_or-set_same, inl, inr, arith}
use Rattle.std.proofs.lemmas.List.{get_or-set_other, length-set}
use Rattle.std.proofs.lemmas.Bool.{cases_eq, false≢true}
use Rattle.least_walk.specs.Inner.Suffix.{HasFewest}
use Rattle.least_walk.specs.Inner.MarkedPlaces.{AreMarkedPlaces, AreUnmarked, HasMarks, IsMarked, IsPlace, KeepsToFewest, MarksOnward}
use Rattle.least_walk.proofs.Places.{all_reached, place_at_start, place_onward, stands_after}

-- an index is marked after a write where the value written says so, or where it was before
marked_here : (marks : List Bool) (to k : ℕ) (b : Bool) → to < length marks → k ≡ to → b ≡ true → IsMarked (set marks to b) k
marked_here marks to k b room same is =
    subst (λ n. IsMarked (set marks to b) n) (sym same) (get_or-set_same marks to b false room ∙ is)

written_here : (marks : List Bool) (to k : ℕ) (b : Bool) → to < length marks → k ≡ to → IsMarked (set marks to b) k → b ≡ true
written_here marks to k b room same is =
    sym (get_or-set_same marks to b false room) ∙ subst (λ n. IsMarked (set marks to b) n) same is

marked_there : (marks : List Bool) (to k : ℕ) (b : Bool) → k ≢ to → IsMarked marks k → IsMarked (set marks to b) k
marked_there marks to k b other is = get_or-set_other marks to k b false other ∙ is

written_there : (marks : List Bool) (to k : ℕ) (b : Bool) → k ≢ to → IsMarked (set marks to b) k → IsMarked marks k
written_there marks to k b other is = sym (get_or-set_other marks to k b false other) ∙ is

module _ (size : ℕ) (is_allowed : ℕ → ℕ → Type 0) (counts : List ℕ) where
  -- each step from i to below `to` that keeps to the fewest leads to a mark; the marks up to i are as they were
  pub record AreOnward (i to : ℕ) (first marks : List Bool) : Type 0 where
    pub mark_places : length marks ≡ length first
    pub places : AreMarkedPlaces size is_allowed marks
    pub kept : (k : ℕ) → IsMarked first k → IsMarked marks k
    pub earlier : (k : ℕ) → k ≤ i → IsMarked marks k → IsMarked first k
    pub onward : (k : ℕ) → i < k → k < to → KeepsToFewest is_allowed counts i k → IsMarked marks k

  -- the start is marked, and on from each marked index below `below`
  pub record AreSpread (below : ℕ) (marks : List Bool) : Type 0 where
    pub mark_places : length marks ≡ size + 1
    pub places : AreMarkedPlaces size is_allowed marks
    pub start : IsMarked marks 0
    pub onward : (i : ℕ) → i < below → IsMarked marks i → MarksOnward size is_allowed counts i marks

  module _ (fewest : HasFewest size is_allowed 0 counts) where
    pub onward_none : (i : ℕ) (marks : List Bool) → AreMarkedPlaces size is_allowed marks → AreOnward i (i + 1) marks marks
    onward_none i marks places = record {
      mark_places = refl;
      places = places;
      kept = λ k is. is;
      earlier = λ k few is. is;
      onward = λ k above below keeps. let no : ⊥ = omega arith in elim no [ ];
    }

    -- one more index
    pub onward_more : (i to : ℕ) (first marks : List Bool) (b : Bool) → IsPlace size is_allowed i → i < to → to ≤ size → to < length marks
        → (b ≡ true) ↔ (IsMarked marks to ⊎ KeepsToFewest is_allowed counts i to)
        → AreOnward i to first marks → AreOnward i (to + 1) first (set marks to b)
    onward_more i to first marks b place above within room reached so_far = record {
      mark_places = length-set marks to b ∙ so_far.mark_places;
      places = λ k inside is. elim (cases_eq k to) [
        | inl same ↦ elim (reached.0 (written_here marks to k b room same is)) [
          | inl marked ↦ so_far.places k inside (subst (IsMarked marks) (sym same) marked)
          | inr keeps ↦ subst (IsPlace size is_allowed) (sym same)
              (suc place.0, place_onward size is_allowed counts fewest place.0 i to place.1 above within keeps.0 keeps.1)
        ]
        | inr other ↦ so_far.places k inside (written_there marks to k b other is)
      ];
      kept = λ k is. elim (cases_eq k to) [
        | inl same ↦ marked_here marks to k b room same (reached.1 (inl (subst (IsMarked marks) same (so_far.kept k is))))
        | inr other ↦ marked_there marks to k b other (so_far.kept k is)
      ];
      earlier = λ k few is. so_far.earlier k few (written_there marks to k b (λ same. omega arith) is);
      onward = λ k onwards below keeps. elim (cases_eq k to) [
        | inl same ↦ marked_here marks to k b room same (reached.1 (inr (subst (KeepsToFewest is_allowed counts i) same keeps)))
        | inr other ↦ marked_there marks to k b other (so_far.onward k onwards (omega arith) keeps)
      ];
    }

    pub spread_start : (marks : List Bool) → length marks ≡ size + 1 → AreUnmarked marks → AreSpread 0 (set marks 0 true)
    spread_start marks len none = record {
      mark_places = length-set marks 0 true ∙ len;
      places = λ k within is. elim (cases_eq k 0) [
        | inl same ↦ subst (IsPlace size is_allowed) (sym same) (0, place_at_start size is_allowed counts fewest)
        | inr other ↦ absurd (false≢true (sym (none k) ∙ written_there marks 0 k true other is))
      ];
      start = marked_here marks 0 0 true (omega arith) refl refl;
      onward = λ i below is. let no : ⊥ = omega arith in elim no [ ];
    }

    pub spread_same : (i : ℕ) (marks : List Bool) → ¬ IsMarked marks i → AreSpread i marks → AreSpread (i + 1) marks
    spread_same i marks unmarked so_far = record {
      mark_places = so_far.mark_places;
      places = so_far.places;
      start = so_far.start;
      onward = λ k below is. elim (cases_eq k i) [
        | inl same ↦ absurd (unmarked (subst (IsMarked marks) same is))
        | inr earlier ↦ so_far.onward k (omega arith) is
      ];
    }

    pub spread_more : (i : ℕ) (marks more : List Bool) → length more ≡ length marks → AreMarkedPlaces size is_allowed more
        → ((k : ℕ) → IsMarked marks k → IsMarked more k) → ((k : ℕ) → k ≤ i → IsMarked more k → IsMarked marks k)
        → MarksOnward size is_allowed counts i more → AreSpread i marks → AreSpread (i + 1) more
    spread_more i marks more len places kept earlier onward so_far = record {
      mark_places = len ∙ so_far.mark_places;
      places = places;
      start = kept 0 so_far.start;
      onward = λ k below is m above within keeps. elim (cases_eq k i) [
        | inl same ↦ onward m (omega arith) within (subst (λ n. KeepsToFewest is_allowed counts n m) same keeps)
        | inr other ↦ kept m (so_far.onward k (omega arith) (earlier k (omega arith) is) m above within keeps)
      ];
    }

    -- in the end all are marked
    pub spread_whole : (below : ℕ) (marks : List Bool) → size ≤ below → AreSpread below marks → HasMarks size is_allowed marks
    spread_whole below marks all so_far i within = (
      so_far.places i within,
      λ place.
          all_reached size is_allowed counts fewest (IsMarked marks) so_far.start
          (λ k m inside is above m_within allowed keeps. so_far.onward k (omega arith) is m above m_within (allowed, keeps))
          place.0 i (stands_after size is_allowed counts fewest place.0 i place.1),
    )

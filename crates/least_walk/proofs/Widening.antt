-- Windows, while indices are brought into them.
use Rattle.std.proofs.Common.{◌≡◌, ℕ, ◌+◌, ◌<◌, ◌≤◌, ◌⊎◌, Bool, List, ◌∷◌, length, sym, ap, subst, set, get_or, get_or-set_same, inl, inr, arith}
use Rattle.std.specs.Prelude.{min, max}
use Rattle.std.specs.List.{slice_index}
use Rattle.std.proofs.lemmas.List.{get_or-set_other}
use Rattle.std.proofs.lemmas.Bool.{cases_eq}
use Rattle.std.proofs.lemmas.Option.{get_or_from_slice_get, slice_get_within, slice_get-get_or}
use Rattle.least_walk.specs.Inner.Suffix.{HasFewest}
use Rattle.least_walk.specs.LeastWalk.{IsFewestPlace}
use Rattle.least_walk.specs.Inner.MarkedPlaces.{IsMarked, HasMarks}
use Rattle.least_walk.specs.Windows.{IsWindow, AreWindows}
use Rattle.least_walk.specs.Inner.Windows.{AreNone}
use Rattle.least_walk.specs.declared.window.Window.{Window}
use Rattle.least_walk.proofs.Going.{length-steps_from}
use Rattle.least_walk.proofs.Places.{stands_after, some_place, is_fewest}

abbrev pub window_at : List Window → ℕ → Window
window_at windows c = get_or windows c (record { least = 0; greatest = 0 })

module _ (size : ℕ) (counts : List ℕ) (marks : List Bool) where
  -- a marked index with c steps before it
  pub record Belongs (c i : ℕ) : Type 0 where
    pub marked : IsMarked marks i
    pub count : slice_index counts i + c ≡ slice_index counts 0

  -- no index below `below` belongs here
  pub record IsEmpty (c below : ℕ) (window : Window) : Type 0 where
    least : window.least ≡ size
    greatest : window.greatest ≡ 0
    none : (k : ℕ) → k < below → ¬ Belongs c k

  -- or some do, and these are the ends
  pub record HasEnds (c below : ℕ) (window : Window) : Type 0 where
    least_below : window.least < below
    greatest_below : window.greatest < below
    least : Belongs c window.least
    greatest : Belongs c window.greatest
    none_below : (k : ℕ) → k < below → Belongs c k → window.least ≤ k
    none_above : (k : ℕ) → k < below → Belongs c k → k ≤ window.greatest

  abbrev pub AreBelow : ℕ → List Window → Type 0
  AreBelow below windows = (c : ℕ) → c ≤ slice_index counts 0
      → IsEmpty c below (window_at windows c) ⊎ HasEnds c below (window_at windows c)

  pub below_none : (windows : List Window) → length windows ≡ slice_index counts 0 + 1 → AreNone size windows → AreBelow 0 windows
  below_none windows len none c few =
      let is = none c (window_at windows c) (slice_get-get_or windows c (record { least = 0; greatest = 0 }) (omega arith)) in
      inl (record {
        least = ap (λ (w : Window). w.least) is;
        greatest = ap (λ (w : Window). w.greatest) is;
        none = λ k below. let no : ⊥ = omega arith in elim no [ ];
      })

  -- one more index that doesn't belong to the window
  passed : (c i : ℕ) (w : Window) → ¬ Belongs c i → IsEmpty c i w ⊎ HasEnds c i w → IsEmpty c (i + 1) w ⊎ HasEnds c (i + 1) w
  passed c i w other (inl empty) = inl (record {
    least = empty.least;
    greatest = empty.greatest;
    none = λ k below belongs. elim (cases_eq k i) [
      | inl same ↦ other (subst (Belongs c) same belongs)
      | inr earlier ↦ empty.none k (omega arith) belongs
    ];
  })
  passed c i w other (inr ends) = inr (record {
    least_below = omega (arith, ends.least_below);
    greatest_below = omega (arith, ends.greatest_below);
    least = ends.least;
    greatest = ends.greatest;
    none_below = λ k below belongs. elim (cases_eq k i) [
      | inl same ↦ absurd (other (subst (Belongs c) same belongs))
      | inr earlier ↦ ends.none_below k (omega arith) belongs
    ];
    none_above = λ k below belongs. elim (cases_eq k i) [
      | inl same ↦ absurd (other (subst (Belongs c) same belongs))
      | inr earlier ↦ ends.none_above k (omega arith) belongs
    ];
  })

  -- and one that does
  module _ (c i : ℕ) (old w : Window) (within : i ≤ size) (belongs : Belongs c i)
      (least : w.least ≡ min old.least i) (greatest : w.greatest ≡ max old.greatest i) where
    brought : IsEmpty c i old ⊎ HasEnds c i old → HasEnds c (i + 1) w
    brought (inl empty) =
        let low : w.least ≡ i = omega (arith, empty.least) in
        let high : w.greatest ≡ i = omega (arith, empty.greatest) in
        record {
          least_below = omega arith;
          greatest_below = omega arith;
          least = subst (Belongs c) (sym low) belongs;
          greatest = subst (Belongs c) (sym high) belongs;
          none_below = λ k below here. elim (cases_eq k i) [
            | inl same ↦ omega arith
            | inr earlier ↦ absurd (empty.none k (omega arith) here)
          ];
          none_above = λ k below here. omega arith;
        }
    brought (inr ends) =
        let low : w.least ≡ old.least = omega (arith, ends.least_below) in
        let high : w.greatest ≡ i = omega (arith, ends.greatest_below) in
        record {
          least_below = omega (arith, ends.least_below);
          greatest_below = omega arith;
          least = subst (Belongs c) (sym low) ends.least;
          greatest = subst (Belongs c) (sym high) belongs;
          none_below = λ k below here. elim (cases_eq k i) [
            | inl same ↦ omega (arith, ends.least_below)
            | inr earlier ↦ omega (arith, ends.none_below k (omega arith) here)
          ];
          none_above = λ k below here. omega arith;
        }

  pub below_same : (windows : List Window) (i : ℕ) → ¬ IsMarked marks i → AreBelow i windows → AreBelow (i + 1) windows
  below_same windows i unmarked so_far c few = passed c i (window_at windows c) (λ belongs. unmarked belongs.marked) (so_far c few)

  pub below_more : (windows : List Window) (i at : ℕ) (w : Window) → i ≤ size → length windows ≡ slice_index counts 0 + 1
      → IsMarked marks i → slice_index counts i + at ≡ slice_index counts 0
      → w.least ≡ min ((window_at windows at).least) i → w.greatest ≡ max ((window_at windows at).greatest) i
      → AreBelow i windows → AreBelow (i + 1) (set windows at w)
  below_more windows i at w within len marked count least greatest so_far c few =
      elim (cases_eq c at) [
        | inl same ↦
            let P : ℕ → Type 0 = λ m. IsEmpty m (i + 1) (window_at (set windows at w) m) ⊎ HasEnds m (i + 1) (window_at (set windows at w) m) in
            let Q : Window → Type 0 = λ v. IsEmpty at (i + 1) v ⊎ HasEnds at (i + 1) v in
            let here = inr (brought at i (window_at windows at) w within (record { marked = marked; count = count }) least greatest (so_far at (omega arith))) in
            subst P (sym same) (subst Q (sym (get_or-set_same windows at w (record { least = 0; greatest = 0 }) (omega arith))) here)
        | inr other ↦
            let Q : Window → Type 0 = λ v. IsEmpty c (i + 1) v ⊎ HasEnds c (i + 1) v in
            subst Q (sym (get_or-set_other windows at c w (record { least = 0; greatest = 0 }) other))
            (passed c i (window_at windows c) (λ belongs. other (let n = belongs.count in omega arith)) (so_far c few))
      ]

  module _ (is_allowed : ℕ → ℕ → Type 0) (fewest : HasFewest size is_allowed 0 counts) (all : HasMarks size is_allowed marks) where
    -- what walks of fewest steps go through is marked, and has its count
    belongs : (c i : ℕ) → IsFewestPlace size is_allowed c i → Belongs c i
    belongs c i place =
        let after = stands_after size is_allowed counts fewest c i place in
        record { marked = (all i after.within).1 (c, place); count = omega (arith, after.count) }

    place : (c i : ℕ) → i ≤ size → Belongs c i → IsFewestPlace size is_allowed c i
    place c i within here =
        let (other, place) = (all i within).0 here.marked in
        let after = stands_after size is_allowed counts fewest other i place in
        let same : other ≡ c = omega (arith, after.count, here.count) in
        subst (λ n. IsFewestPlace size is_allowed n i) same place

    pub count_below : (i : ℕ) → i ≤ size → IsMarked marks i → slice_index counts i ≤ slice_index counts 0
    count_below i within marked =
        let (c, place) = (all i within).0 marked in
        let after = stands_after size is_allowed counts fewest c i place in
        omega (arith, after.count)

    window_whole : (c : ℕ) (w : Window) → c ≤ slice_index counts 0 → IsEmpty c (size + 1) w ⊎ HasEnds c (size + 1) w → IsWindow size is_allowed c w
    window_whole c w few (inl empty) =
        let (i, there) = some_place size is_allowed counts fewest c few in
        let after = stands_after size is_allowed counts fewest c i there in
        absurd (empty.none i (omega (arith, after.within)) (belongs c i there))
    window_whole c w few (inr ends) = record {
      least_stands = place c w.least (omega (arith, ends.least_below)) ends.least;
      greatest_stands = place c w.greatest (omega (arith, ends.greatest_below)) ends.greatest;
      none_below = λ i there. (
          let after = stands_after size is_allowed counts fewest c i there in
          ends.none_below i (omega (arith, after.within)) (belongs c i there)
          );
      none_above = λ i there. (
          let after = stands_after size is_allowed counts fewest c i there in
          ends.none_above i (omega (arith, after.within)) (belongs c i there)
          );
    }

    pub windows_whole : (windows : List Window) → length windows ≡ slice_index counts 0 + 1 → AreBelow (size + 1) windows
        → AreWindows size is_allowed windows
    windows_whole windows len whole =
        let here = fewest 0 (omega arith) (omega arith) in
        record {
          walk = 0 ∷ here.rest;
          is_fewest = is_fewest size is_allowed counts fewest here.rest here.goes_on here.count;
          count = omega (arith, here.count, length-steps_from 0 here.rest);
          each = λ c w is.
              let within = slice_get_within windows c w is in
              let few : c ≤ slice_index counts 0 = omega arith in
              let same = get_or_from_slice_get windows c w (record { least = 0; greatest = 0 }) is in
              window_whole c w few (subst (λ v. IsEmpty c (size + 1) v ⊎ HasEnds c (size + 1) v) same (whole c few));
        }

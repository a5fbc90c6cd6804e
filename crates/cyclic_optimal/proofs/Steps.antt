-- What possible segments reach, and ways over the farthest points.
use Rattle.std.proofs.Common.{◌≡◌, ℕ, zero, suc, ◌+◌, ◌-◌, ◌<◌, ◌≤◌, List, [], ◌∷◌, ◌++◌, length, length-append, refl, ap, sym, ◌∙◌, subst, inl, inr, arith}
use Rattle.std.proofs.Math.ListN.{get_or-append}
use Rattle.std.proofs.Math.Seq.{get_or-append_seam}
use Rattle.std.proofs.lemmas.Bool.{cases_lt}
use Rattle.std.specs.Prelude.{slice_index}
use Rattle.pt_core.specs.declared.point.Point.{Point}
use Rattle.straight_paths.specs.Straight.{IsPossible}
use Rattle.straight_paths.proofs.Far.{shorter_possible}
use Rattle.polygon_search.proofs.Rising.{later_possible}
use Rattle.least_walk.specs.Inner.Suffix.{IsFewestFrom, WalksOn}
use Rattle.least_walk.proofs.Going.{goes_below}
use Rattle.cyclic_optimal.specs.Inner.Fronts.{AreTops, IsLongest}
use Rattle.cyclic_optimal.proofs.Ways.{goes_both}

-- a possible segment stays so without its first steps
without_steps : (points : List Point) (d i j : ℕ) → IsPossible points i j → i + d < j → IsPossible points (i + d) j
without_steps points zero i j possible rises =
    let e : i ≡ i + 0 = omega arith in
    let P : ℕ → Type 0 = λ m. IsPossible points m j in
    subst P e possible
without_steps points (suc d) i j possible rises =
    let e : i + 1 + d ≡ i + suc d = omega arith in
    let P : ℕ → Type 0 = λ m. IsPossible points m j in
    subst P e (without_steps points d (i + 1) j (later_possible points i j possible (omega arith)) (omega arith))

-- where a segment passes point k, the one from there is possible
pub possible_from : (points : List Point) (i k j : ℕ) → IsPossible points i j → i ≤ k → k < j → IsPossible points k j
possible_from points i k j possible order rises =
    let e : i + (k - i) ≡ k = omega arith in
    let P : ℕ → Type 0 = λ m. IsPossible points m j in
    subst P e (without_steps points (k - i) i j possible (omega arith))

-- so none from there or before leads farther than the longest one
pub no_farther : (points : List Point) (k last i j : ℕ) → IsLongest points k last → i ≤ k → IsPossible points i j → j ≤ last
no_farther points k last i j longest order possible =
    elim (cases_lt k j) [
      | inl past ↦ longest.farthest j (possible_from points i k j possible order past)
      | inr near ↦ omega (arith, longest.reached.rises)
    ]

-- an index of a list, and the one that is appended
early : (xs : List ℕ) (x c : ℕ) → c < length xs → slice_index (xs ++ x ∷ []) c ≡ slice_index xs c
early xs x c below = get_or-append xs (x ∷ []) 0 c below

appended : (xs : List ℕ) (x c : ℕ) → c ≡ length xs → slice_index (xs ++ x ∷ []) c ≡ x
appended xs x c here = ap (slice_index (xs ++ x ∷ [])) here ∙ get_or-append_seam xs x [] 0

-- the farthest points that are written down, and the next one
pub record AreWritten (points : List Point) (start end : ℕ) (written : List ℕ) (at : ℕ) : Type 0 where
  pub above : start ≤ at
  pub within : at ≤ end
  pub tops : AreTops points start end (length written) (written ++ at ∷ [])
  pub way : List ℕ
  pub goes : WalksOn at (IsPossible points) start way
  pub count : length way ≡ length written
  pub fewest : (f : ℕ) → ((i : ℕ) (r : List ℕ) → i ≤ at → WalksOn end (IsPossible points) i r → f ≤ length r)
      → (r : List ℕ) → WalksOn end (IsPossible points) start r → length written + f ≤ length r

pub written_none : (points : List Point) (start end : ℕ) (written : List ℕ) → written ≡ [] → start ≤ end → AreWritten points start end written start
written_none points start end written none room =
    subst (λ xs. AreWritten points start end xs start) (sym none) (record {
      above = omega arith;
      within = room;
      tops = record {
        size = refl;
        first = refl;
        within = λ c few. (let is : c ≡ 0 = omega arith in omega (arith, ap (slice_index (start ∷ [])) is));
        before = λ c few. (let no : ⊥ = omega arith in elim no [ ]);
        onwards = λ c i j below. let no : ⊥ = omega arith in elim no [ ];
      };
      way = [];
      goes = refl;
      count = refl;
      fewest = λ f each r goes. omega (arith, each start r (omega arith) goes);
    })

module _ (points : List Point) (start end : ℕ) (written : List ℕ) (at last next : ℕ) (are : AreWritten points start end written at)
    (more : at < end) (longest : IsLongest points at last) (within : next ≤ end) (reached : next ≤ last)
    (greatest : (j : ℕ) → j ≤ end → j ≤ last → j ≤ next) where
  abbrev now : List ℕ
  now = written ++ at ∷ []

  abbrev new : List ℕ
  new = now ++ next ∷ []

  size_now : length now ≡ length written + 1
  size_now = omega (arith, length-append written (at ∷ []))

  here : slice_index now (length written) ≡ at
  here = appended written at (length written) refl

  there : slice_index new (length written + 1) ≡ next
  there = appended now next (length written + 1) (sym size_now)

  before : (d : ℕ) → d ≤ length written → slice_index new d ≡ slice_index now d
  before d few = early now next d (omega (arith, size_now))

  onward : at < next
  onward = let least = greatest (at + 1) (omega arith) (omega (arith, longest.reached.rises)) in omega arith

  step_on : IsPossible points at next
  step_on = shorter_possible points at next last longest.reached onward reached

  more_tops : AreTops points start end (length now) new
  more_tops = record {
    size = omega (arith, length-append now (next ∷ []));
    first = before 0 (omega arith) ∙ are.tops.first;
    within = λ d few. elim (cases_lt d (length now)) [
      | inl earlier ↦ omega (arith, size_now, before d (omega (arith, size_now)), are.tops.within d (omega (arith, size_now)))
      | inr last ↦
          let is : d ≡ length written + 1 = omega (arith, size_now) in
          omega (arith, there, ap (slice_index new) is)
    ];
    before = λ d few. elim (cases_lt d (length written)) [
      | inl earlier ↦ omega (arith, before d (omega arith), are.tops.before d earlier)
      | inr last ↦
          let is : d ≡ length written = omega (arith, size_now) in
          omega (arith, more, ap (slice_index new) is, before (length written) (omega arith), here)
    ];
    onwards = λ d i j below order possible ends. elim (cases_lt d (length written)) [
      | inl earlier ↦
          let old = are.tops.onwards d i j earlier (omega (arith, before d (omega arith))) possible ends in
          omega (arith, before (d + 1) (omega arith))
      | inr late ↦
          let is : d ≡ length written = omega (arith, size_now) in
          let top : slice_index new d ≡ at = ap (slice_index new) is ∙ before (length written) (omega arith) ∙ here in
          let far = greatest j ends (no_farther points at last i j longest (omega arith) possible) in
          omega (arith, there, ap (λ m. slice_index new (m + 1)) is)
    ];
  }

  fewest_on : (f : ℕ) → ((i : ℕ) (r : List ℕ) → i ≤ next → WalksOn end (IsPossible points) i r → f ≤ length r)
      → (i : ℕ) (r : List ℕ) → i ≤ at → WalksOn end (IsPossible points) i r → f + 1 ≤ length r
  fewest_on f each i [] order at_end = absurd (omega arith)
  fewest_on f each i (j ∷ r) order goes =
      let room = goes_below end (IsPossible points) j r goes.2 in
      let far = greatest j (omega arith) (no_farther points at last i j longest order goes.1) in
      let rest = each j r far goes.2 in
      omega arith

  pub written_more : (pushed : List ℕ) → pushed ≡ now → AreWritten points start end pushed next
  written_more pushed same =
      subst (λ xs. AreWritten points start end xs next) (sym same) (record {
        above = omega (arith, are.above, onward);
        within = within;
        tops = more_tops;
        way = are.way ++ next ∷ [];
        goes = goes_both (IsPossible points) next at start are.way (next ∷ []) are.goes (onward, step_on, refl);
        count = omega (arith, are.count, length-append are.way (next ∷ []), size_now);
        fewest = λ f each r goes. omega (arith, size_now, are.fewest (f + 1) (fewest_on f each) r goes);
      })

-- at the end they are all there
module _ (points : List Point) (start end : ℕ) (written : List ℕ) (at : ℕ) (are : AreWritten points start end written at) (past : end ≤ at)
    (pushed : List ℕ) (same : pushed ≡ written ++ at ∷ []) where
  whole : length pushed ≡ length written + 1
  whole = omega (arith, ap length same, length-append written (at ∷ []))

  pub some_tops : 1 ≤ length pushed
  some_tops = omega (arith, whole)

  pub all_tops : AreTops points start end (length pushed - 1) pushed
  all_tops =
      let count : length written ≡ length pushed - 1 = omega (arith, whole) in
      subst (λ n. AreTops points start end n pushed) count (subst (λ xs. AreTops points start end (length written) xs) (sym same) are.tops)

  pub fewest_tops : IsFewestFrom end (IsPossible points) start (length pushed - 1)
  fewest_tops =
      let last : at ≡ end = omega (arith, are.within) in
      record {
        rest = are.way;
        goes_on = subst (λ m. WalksOn m (IsPossible points) start are.way) last are.goes;
        count = omega (arith, whole, are.count);
        none_fewer = λ r goes. omega (arith, whole, are.fewest 0 (λ i r order goes. omega arith) r goes);
      }

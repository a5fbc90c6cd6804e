-- Which points are vertices of polygons of fewest segments: those up to the farthest after so many.
use Rattle.std.proofs.Common.{◌≡◌, ℕ, zero, suc, ◌+◌, ◌-◌, ◌<◌, ◌≤◌, List, subst, inl, inr, arith}
use Rattle.std.proofs.lemmas.Bool.{cases_lt}
use Rattle.std.specs.Prelude.{slice_index}
use Rattle.least_walk.specs.Inner.MarkedPlaces.{ComesBy, IsPlace}
use Rattle.least_walk.proofs.Places.{all_reached, place_after, stands_after}
use Rattle.polygon_search.specs.Inner.Lasts.{IsUpToLast}
use Rattle.polygon_search.specs.Inner.Search.{AreFarthest}
use Rattle.polygon_search.proofs.Counting.{AreCounted, before_end, rises}

module _ (size : ℕ) (lasts counts : List ℕ) (known : AreCounted size lasts counts) (farthest : List ℕ)
    (are : AreFarthest size lasts counts (slice_index counts 0) farthest) where
  -- the point isn't beyond the farthest after as many segments
  abbrev pub IsInWindow : ℕ → Type 0
  IsInWindow i = i ≤ slice_index farthest (slice_index counts 0 - slice_index counts i)

  pub count_most : (i : ℕ) → i ≤ size → slice_index counts i ≤ slice_index counts 0
  count_most i within = known.falling 0 i (omega arith) (omega arith) within

  comes_farthest : (c : ℕ) → c ≤ slice_index counts 0 → ComesBy (IsUpToLast lasts) c (slice_index farthest c)
  comes_farthest zero few = are.first
  comes_farthest (suc c) few =
      let at : ℕ = slice_index farthest c in
      let left = are.left c (omega arith) in
      let below = before_end size lasts counts known at (are.within c (omega arith)) (omega arith) in
      let e : c + 1 ≡ suc c = omega arith in
      let is : slice_index farthest (suc c) ≡ slice_index lasts at = subst (λ n. slice_index farthest n ≡ slice_index lasts at) e (are.onwards c (omega arith)) in
      let on = (known.leads at below).beyond in
      (at, omega arith, (omega arith, omega arith), comes_farthest c (omega arith))

  comes : (c i : ℕ) → i ≤ size → slice_index counts i + c ≡ slice_index counts 0 → i ≤ slice_index farthest c → ComesBy (IsUpToLast lasts) c i
  comes zero i within count near = omega (arith, are.first)
  comes (suc c) i within count near =
      let at : ℕ = slice_index farthest c in
      let left = are.left c (omega arith) in
      let e : c + 1 ≡ suc c = omega arith in
      let is : slice_index farthest (suc c) ≡ slice_index lasts at = subst (λ n. slice_index farthest n ≡ slice_index lasts at) e (are.onwards c (omega arith)) in
      elim (cases_lt at i) [
        | inl beyond ↦ (at, beyond, (beyond, omega arith), comes_farthest c (omega arith))
        | inr short ↦ absurd (omega (arith, known.falling i at (omega arith) short (are.within c (omega arith))))
      ]

  pub place_in_window : (i : ℕ) → i ≤ size → IsInWindow i → IsPlace size (IsUpToLast lasts) i
  place_in_window i within inside =
      let most = count_most i within in
      let c : ℕ = slice_index counts 0 - slice_index counts i in (
        c,
        place_after size (IsUpToLast lasts) counts known.fewest c i (record {
          comes = comes c i within (omega arith) inside;
          within = within;
          count = omega arith;
        }),
      )

  -- the segments that keep to the fewest lead from window to window
  onward : (i k : ℕ) → i < size → IsInWindow i → i < k → k ≤ size → IsUpToLast lasts i k
      → slice_index counts k + 1 ≡ slice_index counts i → IsInWindow k
  onward i k below inside above within allowed keeps =
      let most = count_most i (omega arith) in
      let c : ℕ = slice_index counts 0 - slice_index counts i in
      let at : ℕ = slice_index farthest c in
      let left = are.left c (omega arith) in
      let at_below = before_end size lasts counts known at (are.within c (omega arith)) (omega arith) in
      let e : i + (at - i) ≡ at = omega arith in
      let rise : slice_index lasts i ≤ slice_index lasts at =
      subst (λ n. slice_index lasts i ≤ slice_index lasts n) e (rises size lasts known.leads known.rising (at - i) i (omega arith)) in
      let next : c + 1 ≡ slice_index counts 0 - slice_index counts k = omega arith in
      let is = are.onwards c (omega arith) in
      subst (λ n. k ≤ slice_index farthest n) next (omega (arith, allowed.1))

  pub in_window : (i : ℕ) → i ≤ size → IsPlace size (IsUpToLast lasts) i → IsInWindow i
  in_window i within place =
      all_reached size (IsUpToLast lasts) counts known.fewest IsInWindow (omega arith) onward place.0 i
      (stands_after size (IsUpToLast lasts) counts known.fewest place.0 i place.1)

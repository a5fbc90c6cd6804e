-- The fewest segments to the end, where the longest segments rise.
use Rattle.std.proofs.Common.{◌≡◌, ℕ, zero, suc, ◌+◌, ◌-◌, ◌<◌, ◌≤◌, List, [], length, refl, sym, ◌∙◌, subst, ap, set, get_or, get_or-set_same, inl, inr, arith}
use Rattle.std.proofs.lemmas.List.{get_or_default, get_or-replicate, get_or-set_other, length-replicate, length-set}
use Rattle.std.proofs.lemmas.Bool.{cases_eq, cases_lt}
use Rattle.std.specs.Prelude.{slice_index}
use Rattle.least_walk.specs.Inner.Suffix.{HasFewest, IsFewestFrom}
use Rattle.least_walk.proofs.Filling.{filled}
use Rattle.least_walk.proofs.Going.{fewest_below}
use Rattle.least_walk.proofs.Onward.{count_bound, fewest_onward, some_fewest}
use Rattle.polygon_search.specs.Inner.Lasts.{AreRising, IsUpToLast, LeadsOn}
use Rattle.polygon_search.specs.Inner.Search.{AreFalling, counts_after, counts_of}

module _ (size : ℕ) (lasts : List ℕ) (leads : (i : ℕ) → i < size → LeadsOn size i (slice_index lasts i))
    (rising : AreRising size lasts) where
  pub rises : (d i : ℕ) → i + d < size → slice_index lasts i ≤ slice_index lasts (i + d)
  rises zero i below = let e : i + 0 ≡ i = omega arith in omega (arith, ap (slice_index lasts) e)
  rises (suc d) i below =
      let e : i + d + 1 ≡ i + suc d = omega arith in
      omega (arith, rises d i (omega arith), rising (i + d) (omega arith), ap (slice_index lasts) e)

  -- the segments from i and from each later point
  module _ (counts : List ℕ) (i : ℕ) (below : i < size) (fewest : HasFewest size (IsUpToLast lasts) (i + 1) counts)
      (falling : AreFalling size (i + 1) counts) where
    abbrev here : ℕ
    here = slice_index counts (slice_index lasts i) + 1

    -- the longest one leaves the fewest
    fewest_here : IsFewestFrom size (IsUpToLast lasts) i here
    fewest_here =
        let on = leads i below in
        fewest_onward size (IsUpToLast lasts) counts i here below fewest
        (λ k onwards within allowed. omega (arith, falling k (slice_index lasts i) (omega arith) allowed.1 on.within))
        (slice_index lasts i) on.beyond on.within (on.beyond, omega arith) refl

    here_most : (k : ℕ) → i < k → k ≤ size → slice_index counts k ≤ here
    here_most k onwards within =
        let on = leads i below in
        let first = falling (i + 1) k (omega arith) (omega arith) within in
        elim (cases_lt (i + 1) (slice_index lasts i)) [
          | inl beyond ↦
              let inside : i + 1 < size = omega (arith, on.within) in
              let bound = count_bound size (IsUpToLast lasts) counts (i + 1) inside fewest (slice_index lasts i) beyond on.within
              (beyond, rising i inside) in
              omega arith
          | inr near ↦
              let same : slice_index lasts i ≡ i + 1 = omega (arith, on.beyond) in
              omega (arith, ap (slice_index counts) same)
        ]

    pub counts_more : i < length counts → HasFewest size (IsUpToLast lasts) i (set counts i here)
    counts_more room k above within =
        filled (λ k n. k ≤ size → IsFewestFrom size (IsUpToLast lasts) k n) counts i here room
        (λ within. fewest_here) (λ k onwards. fewest k (omega arith)) k above within

    pub falling_more : i < length counts → AreFalling size i (set counts i here)
    falling_more room j k above onwards within =
        elim (cases_eq j i) [
          | inl first ↦ elim (cases_eq k i) [
            | inl same ↦ omega (arith, ap (slice_index (set counts i here)) first, ap (slice_index (set counts i here)) same)
            | inr later ↦ omega (
              arith,
              ap (slice_index (set counts i here)) first,
              get_or-set_same counts i here 0 room,
              get_or-set_other counts i k here 0 later,
              here_most k (omega arith) within,
            )
          ]
          | inr later ↦ omega (
            arith,
            get_or-set_other counts i j here 0 later,
            get_or-set_other counts i k here 0 (λ same. omega arith),
            falling j k (omega arith) onwards within,
          )
        ]

  length-counts_after : (done : ℕ) → length (counts_after size lasts done) ≡ size + 1
  length-counts_after zero = (let none : ℕ = 0 in length-replicate (size + 1) none)
  length-counts_after (suc done) = length-set (counts_after size lasts done) _ _ ∙ length-counts_after done

  counts_after_are : (done : ℕ) → done ≤ size
      → HasFewest size (IsUpToLast lasts) (size - done) (counts_after size lasts done) × AreFalling size (size - done) (counts_after size lasts done)
  counts_after_are zero few =
      let at_end : (k : ℕ) → k ≤ size → slice_index (counts_after size lasts 0) k ≡ 0 = λ k within. get_or-replicate (size + 1) k 0 0 (omega arith) in (
        λ k above within. record {
          rest = [];
          goes_on = omega arith;
          count = sym (at_end k within);
          none_fewer = λ other goes. omega (arith, at_end k within);
        },
        λ j k above onwards within. omega (arith, at_end j (omega arith), at_end k within),
      )
  counts_after_are (suc done) few =
      let i : ℕ = size - suc done in
      let later = counts_after_are done (omega arith) in
      let e : size - done ≡ i + 1 = omega arith in
      let room : i < length (counts_after size lasts done) = omega (arith, length-counts_after done) in
      let fewest = subst (λ n. HasFewest size (IsUpToLast lasts) n (counts_after size lasts done)) e later.0 in
      let falling = subst (λ n. AreFalling size n (counts_after size lasts done)) e later.1 in (
        counts_more (counts_after size lasts done) i (omega arith) fewest falling room,
        falling_more (counts_after size lasts done) i (omega arith) fewest falling room,
      )

  pub counts_fewest : HasFewest size (IsUpToLast lasts) 0 (counts_of size lasts)
  counts_fewest = let e : size - size ≡ 0 = omega arith in
      subst (λ n. HasFewest size (IsUpToLast lasts) n (counts_of size lasts)) e (counts_after_are size (omega arith)).0

  pub counts_falling : AreFalling size 0 (counts_of size lasts)
  counts_falling = let e : size - size ≡ 0 = omega arith in
      subst (λ n. AreFalling size n (counts_of size lasts)) e (counts_after_are size (omega arith)).1

-- what is known of how far the segments of a path reach, and of the fewest segments from each point to the end
pub record AreCounted (size : ℕ) (lasts counts : List ℕ) : Type 0 where
  pub leads : (i : ℕ) → i < size → LeadsOn size i (slice_index lasts i)
  pub rising : AreRising size lasts
  pub fewest : HasFewest size (IsUpToLast lasts) 0 counts
  pub falling : AreFalling size 0 counts

pub counted : (size : ℕ) (lasts : List ℕ) → ((i : ℕ) → i < size → LeadsOn size i (slice_index lasts i)) → AreRising size lasts
    → AreCounted size lasts (counts_of size lasts)
counted size lasts leads rising = record {
  leads = leads;
  rising = rising;
  fewest = counts_fewest size lasts leads rising;
  falling = counts_falling size lasts leads rising;
}

-- where the longest segment from a point leads, which was looked up
pub last_of : (lasts : List ℕ) (from last : ℕ) → from < length lasts → last ≡ get_or lasts from last → last ≡ slice_index lasts from
last_of lasts from last there is = is ∙ get_or_default lasts from last 0 there

module _ (size : ℕ) (lasts counts : List ℕ) (known : AreCounted size lasts counts) where
  from_here : (i : ℕ) → HasFewest size (IsUpToLast lasts) i counts
  from_here i k above within = known.fewest k (omega arith) within

  -- the longest segment leaves one fewer
  pub last_keeps : (i : ℕ) → i < size → slice_index counts (slice_index lasts i) + 1 ≡ slice_index counts i
  last_keeps i below =
      let on = known.leads i below in
      let bound = count_bound size (IsUpToLast lasts) counts i below (from_here i) (slice_index lasts i) on.beyond on.within (on.beyond, omega arith) in
      let (j, onwards, within, allowed, keeps) = some_fewest size (IsUpToLast lasts) counts i below (from_here i) in
      omega (arith, known.falling j (slice_index lasts i) (omega arith) allowed.1 on.within)

  pub some_left : (i : ℕ) → i < size → 0 < slice_index counts i
  some_left i below = omega (arith, last_keeps i below)

  pub none_left : slice_index counts size ≡ 0
  none_left = omega (arith, fewest_below size (IsUpToLast lasts) size (slice_index counts size) (known.fewest size (omega arith) (omega arith)))

  pub before_end : (i : ℕ) → i ≤ size → 0 < slice_index counts i → i < size
  before_end i within some = omega (arith, fewest_below size (IsUpToLast lasts) i (slice_index counts i) (known.fewest i (omega arith) within))

use Rattle.std.proofs.Common.{◌≡◌, ℕ, zero, suc, ◌+◌, ◌-◌, ◌<◌, ◌≤◌, inl, inr, List, length, sym, subst, arith}
use Rattle.std.proofs.lemmas.Bool.{cases_eq}
use Rattle.std.specs.Prelude.{slice_index}
use Rattle.pt_core.specs.ClosedWalk.{IsClosedWalk}
use Rattle.pt_core.specs.declared.point.Point.{Point}
use Rattle.path_cones.specs.Straight.{IsFarthest}
use Rattle.path_cones.specs.Inner.Tails.{AreStraight}
use Rattle.straight_paths.proofs.Far.{at_least_three, farthest}
use Rattle.path_cones.proofs.Written.{whole}
use Rattle.straight_paths.proofs.reach.Reach.into_steps.Goals as goal

module _ (points : List Point) (steps : List ℕ) (closed : IsClosedWalk points) (are : AreStraight points steps) where
  three : (k : ℕ) → k < length steps → 3 ≤ slice_index steps k
  three k below =
      let within : k < length points = omega (arith, are.places) in
      elim (cases_eq (k + 1) (length points)) [
        | inl last ↦ at_least_three points 0 k (slice_index steps k) closed (within, inl (omega arith)) (are.straight k within)
        | inr more ↦ at_least_three points (k + 1) k (slice_index steps k) closed (within, inr (omega arith)) (are.straight k within)
      ]

  -- the numbers that stand one place later, less two
  module _ (new : List ℕ) (first : slice_index new 0 ≡ slice_index steps (length steps - 1) - 2)
      (later : (k : ℕ) → k + 1 < length steps → slice_index new (k + 1) ≡ slice_index steps k - 2) where
    farthest_from : (i : ℕ) → i < length points → IsFarthest points i (slice_index new i)
    farthest_from zero below =
        let k : ℕ = length steps - 1 in
        let within : k < length points = omega (arith, are.places, closed.least) in
        subst (IsFarthest points 0) (sym first)
        (farthest points 0 k (slice_index steps k) closed (within, inl (omega (arith, are.places))) (are.straight k within))
    farthest_from (suc k) below =
        let e : k + 1 ≡ suc k = omega arith in
        let within : k < length points = omega arith in
        let P : ℕ → Type 0 = λ i. IsFarthest points i (slice_index new i) in
        subst P e
        (subst (IsFarthest points (k + 1)) (sym (later k (omega (arith, are.places))))
        (farthest points (k + 1) k (slice_index steps k) closed (within, inr (omega arith)) (are.straight k within)))

    some_from : (i : ℕ) → i < length points → 1 ≤ slice_index new i
    some_from zero below = omega (arith, first, three (length steps - 1) (omega (arith, are.places)))
    some_from (suc k) below =
        let e : k + 1 ≡ suc k = omega arith in
        let P : ℕ → Type 0 = λ i. 1 ≤ slice_index new i in
        subst P e (omega (arith, later k (omega (arith, are.places)), three k (omega (arith, are.places))))

pub move_on-requires-clause-two : goal.move_on-requires-clause-two
move_on-requires-clause-two c =
    let P : List ℕ → Type 0 = λ xs. (k : ℕ) → k < length xs → 2 ≤ slice_index xs k in
    subst P (sym c.deref_mut.ensures.value)
    (λ k below. omega (arith, three c.self.inside.track c.self.inside.straight.items c.self.invariant.closed c.self.invariant.straight k below))

pub returns-clause-farthest : goal.returns-clause-farthest
returns-clause-farthest c =
    let items = c.self.inside.straight.items in
    let new = c.move_on.new.steps in
    let same = whole new _ c.self.inside.straight.len (omega (arith, c.deref_mut.ensures.len, c.move_on.ensures.places)) in
    let First : List ℕ → Type 0 = λ xs. slice_index new 0 ≡ slice_index xs (length xs - 1) - 2 in
    let Later : List ℕ → Type 0 = λ xs. (k : ℕ) → k + 1 < length xs → slice_index new (k + 1) ≡ slice_index xs k - 2 in
    let P : List Point → Type 0 = λ points. (i : ℕ) → i < length points → IsFarthest points i (slice_index new i) in
    let Q : List ℕ → Type 0 = λ xs. (i : ℕ) → i < length c.args.self → IsFarthest c.args.self i (slice_index xs i) in
    subst Q (sym same) (subst P c.self.view_is
    (farthest_from c.self.inside.track items c.self.invariant.closed c.self.invariant.straight new
    (subst First c.deref_mut.ensures.value c.move_on.ensures.first) (subst Later c.deref_mut.ensures.value c.move_on.ensures.later)))

pub returns-clause-some : goal.returns-clause-some
returns-clause-some c =
    let items = c.self.inside.straight.items in
    let new = c.move_on.new.steps in
    let same = whole new _ c.self.inside.straight.len (omega (arith, c.deref_mut.ensures.len, c.move_on.ensures.places)) in
    let First : List ℕ → Type 0 = λ xs. slice_index new 0 ≡ slice_index xs (length xs - 1) - 2 in
    let Later : List ℕ → Type 0 = λ xs. (k : ℕ) → k + 1 < length xs → slice_index new (k + 1) ≡ slice_index xs k - 2 in
    let P : List Point → Type 0 = λ points. (i : ℕ) → i < length points → 1 ≤ slice_index new i in
    let Q : List ℕ → Type 0 = λ xs. (i : ℕ) → i < length c.args.self → 1 ≤ slice_index xs i in
    subst Q (sym same) (subst P c.self.view_is
    (some_from c.self.inside.track items c.self.invariant.closed c.self.invariant.straight new
    (subst First c.deref_mut.ensures.value c.move_on.ensures.first) (subst Later c.deref_mut.ensures.value c.move_on.ensures.later)))

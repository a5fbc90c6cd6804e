-- Where a step is taken next, from one index earlier.
use Rattle.std.proofs.Common.{◌≡◌, ◌≢◌, ◌⊎◌, inl, inr, ℕ, zero, suc, ◌+◌, ◌<◌, ◌≤◌, ℤ, pos, negsuc, max, List, refl, sym, ap, ◌∙◌, subst, arith}
use Rattle.std.proofs.lemmas.Int.{ints}
use Rattle.pt_core.specs.ClosedWalk.{IsClosedWalk, IsUnitStep, point_at}
use Rattle.pt_core.specs.declared.point.Point.{Point}
use Rattle.path_cones.specs.Straight.{vector_of, Takes, path_from, east, north, west, south}
use Rattle.path_cones.specs.Inner.Tails.{IsAhead, IsIndexOf, IsNext, IsSooner, last_of}
use Rattle.path_cones.specs.declared.tail.Ahead.{Ahead}
use Rattle.path_cones.specs.declared.vector.Vector.{Vector}
use Rattle.path_cones.proofs.Cyclic.{rest_is}
use Rattle.path_cones.proofs.Decided.{same_z}
use Rattle.path_cones.proofs.Pieces.{rest_of, takes_later}

-- where the last of the four directions is taken first
abbrev pub four_taken : Ahead → ℕ
four_taken a = max (max a.east a.north) (max a.west a.south)

module _ (points : List Point) (last at : ℕ) (step : Vector) where
  next_here : vector_of (point_at points at) (point_at points (at + 1)) ≡ step → IsNext points last at step at
  next_here is =
      let e : at + 1 ≡ 1 + at = omega arith in
      let z : at ≡ 0 + at = omega arith in
      let P : ℕ → Type 0 = λ i. vector_of (point_at points at) (point_at points i) ≡ step in
      let Q : ℕ → Type 0 = λ i. vector_of (point_at points i) (point_at points (1 + at)) ≡ step in
      record {
        after = omega arith;
        taken = λ c h l. record { k = 0; early = omega arith; taken = subst Q z (subst P e is) };
        first = λ c h t. omega (arith, t.early);
      }

  taken_later : (later : ℕ) → IsNext points last (at + 1) step later → (c : ℕ) → at + c ≤ last → later < at + c
      → Takes (path_from points at) c step
  taken_later later n zero h l = absurd (omega (arith, n.after))
  taken_later later n (suc c) h l =
      let P : (ℕ → Point) → Type 0 = λ p. Takes p c step in
      takes_later (path_from points at) c step (subst P (rest_is points at) (n.taken c (omega arith) (omega arith)))

  first_later : (later : ℕ) → IsNext points last (at + 1) step later
      → ¬ (vector_of (point_at points at) (point_at points (at + 1)) ≡ step)
      → (c : ℕ) → at + c ≤ last → (k : ℕ) → k < c
      → vector_of (path_from points at k) (path_from points at (suc k)) ≡ step → later < at + c
  first_later later n not c h zero l is =
      let e : 1 + at ≡ at + 1 = omega arith in
      let z : 0 + at ≡ at = omega arith in
      let P : ℕ → Type 0 = λ i. vector_of (point_at points at) (point_at points i) ≡ step in
      let Q : ℕ → Type 0 = λ i. vector_of (point_at points i) (point_at points (1 + at)) ≡ step in
      absurd (not (subst P e (subst Q z is)))
  first_later later n not zero h (suc k) l is = absurd (omega arith)
  first_later later n not (suc c) h (suc k) l is =
      let P : (ℕ → Point) → Type 0 = λ p. Takes p c step in
      let t : P (rest_of (path_from points at)) = record { k = k; early = omega arith; taken = is } in
      let f = n.first c (omega arith) (subst P (sym (rest_is points at)) t) in
      omega arith

  next_later : (later : ℕ) → IsNext points last (at + 1) step later
      → ¬ (vector_of (point_at points at) (point_at points (at + 1)) ≡ step)
      → IsNext points last at step later
  next_later later n not = record {
    after = omega (arith, n.after);
    taken = taken_later later n;
    first = λ c h t. first_later later n not c h t.k t.early t.taken;
  }

-- the index is here where the step here is the wanted one, and else the later one
pub next_index : (points : List Point) (last at : ℕ) (wanted step : Vector) (later index : ℕ)
    → step ≡ vector_of (point_at points at) (point_at points (at + 1))
    → (step ≢ wanted → IsNext points last at wanted later)
    → ((step ≡ wanted) × (index ≡ at)) ⊎ ((step ≢ wanted) × (index ≡ later))
    → IsNext points last at wanted index
next_index points last at wanted step later index is rest which =
    let P : ℕ → Type 0 = IsNext points last at wanted in
    let Q : Vector → Type 0 = λ s. s ≡ wanted in
    elim which [
      | inl h ↦ subst P (sym h.1) (next_here points last at wanted (subst Q is h.0))
      | inr h ↦ subst P (sym h.1) (rest h.0)
    ]

vector_same : (o r : Vector) → o.x ≡ r.x → o.y ≡ r.y → o ≡ r
vector_same o r x y = ap (λ v. record { x = v; y = o.y }) x ∙ ap (λ v. record { x = r.x; y = v }) y

-- a unit step along its row
unit_in_row : (p q : Point) (wanted : Vector) → ¬ (wanted.x ≡ pos 0) → wanted.y ≡ pos 0 → IsUnitStep p q
    → (vector_of p q).x ≡ wanted.x → vector_of p q ≡ wanted
unit_in_row p q wanted goes level unit same =
    elim unit [
      | inl row ↦ vector_same (vector_of p q) wanted same (let e = row.0 in omega (arith, ints))
      | inr column ↦ absurd (goes (let e = column.0 in omega (arith, ints)))
    ]

unit_in_column : (p q : Point) (wanted : Vector) → ¬ (wanted.y ≡ pos 0) → wanted.x ≡ pos 0 → IsUnitStep p q
    → (vector_of p q).y ≡ wanted.y → vector_of p q ≡ wanted
unit_in_column p q wanted goes upright unit same =
    elim unit [
      | inl row ↦ absurd (goes (let e = row.0 in omega (arith, ints)))
      | inr column ↦ vector_same (vector_of p q) wanted (let e = column.0 in omega (arith, ints)) same
    ]

-- the same where one coordinate tells which step it is
module _ (points : List Point) (walk : IsClosedWalk points) (last at : ℕ) (wanted step : Vector) (later index : ℕ)
    (is : step ≡ vector_of (point_at points at) (point_at points (at + 1))) (rest : step ≢ wanted → IsNext points last at wanted later) where
  unit_here : IsUnitStep (point_at points at) (point_at points (at + 1))
  unit_here =
      let e : suc at ≡ at + 1 = omega arith in
      let P : ℕ → Type 0 = λ k. IsUnitStep (point_at points at) (point_at points k) in
      subst P e (walk.steps at)

  next_in_row : ¬ (wanted.x ≡ pos 0) → wanted.y ≡ pos 0 → IsIndexOf step.x wanted.x at later index
      → IsNext points last at wanted index
  next_in_row goes level chosen =
      next_index points last at wanted step later index is rest (elim chosen [
        | inl here ↦ inl (is ∙ unit_in_row _ _ wanted goes level unit_here (sym (ap (λ o. o.x) is) ∙ here.0), here.1)
        | inr there ↦ inr (λ e. there.0 (ap (λ o. o.x) e), there.1)
      ])

  next_in_column : ¬ (wanted.y ≡ pos 0) → wanted.x ≡ pos 0 → IsIndexOf step.y wanted.y at later index
      → IsNext points last at wanted index
  next_in_column goes upright chosen =
      next_index points last at wanted step later index is rest (elim chosen [
        | inl here ↦ inl (is ∙ unit_in_column _ _ wanted goes upright unit_here (sym (ap (λ o. o.y) is) ∙ here.0), here.1)
        | inr there ↦ inr (λ e. there.0 (ap (λ o. o.y) e), there.1)
      ])

-- ---- all four directions

module _ (points : List Point) (walk : IsClosedWalk points) (at : ℕ) (ahead sooner : Ahead) (step : Vector)
    (is : step ≡ vector_of (point_at points at) (point_at points (at + 1))) (chosen : IsSooner ahead step at sooner) where
  looked_as_far : (wanted : Vector) (index : ℕ) → IsNext points ahead.last at wanted index → IsNext points sooner.last at wanted index
  looked_as_far wanted index = subst (λ (last : ℕ). IsNext points last at wanted index) (sym chosen.same_last)

  -- the directions that this step doesn't take are taken where it is said
  ahead_where : at ≤ ahead.last → ahead.last ≤ last_of points → (step ≢ east → IsNext points ahead.last at east ahead.east)
      → (step ≢ north → IsNext points ahead.last at north ahead.north) → (step ≢ west → IsNext points ahead.last at west ahead.west)
      → (step ≢ south → IsNext points ahead.last at south ahead.south) → IsAhead points at sooner
  ahead_where order within e n w s =
      let ahead_one : ¬ (pos 1 ≡ pos 0) = λ e. omega (arith, ints) in
      let back_one : ¬ (negsuc 0 ≡ pos 0) = λ e. omega (arith, ints) in
      let same = chosen.same_last in
      record {
        order = omega arith;
        within = omega arith;
        east = looked_as_far east sooner.east (next_in_row points walk ahead.last at east step _ _ is e ahead_one refl chosen.east);
        north = looked_as_far north sooner.north (next_in_column points walk ahead.last at north step _ _ is n ahead_one refl chosen.north);
        west = looked_as_far west sooner.west (next_in_row points walk ahead.last at west step _ _ is w back_one refl chosen.west);
        south = looked_as_far south sooner.south (next_in_column points walk ahead.last at south step _ _ is s back_one refl chosen.south);
      }

  else_later : (wanted : Vector) (index : ℕ) → IsNext points ahead.last (at + 1) wanted index → step ≢ wanted → IsNext points ahead.last at wanted index
  else_later wanted index n other = next_later points ahead.last at wanted index n (λ e. other (is ∙ e))

  pub ahead_earlier : IsAhead points (at + 1) ahead → IsAhead points at sooner
  ahead_earlier n =
      ahead_where (omega (arith, n.order)) n.within
      (else_later east ahead.east n.east) (else_later north ahead.north n.north) (else_later west ahead.west n.west) (else_later south ahead.south n.south)

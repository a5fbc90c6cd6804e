-- Steps are told apart by how much they add to a mark.
use Rattle.std.proofs.Common.{◌≡◌, ◌≢◌, inl, inr, ℕ, ◌+◌, ◌≤◌, ℤ, pos, ◌+ℤ◌, ◌-ℤ◌, ◌*ℤ◌, unsigned_abs, w64, to_z, of_z, List, refl, sym, ◌∙◌, ap, arith}
use Rattle.std.proofs.lemmas.Int.{ints}
use Rattle.pt_core.proofs.Sizes.{back}
use Rattle.pt_core.specs.ClosedWalk.{IsClosedWalk, point_at}
use Rattle.pt_core.specs.declared.point.Point.{Point}
use Rattle.path_cones.specs.Corners.{step_from}
use Rattle.path_cones.specs.Straight.{vector_of}
use Rattle.path_cones.specs.Inner.Codes.{GoesByOne}
use Rattle.path_cones.specs.Inner.Corners.{mark_of, marked_by}
use Rattle.path_cones.specs.declared.vector.Vector.{Vector}
use Rattle.path_cones.proofs.Bounds.{same_vector}
use Rattle.path_cones.proofs.Coding.{goes_by_one}
use Rattle.path_cones.proofs.Turns.{other_steps, same_steps}

abbrev added : Vector → ℤ
added step = step.x +ℤ pos 2 *ℤ step.y

same_x : (a b : Vector) → GoesByOne a → GoesByOne b → added a ≡ added b → a.x ≡ b.x
same_x a b one other is = elim one [
  | inl u ↦ elim other [
    | inl v ↦ let e = u.0 in let f = v.0 in omega (arith, ints)
    | inr v ↦ let e = u.0 in let f = v.0 in elim u.1 [ inl g ↦ elim v.1 [ inl h ↦ omega (arith, ints) | inr h ↦ omega (arith, ints) ] | inr g ↦ elim v.1 [ inl h ↦ omega (arith, ints) | inr h ↦ omega (arith, ints) ] ]
  ]
  | inr u ↦ elim other [
    | inl v ↦ let e = u.0 in let f = v.0 in elim u.1 [ inl g ↦ elim v.1 [ inl h ↦ omega (arith, ints) | inr h ↦ omega (arith, ints) ] | inr g ↦ elim v.1 [ inl h ↦ omega (arith, ints) | inr h ↦ omega (arith, ints) ] ]
    | inr v ↦ let e = u.0 in let f = v.0 in omega (arith, ints)
  ]
]

same_step : (a b : Vector) → GoesByOne a → GoesByOne b → added a ≡ added b → a ≡ b
same_step a b one other is =
    let x = same_x a b one other is in
    same_vector a.x a.y b.x b.y x (omega (arith, ints))

module _ (points : List Point) (index : ℕ) (closed : IsClosedWalk points) where
  abbrev here : ℕ → Vector
  here i = vector_of (point_at points i) (point_at points (i + 1))

  adds : (i : ℕ) → added (here i) ≡ marked_by points i
  adds i = omega (arith, ints)

  pub same_marks : marked_by points index ≡ marked_by points (index + 1) → step_from (point_at points) index ≡ step_from (point_at points) (index + 1)
  same_marks is = same_steps points index (index + 1) (here index) (here (index + 1)) refl refl
      (same_step (here index) (here (index + 1)) (goes_by_one points index (here index) closed refl) (goes_by_one points (index + 1) (here (index + 1)) closed refl)
      (adds index ∙ is ∙ sym (adds (index + 1))))

  pub other_marks : marked_by points index ≢ marked_by points (index + 1) → step_from (point_at points) index ≢ step_from (point_at points) (index + 1)
  other_marks not = other_steps points index (index + 1) (here index) (here (index + 1)) refl refl
      (λ e. not (sym (adds index) ∙ ap added e ∙ adds (index + 1)))

-- a mark is passed as it is
pub mark_back : (z : ℤ) → unsigned_abs z ≤ 8589934592 → to_z w64 (of_z w64 z) ≡ z
mark_back z h = back z (omega arith)

-- what a step adds, by the marks of its two points
pub step_marked : (points : List Point) (index next : ℕ) (there here : ℤ) → next ≡ index + 1 → there ≡ mark_of (point_at points next) → here ≡ mark_of (point_at points index)
    → unsigned_abs there ≤ 8589934592 → unsigned_abs here ≤ 8589934592 → to_z w64 (of_z w64 (there -ℤ to_z w64 (of_z w64 here))) ≡ marked_by points index
step_marked points index next there here e there_is here_is a b =
    rw (mark_back here b) (back (there -ℤ here) (omega (arith, ints)))
    ∙ ap (λ (z : ℤ). z -ℤ here) there_is
    ∙ ap (λ (z : ℤ). mark_of (point_at points next) -ℤ z) here_is
    ∙ ap (λ n. mark_of (point_at points n) -ℤ mark_of (point_at points index)) e

-- What a code says of a path's next steps.
use Rattle.std.proofs.Common.{◌≡◌, ℕ, zero, suc, ◌+◌, ◌*◌, ◌/◌, ◌%◌, ◌<◌, ◌≤◌, List, inl, inr, sym, ◌∙◌, ap, subst, arith}
use Rattle.std.proofs.lemmas.Int.{ints}
use Rattle.std.proofs.lemmas.Nat.{div-add-mod', mod-mul-add, mod_below}
use Rattle.pt_core.specs.ClosedWalk.{IsClosedWalk, IsUnitStep, point_at}
use Rattle.pt_core.specs.declared.point.Point.{Point}
use Rattle.path_cones.specs.Inner.Codes.{GoesByOne, IsCoded, coded_step}
use Rattle.path_cones.specs.Inner.Cones.{IsShort}
use Rattle.path_cones.specs.Corners.{step_from}
use Rattle.path_cones.specs.Straight.{vector_of}
use Rattle.path_cones.specs.declared.vector.Vector.{Vector}
use Rattle.path_cones.proofs.Pieces.{rest_of}

-- ---- a step in front, and the last ones left out

-- there are so many codes of so many steps
abbrev pub four_to : ℕ → ℕ
four_to zero = 1
four_to (suc n) = 4 * four_to n

module _ (code m : ℕ) (some : 0 < m) where
  below : code % (4 * m) < 4 * m
  below = mod_below code (4 * m) (omega arith)

  whole : 4 * (m * (code / (4 * m))) + code % (4 * m) ≡ code
  whole =
      let q = code / (4 * m) in
      let e : 4 * (m * q) ≡ q * (4 * m) = omega arith in
      ap (λ n. n + code % (4 * m)) e ∙ div-add-mod' code (4 * m)

  lowest : code % (4 * m) % 4 ≡ code % 4
  lowest = let p = m * (code / (4 * m)) in let r = code % (4 * m) in let w : 4 * p + r ≡ code = whole in omega arith

  others : code % (4 * m) / 4 ≡ code / 4 % m
  others =
      let q = code / (4 * m) in
      let p = m * q in
      let r = code % (4 * m) in
      let w : 4 * p + r ≡ code = whole in
      let b = below in
      let e : code / 4 ≡ p + r / 4 = omega arith in
      let f : p + r / 4 ≡ q * m + r / 4 = omega arith in
      sym (ap (λ n. n % m) (e ∙ f) ∙ mod-mul-add q m (r / 4) (omega arith))

some_codes : (n : ℕ) → 0 < four_to n
some_codes zero = omega arith
some_codes (suc n) = let h = some_codes n in omega arith

-- the digits behind those of so many steps may be left out
pub coded_cut : (count most : ℕ) (path : ℕ → Point) (code : ℕ) → count ≤ most → IsCoded count path code → IsCoded count path (code % four_to most)
coded_cut zero most path code few coded = tt
coded_cut (suc count) zero path code few coded = absurd (omega arith)
coded_cut (suc count) (suc most) path code few coded =
    let m = four_to most in
    let some = some_codes most in (
      subst (λ d. step_from path 0 ≡ coded_step d) (sym (lowest code m some)) coded.0,
      subst (IsCoded count (rest_of path)) (sym (others code m some)) (coded_cut count most (rest_of path) (code / 4) (omega arith) coded.1),
    )

pub coded_uncut : (count most : ℕ) (path : ℕ → Point) (code : ℕ) → count ≤ most → IsCoded count path (code % four_to most) → IsCoded count path code
coded_uncut zero most path code few coded = tt
coded_uncut (suc count) zero path code few coded = absurd (omega arith)
coded_uncut (suc count) (suc most) path code few coded =
    let m = four_to most in
    let some = some_codes most in (
      subst (λ d. step_from path 0 ≡ coded_step d) (lowest code m some) coded.0,
      coded_uncut count most (rest_of path) (code / 4) (omega arith) (subst (IsCoded count (rest_of path)) (others code m some) coded.1),
    )

pub coded_earlier : (path : ℕ → Point) (count : ℕ) (step : Vector) (digit digits : ℕ) → digit < 4 → step ≡ coded_step digit
    → step ≡ step_from path 0 → IsCoded count (rest_of path) digits → IsCoded (suc count) path (digit + 4 * digits)
coded_earlier path count step digit digits small into is coded =
    let a : digit ≡ (digit + 4 * digits) % 4 = omega arith in
    let b : digits ≡ (digit + 4 * digits) / 4 = omega arith in
    (sym is ∙ into ∙ ap coded_step a, subst (IsCoded count (rest_of path)) b coded)

-- ---- along a closed walk

one_over : (p q : Point) → IsUnitStep p q → GoesByOne (vector_of p q)
one_over p q step = elim step [
  | inl row ↦ let level = row.0 in inr (
    omega (arith, ints, level),
    elim row.1 [
      | inl on ↦ inl (omega (arith, ints, on))
      | inr back ↦ inr (omega (arith, ints, back))
    ],
  )
  | inr column ↦ let upright = column.0 in inl (
    omega (arith, ints, upright),
    elim column.1 [
      | inl on ↦ inl (omega (arith, ints, on))
      | inr back ↦ inr (omega (arith, ints, back))
    ],
  )
]

pub goes_by_one : (points : List Point) (index : ℕ) (step : Vector) → IsClosedWalk points
    → step ≡ vector_of (point_at points index) (point_at points (index + 1)) → GoesByOne step
goes_by_one points index step closed is =
    let e : suc index ≡ index + 1 = omega arith in
    subst GoesByOne (sym is)
    (subst (λ n. GoesByOne (vector_of (point_at points index) (point_at points n))) e
    (one_over (point_at points index) (point_at points (suc index)) (closed.steps index)))

unit_short : (p q : Point) → IsUnitStep p q → IsShort 1 (vector_of p q)
unit_short p q step = elim step [
  | inl row ↦ elim row.1 [
    | inl e ↦ let same = row.0 in record { x = omega (arith, ints); y = omega (arith, ints) }
    | inr e ↦ let same = row.0 in record { x = omega (arith, ints); y = omega (arith, ints) }
  ]
  | inr column ↦ elim column.1 [
    | inl e ↦ let same = column.0 in record { x = omega (arith, ints); y = omega (arith, ints) }
    | inr e ↦ let same = column.0 in record { x = omega (arith, ints); y = omega (arith, ints) }
  ]
]

pub step_short : (points : List Point) (index : ℕ) (step : Vector) → IsClosedWalk points
    → step ≡ vector_of (point_at points index) (point_at points (index + 1)) → IsShort 1 step
step_short points index step closed is =
    let e : suc index ≡ index + 1 = omega arith in
    subst (IsShort 1) (sym is)
    (subst (λ n. IsShort 1 (vector_of (point_at points index) (point_at points n))) e
    (unit_short (point_at points index) (point_at points (suc index)) (closed.steps index)))

-- What a step more comes to.
use Rattle.std.proofs.Common.{◌≡◌, ◌↔◌, unsigned_abs, Bool, true, false, ℕ, zero, suc, ◌+◌, ◌-◌, ◌<◌, ◌≤◌, ℤ, pos, inl, inr, refl, sym, ◌∙◌, ap, subst, IsTrue, arith}
use Rattle.std.proofs.lemmas.Bool.{cases_eq, false≢true}
use Rattle.std.proofs.lemmas.Int.{ints}
use Rattle.pt_core.specs.declared.point.Point.{Point}
use Rattle.path_cones.specs.Inner.Codes.{beyond, coded_step}
use Rattle.path_cones.specs.Inner.Cones.{HoldsWay}
use Rattle.path_cones.specs.Inner.Corners.{GoesStraight}
use Rattle.path_cones.specs.Corners.{step_from}
use Rattle.straight_paths.specs.Inner.Courses.{HasCourse, cone_of, wide_of}
use Rattle.path_cones.specs.Straight.{IsNear, IsStraight, Takes, TakesAllFour}
use Rattle.path_cones.specs.Inner.Tails.{way_along}
use Rattle.straight_paths.specs.Inner.NextSteps.{AreTaken}
use Rattle.straight_paths.specs.declared.course.Course.{Course}
use Rattle.path_cones.specs.declared.vector.Vector.{Vector}
use Rattle.path_cones.proofs.Clear.{next_clear, next_holds}
use Rattle.path_cones.proofs.Pieces.{is_clear, rest_of, takes_more, with_first}

same_vector : (a b : Vector) → a.x ≡ b.x → a.y ≡ b.y → a ≡ b
same_vector a b x y = let v : ℤ → ℤ → Vector = λ x y. record { x = x; y = y } in ap (λ z. v z a.y) x ∙ ap (v b.x) y

-- ---- which directions are taken

takes_here : (path : ℕ → Point) (count : ℕ) (step : Vector) → step_from path count ≡ step → Takes path (count + 1) step
takes_here path count step is = record { k = count; early = omega arith; taken = is }

takes_before : (path : ℕ → Point) (count : ℕ) (step : Vector) → ¬ (step_from path count ≡ step) → Takes path (count + 1) step → Takes path count step
takes_before path count step not t = elim (cases_eq t.k count) [
  | inl same ↦ absurd (not (subst (λ k. step_from path k ≡ step) same t.taken))
  | inr other ↦ record { k = t.k; early = (let h = t.early in omega arith); taken = t.taken }
]

-- a direction that isn't the step's, and the one that is
pub flag_stays : (path : ℕ → Point) (count : ℕ) (flag : Bool) (step other : Vector) → step_from path count ≡ step → ¬ (step ≡ other)
    → IsTrue flag ↔ Takes path count other → IsTrue flag ↔ Takes path (count + 1) other
flag_stays path count flag step other is not taken = (
  λ h. takes_more path count (count + 1) other (omega arith) (taken.0 h),
  λ t. taken.1 (takes_before path count other (λ e. not (sym is ∙ e)) t),
)

pub flag_set : (path : ℕ → Point) (count : ℕ) (step : Vector) → step_from path count ≡ step → IsTrue true ↔ Takes path (count + 1) step
flag_set path count step is = (λ h. takes_here path count step is, λ t. refl)

pub steps_apart : (a b : ℕ) → a < 4 → b < 4 → ¬ (a ≡ b) → ¬ (coded_step a ≡ coded_step b)
steps_apart zero zero low few apart e = apart refl
steps_apart zero (suc zero) low few apart e = let f = ap (λ (v : Vector). v.x) e in omega (arith, ints, f)
steps_apart zero (suc (suc zero)) low few apart e = let f = ap (λ (v : Vector). v.x) e in omega (arith, ints, f)
steps_apart zero (suc (suc (suc b))) low few apart e = let f = ap (λ (v : Vector). v.x) e in omega (arith, ints, f)
steps_apart (suc zero) zero low few apart e = let f = ap (λ (v : Vector). v.x) e in omega (arith, ints, f)
steps_apart (suc zero) (suc zero) low few apart e = apart refl
steps_apart (suc zero) (suc (suc zero)) low few apart e = let f = ap (λ (v : Vector). v.x) e in omega (arith, ints, f)
steps_apart (suc zero) (suc (suc (suc b))) low few apart e = let f = ap (λ (v : Vector). v.y) e in omega (arith, ints, f)
steps_apart (suc (suc zero)) zero low few apart e = let f = ap (λ (v : Vector). v.x) e in omega (arith, ints, f)
steps_apart (suc (suc zero)) (suc zero) low few apart e = let f = ap (λ (v : Vector). v.x) e in omega (arith, ints, f)
steps_apart (suc (suc zero)) (suc (suc zero)) low few apart e = apart refl
steps_apart (suc (suc zero)) (suc (suc (suc b))) low few apart e = let f = ap (λ (v : Vector). v.x) e in omega (arith, ints, f)
steps_apart (suc (suc (suc a))) zero low few apart e = let f = ap (λ (v : Vector). v.x) e in omega (arith, ints, f)
steps_apart (suc (suc (suc a))) (suc zero) low few apart e = let f = ap (λ (v : Vector). v.y) e in omega (arith, ints, f)
steps_apart (suc (suc (suc a))) (suc (suc zero)) low few apart e = let f = ap (λ (v : Vector). v.x) e in omega (arith, ints, f)
steps_apart (suc (suc (suc a))) (suc (suc (suc b))) low few apart e = apart (omega arith)

-- a direction's flag after a step more
pub flag_on : (path : ℕ → Point) (count : ℕ) (before after : Bool) (digit direction : ℕ) → digit < 4 → direction < 4
    → (digit ≡ direction → after ≡ true) → (¬ (digit ≡ direction) → after ≡ before) → step_from path count ≡ coded_step digit
    → IsTrue before ↔ Takes path count (coded_step direction) → IsTrue after ↔ Takes path (count + 1) (coded_step direction)
flag_on path count before after digit direction low few same other is taken =
    let P : Bool → Type 0 = λ flag. IsTrue flag ↔ Takes path (count + 1) (coded_step direction) in
    elim (cases_eq digit direction) [
      | inl e ↦ subst P (sym (same e)) (flag_set path count (coded_step direction) (is ∙ ap coded_step e))
      | inr n ↦ subst P (sym (other n)) (flag_stays path count before (coded_step digit) (coded_step direction) is (steps_apart digit direction low few n) taken)
    ]

pub nothing_taken : (path : ℕ → Point) (step : Vector) → IsTrue false ↔ Takes path 0 step
nothing_taken path step = (λ h. absurd (false≢true h), λ t. absurd (omega (arith, t.early)))

-- ---- one step more

one_run : (path : ℕ → Point) (s : ℕ) → GoesStraight path s (suc s - s)
one_run path s t low =
    let z : t ≡ 0 = omega arith in
    let e : s + t ≡ s = omega arith in
    ap (step_from path) e

pub way_on : (path : ℕ → Point) (count digit : ℕ) (way new : Vector) → way ≡ way_along path count → step_from path count ≡ coded_step digit
    → new ≡ beyond way digit → new ≡ way_along path (suc count)
way_on path count digit way new is step on =
    let sx = ap (λ (v : Vector). v.x) step in
    let sy = ap (λ (v : Vector). v.y) step in
    let wx = ap (λ (v : Vector). v.x) is in
    let wy = ap (λ (v : Vector). v.y) is in
    let nx = ap (λ (v : Vector). v.x) on in
    let ny = ap (λ (v : Vector). v.y) on in
    same_vector new (way_along path (suc count)) (omega (arith, ints, sx, wx, nx)) (omega (arith, ints, sy, wy, ny))

-- the course of the path's first steps, and one step more
module _ (path : ℕ → Point) (count digit : ℕ) (course : Course) (end : Vector) (step : step_from path count ≡ coded_step digit)
    (has : HasCourse path count course) (is : end ≡ beyond (wide_of course.way) digit) where
  pub end_is : end ≡ way_along path (suc count)
  end_is = way_on path count digit (wide_of course.way) end has.way step is

  pub straight_on : HoldsWay (cone_of course.cone) end → ¬ TakesAllFour path (suc count) → IsStraight path count → IsStraight (rest_of path) count
      → IsStraight path (suc count)
  straight_on held not straight rest =
      with_first path count not
      (next_clear path count (suc count) (cone_of course.cone) end end_is (omega arith) (one_run path count) has.near (is_clear path count straight) held) rest

  pub not_held : ¬ HoldsWay (cone_of course.cone) end → ¬ IsStraight path (suc count)
  not_held out straight =
      let near = has.near in
      let clear = is_clear path (suc count) straight in
      let held : HoldsWay (cone_of course.cone) (way_along path (suc count)) =
      near.all_held (way_along path (suc count)) (λ j some few. clear j (suc count) some (omega arith) (omega arith)) in
      out (subst (HoldsWay (cone_of course.cone)) (sym end_is) held)

  pub course_on : (new : Course) → wide_of new.way ≡ end
      → ((other : Vector) → HoldsWay (cone_of new.cone) other ↔ (HoldsWay (cone_of course.cone) other × IsNear end other))
      → AreTaken path (suc count) new.flags → HasCourse path (suc count) new
  course_on new way both taken = record {
    way = way ∙ end_is;
    near = next_holds path count (suc count) (cone_of course.cone) end end_is (omega arith) (one_run path count) has.near (cone_of new.cone) both;
    taken = taken;
  }

pub no_way : (path : ℕ → Point) → record { x = pos 0; y = pos 0 } ≡ way_along path 0
no_way path = same_vector (record { x = pos 0; y = pos 0 }) (way_along path 0) (omega (arith, ints)) (omega (arith, ints))

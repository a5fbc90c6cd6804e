-- The scan of the cones from one point, a straight run at a time.
use Rattle.std.proofs.Common.{◌≡◌, ◌⊎◌, ◌↔◌, inl, inr, ℕ, suc, ◌+◌, ◌-◌, ◌<◌, ◌≤◌, List, refl, sym, ◌∙◌, ap, subst, arith}
use Rattle.std.proofs.lemmas.Bool.{cases_lt}
use Rattle.pt_core.specs.ClosedWalk.{point_at}
use Rattle.pt_core.specs.declared.point.Point.{Point}
use Rattle.path_cones.specs.Straight.{vector_of, IsNear, path_from}
use Rattle.path_cones.specs.Inner.Cones.{HoldsNear, HoldsWay, IsClear}
use Rattle.path_cones.specs.Corners.{step_from, IsNextCorner}
use Rattle.path_cones.specs.Inner.Corners.{GoesStraight}
use Rattle.path_cones.specs.Inner.Tails.{IsClearUpTo, way_along}
use Rattle.path_cones.specs.declared.vector.Vector.{Vector}
use Rattle.path_cones.specs.declared.cone.Cone.{Cone}
use Rattle.path_cones.specs.declared.cone.Cone.TheVariants.{Open}
use Rattle.path_cones.proofs.Running.{run_clear, run_holds, run_ends}
use Rattle.path_cones.proofs.Turns.{straight_run}

-- the steps from a point of the path to the next corner are a run of the path
pub path_run : (points : List Point) (first s d r : ℕ) → IsNextCorner points (first + s) d → r ≤ d → GoesStraight (path_from points first) s r
path_run points first s d r next h t l =
    let here : (k : ℕ) → step_from (path_from points first) (s + k) ≡ step_from (point_at points) (first + s + k) =
    λ k.
    let e : s + k + first ≡ first + s + k = omega arith in
    let f : suc (s + k) + first ≡ suc (s + k + first) = omega arith in
    let P : ℕ → Type 0 = λ i. vector_of (point_at points (s + k + first)) (point_at points i) ≡ step_from (point_at points) (s + k + first) in
    subst P (sym f) refl ∙ ap (step_from (point_at points)) e in
    let z : s + 0 ≡ s = omega arith in
    let w : first + s + 0 ≡ first + s = omega arith in
    here t ∙ straight_run points (first + s) d next.none_before t (omega arith)
    ∙ ap (step_from (point_at points)) (sym w) ∙ sym (here 0) ∙ ap (step_from (path_from points first)) z

module _ (path : ℕ → Point) (s next : ℕ) (cone : Cone) (way : Vector) (way_is : way ≡ way_along path next)
    (more : s < next) (run : GoesStraight path s (next - s)) (holds : HoldsNear path s cone) where
  on : s + (next - s) ≡ next
  on = omega arith

  pub next_holds : (new : Cone) → ((other : Vector) → HoldsWay new other ↔ (HoldsWay cone other × IsNear way other)) → HoldsNear path next new
  next_holds new both =
      let P : Vector → Type 0 = λ o. (other : Vector) → HoldsWay new other ↔ (HoldsWay cone other × IsNear o other) in
      let Q : ℕ → Type 0 = λ n. (other : Vector) → HoldsWay new other ↔ (HoldsWay cone other × IsNear (way_along path n) other) in
      let both' : Q (s + (next - s)) = subst Q (sym on) (subst P way_is both) in
      subst (λ (n : ℕ). HoldsNear path n new) on (run_holds path s cone holds (next - s) run (omega arith) new both')

  pub next_clear : IsClear path s → HoldsWay cone way → IsClear path next
  next_clear clear held =
      let held' : HoldsWay cone (way_along path (s + (next - s))) =
      subst (λ (n : ℕ). HoldsWay cone (way_along path n)) (sym on) (subst (HoldsWay cone) way_is held) in
      subst (IsClear path) on (run_clear path s cone holds (next - s) run (omega arith) clear held')

part_of_run : (path : ℕ → Point) (s r l : ℕ) → l ≤ r → GoesStraight path s r → GoesStraight path s l
part_of_run path s r l h run = λ t m. run t (omega arith)

within_clear : (path : ℕ → Point) (s next last : ℕ) (cone : Cone) → s ≤ last → last < next
    → GoesStraight path s (next - s) → HoldsNear path s cone → IsClear path s → HoldsWay cone (way_along path last) → IsClear path last
within_clear path s next last cone a b run holds clear held = elim (cases_lt s last) [
  | inl past ↦ next_clear path s last cone (way_along path last) refl past
      (part_of_run path s (next - s) (last - s) (omega arith) run) holds clear held
  | inr here ↦ let e : s ≡ last = omega arith in subst (IsClear path) e clear
]

-- the cone ends within the run
pub ends_within : (path : ℕ → Point) (s next last most : ℕ) (cone : Cone) → s ≤ last → last < next → next ≤ most
    → GoesStraight path s (next - s) → HoldsNear path s cone → IsClear path s
    → (last ≡ s) ⊎ HoldsWay cone (way_along path last) → ¬ HoldsWay cone (way_along path (last + 1))
    → IsClearUpTo path most last
ends_within path s next last most cone a b d run holds clear held out =
    let e : last + 1 ≡ suc last = omega arith in
    let up : IsClear path last = elim held [
      | inl is ↦ subst (IsClear path) (sym is) clear
      | inr h ↦ within_clear path s next last cone a b run holds clear h
    ] in
    record {
      within = omega arith;
      clear = up;
      no_more = λ c m k. run_ends path s cone holds last a (subst (λ (n : ℕ). ¬ HoldsWay cone (way_along path n)) e out) c k;
    }

-- Landings of a path that never goes back, and what their funnels tell of the path itself.
use Rattle.std.proofs.Common.{◌≡◌, ◌↔◌, inl, inr, ℕ, suc, ◌+◌, ◌-◌, ◌<◌, ◌≤◌, ℤ, pos, ◌+ℤ◌, ◌*ℤ◌, ◌≤ℤ◌, ◌<ℤ◌, Bool, true, false, not, IsTrue, List, min, refl, sym, ◌∙◌, ap, subst, rules, arith}
use Rattle.std.proofs.lemmas.Int.{ints}
use Rattle.std.proofs.lemmas.Bool.{cases_lt}
use Rattle.pt_core.specs.ClosedWalk.{point_at}
use Rattle.pt_core.specs.declared.point.Point.{Point}
use Rattle.path_cones.specs.Corners.{step_from, IsNextCorner}
use Rattle.path_cones.specs.Straight.{IsNear, east, north, path_from, vector_of}
use Rattle.path_cones.specs.Inner.Cones.{IsClear}
use Rattle.path_cones.specs.Inner.Funnels.{GoesRight, IsForward, IsFunnelOf, IsRunOn}
use Rattle.path_cones.specs.Inner.Mirrors.{in_mirror, mirrored_of}
use Rattle.path_cones.specs.Inner.Stairs.{AreStairs, IsLanding, IsLastLanding, seen_in, stairs_at, stairs_of}
use Rattle.path_cones.specs.Inner.Tails.{IsClearUpTo, way_along}
use Rattle.path_cones.specs.Inner.Wedges.{IsQuarter}
use Rattle.path_cones.specs.declared.funnel.Funnel.{Funnel}
use Rattle.path_cones.specs.declared.landing.Landing.{Landing}
use Rattle.path_cones.specs.declared.quarter.Quarter.{Quarter}
use Rattle.path_cones.specs.declared.vector.Vector.{Vector}
use Rattle.path_cones.proofs.Bounds.{same_vector}
use Rattle.path_cones.proofs.Breadths.{turned, near_turned}
use Rattle.path_cones.proofs.Clear.{path_run}
use Rattle.path_cones.proofs.Funnels.{above_at, clear_on, on_way, way_at, way_on}
use Rattle.path_cones.proofs.Mirrors.{clear_back, clear_mirrored}
use Rattle.path_cones.proofs.Stairs.{step_seen, twice, unsigned}
use Rattle.path_cones.proofs.Stepping.{part_start}

-- ---- the mirror

other_view : (m : Bool) (q : Quarter) (path : ℕ → Point) (P : (ℕ → Point) → Type 0) → P (in_mirror (seen_in m (stairs_of q path))) → P (seen_in (not m) (stairs_of q path))
other_view false q path P h = h
other_view true q path P h = h

mirrored_stairs : (path : ℕ → Point) (most : ℕ) (stairs : ℕ → Point) → AreStairs path most stairs → AreStairs path most (in_mirror stairs)
mirrored_stairs path most stairs are = record {
  steps = λ k h. elim (are.steps k h) [ inl e ↦ inr (ap mirrored_of e) | inr e ↦ inl (ap mirrored_of e) ];
  turns = λ i j a b. (λ e. ap mirrored_of ((are.turns i j a b).0 e), λ e. (are.turns i j a b).1 (ap mirrored_of e));
  short = λ k h. let is = are.short k h in record { x = is.y; y = is.x };
}

-- ---- from one landing to the next

-- a step of the path from a point is one of the closed path
pub step_here : (points : List Point) (first k : ℕ) → step_from (path_from points first) k ≡ step_from (point_at points) (first + k)
step_here points first k =
    let e : k + first ≡ first + k = omega arith in
    let f : suc k + first ≡ suc (k + first) = omega arith in
    let P : ℕ → Type 0 = λ i. vector_of (point_at points (k + first)) (point_at points i) ≡ step_from (point_at points) (k + first) in
    subst P (sym f) refl ∙ ap (step_from (point_at points)) e

module _ (points : List Point) (first most : ℕ) (l : Landing) (on : IsLanding points first most l) where
  abbrev stairs : ℕ → Point
  stairs = stairs_at points first l

  pub run_right : (d : ℕ) → d ≤ l.next - l.steps → l.steps + d ≤ most → GoesRight stairs l.steps d
  run_right d a b t h =
      (on.stairs.turns (l.steps + t) l.steps (omega arith) on.within).0 (path_run points first l.steps (l.next - l.steps) d on.corner a t h) ∙ on.right

  pub run_short : (d : ℕ) → d ≤ l.next - l.steps → l.steps + d ≤ most → (l.funnel.way.x +ℤ pos d) ≤ℤ pos 65535
  run_short d a b =
      let is = way_on stairs l.steps d (run_right d a b) l.funnel.way on.funnel.way d (omega arith) in
      (subst (IsForward 65535) is (on.stairs.short (l.steps + d) b)).x.most

  turns_up : l.next < most → step_from stairs l.next ≡ north
  turns_up h =
      let later = on.later in
      let d : ℕ = l.next - l.steps in
      let some : 1 ≤ d = omega arith in
      let before : ℕ = l.steps + (d - 1) in
      let at_next : l.steps + d ≡ l.next = omega arith in
      elim (on.stairs.steps l.next h) [
        | inl e ↦
            let same = (on.stairs.turns before l.next (omega arith) h).1 (run_right d (omega arith) (omega arith) (d - 1) (omega arith) ∙ sym e) in
            let a : first + l.steps + (d - 1) ≡ first + before = omega arith in
            let b : first + l.steps + d ≡ first + l.next = omega arith in
            absurd (on.corner.turns (ap (step_from (point_at points)) a ∙ sym (step_here points first before) ∙ same ∙ step_here points first l.next ∙ ap (step_from (point_at points)) (sym b)))
        | inr up ↦ up
      ]

  abbrev landed : Funnel → ℕ → Landing
  landed funnel next = record { quarter = l.quarter; mirrored = not l.mirrored; steps = l.next; next = next; funnel = funnel }

  pub landing_on : (over seen : Funnel) (next : ℕ) → l.next < most → IsRunOn l.funnel (l.next - l.steps) over
      → ((path : ℕ → Point) (steps : ℕ) → IsFunnelOf path steps over → IsFunnelOf (in_mirror path) steps seen)
      → l.next < next → IsNextCorner points (first + l.next) (next - l.next) → IsLanding points first most (landed seen next)
  landing_on over seen next h run mirror more corner =
      let later = on.later in
      let at_next : l.steps + (l.next - l.steps) ≡ l.next = omega arith in
      let of : IsFunnelOf stairs l.next over = subst (λ (k : ℕ). IsFunnelOf stairs k over) at_next
      (run.of stairs l.steps (run_right (l.next - l.steps) (omega arith) (omega arith)) on.funnel) in
      let P : (ℕ → Point) → Type 0 = λ s. AreStairs (path_from points first) most s × ((step_from s l.next ≡ east) × IsFunnelOf s l.next seen) in
      let is = other_view l.mirrored l.quarter (path_from points first) P
      (mirrored_stairs (path_from points first) most stairs on.stairs, (ap mirrored_of (turns_up h), mirror stairs l.next of)) in
      record { quarter = on.quarter; within = h; later = more; corner = corner; stairs = is.0; right = is.1.0; funnel = is.1.1 }

-- ---- at the path's start

pub no_truth : IsTrue false → ⊥
no_truth h = search rules

pub first_step : (points : List Point) (first : ℕ) (step : Vector) → step ≡ vector_of (point_at points first) (point_at points (first + 1))
    → step_from (path_from points first) 0 ≡ step
first_step points first step is =
    let e : first ≡ 0 + first = omega arith in
    let f : first + 1 ≡ suc 0 + first = omega arith in
    let P : ℕ → Type 0 = λ i. vector_of (point_at points i) (point_at points (suc 0 + first)) ≡ step in
    let Q : ℕ → Type 0 = λ i. vector_of (point_at points first) (point_at points i) ≡ step in
    subst P e (subst Q f (sym is))

module _ (points : List Point) (first most : ℕ) (q : Quarter) (signs : IsQuarter q) (some : 1 ≤ most)
    (are : AreStairs (path_from points first) most (stairs_of q (path_from points first)))
    (step : Vector) (step_is : step ≡ vector_of (point_at points first) (point_at points (first + 1))) where
  along : (step_from (stairs_of q (path_from points first)) 0).x ≡ q.right *ℤ step.x
  along =
      ap (λ (v : Vector). v.x) (step_seen q (path_from points first) 0)
      ∙ ap (λ (v : Vector). q.right *ℤ v.x) (first_step points first step step_is)

  no_row : step.x ≡ pos 0 → step_from (stairs_of q (path_from points first)) 0 ≡ east → ⊥
  no_row none e =
      let x = ap (λ (v : Vector). v.x) e in
      let h = sym along ∙ x in
      let P : ℤ → Type 0 = λ z. q.right *ℤ z ≡ pos 1 in
      let one = subst P none h in
      absurd (omega (arith, ints))

  a_row : step_from (stairs_of q (path_from points first)) 0 ≡ north → step.x ≡ pos 0
  a_row e =
      let x = ap (λ (v : Vector). v.x) e in
      let h : q.right *ℤ step.x ≡ pos 0 = sym along ∙ x in
      let none : q.right *ℤ pos 0 ≡ pos 0 = omega (arith, ints) in
      sym (unsigned q.right step.x signs.right) ∙ ap (λ (z : ℤ). q.right *ℤ z) h ∙ none

  pub start_on : (mirror : Bool) → (IsTrue mirror ↔ (step.x ≡ pos 0)) → (next : ℕ) → 0 < next
      → IsNextCorner points (first + 0) (next - 0) → (funnel : Funnel) → ((path : ℕ → Point) → IsFunnelOf path 0 funnel)
      → IsLanding points first most (record { quarter = q; mirrored = mirror; steps = 0; next = next; funnel = funnel })
  start_on true upright next later corner funnel of = record {
    quarter = signs;
    within = some;
    later = later;
    corner = corner;
    stairs = mirrored_stairs (path_from points first) most (stairs_of q (path_from points first)) are;
    right = elim (are.steps 0 some) [ inl e ↦ absurd (no_row (upright.0 refl) e) | inr e ↦ ap mirrored_of e ];
    funnel = of (in_mirror (stairs_of q (path_from points first)));
  }
  start_on false upright next later corner funnel of = record {
    quarter = signs;
    within = some;
    later = later;
    corner = corner;
    stairs = are;
    right = elim (are.steps 0 some) [ inl e ↦ e | inr e ↦ absurd (no_truth (upright.1 (a_row e))) ];
    funnel = of (stairs_of q (path_from points first));
  }

-- ---- back to the path

pub way_seen : (q : Quarter) (path : ℕ → Point) (k : ℕ) → way_along (stairs_of q path) k ≡ turned q (way_along path k)
way_seen q path k =
    let x = part_start q.right (path 0).x in
    let y = part_start q.up (path 0).y in
    same_vector _ _ _ _ (omega (arith, ints)) (omega (arith, ints))

module _ (q : Quarter) (signs : IsQuarter q) (path : ℕ → Point) (count : ℕ) where
  clear_turned : IsClear (stairs_of q path) count → IsClear path count
  clear_turned clear = λ j k a b c.
      near_turned q (way_along path j) (way_along path k) signs
      (subst (λ (v : Vector). IsNear v (turned q (way_along path k))) (way_seen q path j)
      (subst (λ (v : Vector). IsNear (way_along (stairs_of q path) j) v) (way_seen q path k) (clear j k a b c)))

  turned_clear : IsClear path count → IsClear (stairs_of q path) count
  turned_clear clear = λ j k a b c.
      let m : Vector = turned q (way_along path j) in
      let e : Vector = turned q (way_along path k) in
      let near : IsNear (turned q m) (turned q e) =
      subst (λ (v : Vector). IsNear v (turned q e)) (sym (twice q (way_along path j) signs))
      (subst (λ (v : Vector). IsNear (way_along path j) v) (sym (twice q (way_along path k) signs)) (clear j k a b c)) in
      subst (λ (v : Vector). IsNear v (way_along (stairs_of q path) k)) (sym (way_seen q path j))
      (subst (λ (v : Vector). IsNear m v) (sym (way_seen q path k)) (near_turned q m e signs near))

  clear_seen : (m : Bool) → IsClear (seen_in m (stairs_of q path)) count → IsClear path count
  clear_seen false clear = clear_turned clear
  clear_seen true clear = clear_turned (clear_back (stairs_of q path) count clear)

  seen_clear : (m : Bool) → IsClear path count → IsClear (seen_in m (stairs_of q path)) count
  seen_clear false clear = turned_clear clear
  seen_clear true clear = clear_mirrored (stairs_of q path) count (turned_clear clear)

-- ---- where a scan ends

module _ (points : List Point) (first most : ℕ) (l : Landing) (on : IsLanding points first most l) where
  -- the funnel holds the run's end, and the run is cut off there
  pub all_clear : (over : Funnel) (run : ℕ) → run ≡ min l.next most - l.steps → IsRunOn l.funnel run over → (pos run *ℤ l.funnel.flat.y) ≤ℤ l.funnel.above
      → IsLastLanding most l → IsClearUpTo (path_from points first) most most
  all_clear over run is on_run held last =
      let within = on.within in
      let later = on.later in
      let cut : most ≤ l.next = elim (cases_lt l.next most) [
        | inl before ↦ elim last [
          | inl end ↦ end
          | inr left ↦
              let e : run ≡ l.next - l.steps = omega arith in
              let P : ℕ → Type 0 = λ n. (pos n *ℤ l.funnel.flat.y) ≤ℤ l.funnel.above in
              let h = subst P e held in
              absurd (omega (arith, ints))
        ]
        | inr end ↦ end
      ] in
      let all : l.steps + run ≡ most = omega arith in
      let of = on_run.of (stairs_at points first l) l.steps (run_right points first most l on run (omega arith) (omega arith)) on.funnel in
      record {
        within = omega arith;
        clear = subst (IsClear (path_from points first)) all (clear_seen l.quarter on.quarter (path_from points first) (l.steps + run) l.mirrored of.clear);
        no_more = λ c h clear. h;
      }

  -- the funnel holds so many steps of the run, and not one more
  pub clear_within : (run held : ℕ) → run ≡ min l.next most - l.steps → held < run → (pos held *ℤ l.funnel.flat.y) ≤ℤ l.funnel.above
      → l.funnel.above <ℤ (pos (held + 1) *ℤ l.funnel.flat.y) → IsClearUpTo (path_from points first) most (l.steps + held)
  clear_within run held is fewer holds no_more =
      let within = on.within in
      let later = on.later in
      let n = on.funnel.numbers in
      let path = path_from points first in
      let right = run_right points first most l on in
      record {
        within = omega arith;
        clear = clear_seen l.quarter on.quarter path (l.steps + held) l.mirrored
            (clear_on l.funnel n held holds (stairs_at points first l) l.steps (right held (omega arith) (omega arith)) on.funnel);
        no_more = λ c h clear. elim (cases_lt (l.steps + held) c) [
          | inr end ↦ end
          | inl more ↦
              let seen = seen_clear l.quarter on.quarter path c l.mirrored clear in
              let there : way_along (stairs_at points first l) (l.steps + (held + 1)) ≡ way_at l.funnel.way (held + 1) =
              way_on (stairs_at points first l) l.steps (held + 1) (right (held + 1) (omega arith) (omega arith)) l.funnel.way on.funnel.way (held + 1) (omega arith) in
              let near = λ (j : ℕ) (a : 1 ≤ j) (b : j ≤ l.steps).
              subst (λ (v : Vector). IsNear (way_along (stairs_at points first l) j) v) there (seen j (l.steps + (held + 1)) a (omega arith) (omega arith)) in
              let above = ((on.funnel.holds (way_at l.funnel.way (held + 1)) (on_way l.funnel n held holds (held + 1) (omega arith))).1 near).above in
              let at = above_at l.funnel n (held + 1) in
              absurd (omega (arith, ints))
        ];
      }

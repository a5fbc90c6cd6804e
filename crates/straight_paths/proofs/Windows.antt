-- What is straight from an index on, as a window of the walk.
use Rattle.std.proofs.Common.{◌≡◌, ◌⊎◌, ℕ, zero, suc, ◌+◌, ◌-◌, ◌<◌, ◌≤◌, min, IfSome, Option, None, inl, inr, List, length, length-set, get_or, set, refl, sym, ◌∙◌, ap, subst, arith}
use Rattle.std.proofs.lemmas.Bool.{cases_lt}
use Rattle.pt_core.specs.ClosedWalk.{point_at}
use Rattle.pt_core.specs.declared.point.Point.{Point}
use Rattle.path_cones.specs.Inner.Codes.{IsCoded, coded_step}
use Rattle.path_cones.specs.Inner.Cones.{IsClear}
use Rattle.path_cones.specs.Straight.{IsStraight, path_from, vector_of}
use Rattle.path_cones.specs.Inner.Strips.{HoldsPath}
use Rattle.straight_paths.specs.Inner.Sweeps.{AreEndsFrom, IsEnd, IsEnough, IsSeen, IsTold, IsStraightBefore}
use Rattle.straight_paths.specs.Inner.Tables.{GrowsInto, IsWordTable, LeadsToWord, StandsFor, count_at, digits_at}
use Rattle.path_cones.specs.Inner.Tails.{AreStraight, IsAhead, IsStraightFor, IsTail, last_of, limit_of}
use Rattle.straight_paths.specs.Inner.NextSteps.{IsStraightUpTo, TellsNext}
use Rattle.path_cones.specs.declared.strip.Strip.{Strip}
use Rattle.straight_paths.specs.declared.sweep.Seen.{Seen}
use Rattle.straight_paths.specs.declared.table.Table.{Table}
use Rattle.path_cones.specs.declared.vector.Vector.{Vector}
use Rattle.path_cones.proofs.Cyclic.{first_step, path_lap_on, rest_is}
use Rattle.path_cones.proofs.Pieces.{is_clear, none_is_straight, shorter, without_first}
use Rattle.path_cones.proofs.Places.{one_more_down}

-- ---- a step earlier

-- what is straight from an index ends no later than what is straight from the next one
pub later_straight : (points : List Point) (at c : ℕ) → IsStraight (path_from points at) (suc c) → IsStraight (path_from points (at + 1)) c
later_straight points at c s =
    let P : (ℕ → Point) → Type 0 = λ p. IsStraight p c in
    subst P (sym (rest_is points at)) (without_first (path_from points at) c s)

-- so many steps later
pub dropped : (points : List Point) (k at n c : ℕ) → n ≡ k + c → IsStraight (path_from points at) n → IsStraight (path_from points (at + k)) c
dropped points zero at n c is s =
    let e : at ≡ at + 0 = omega arith in
    let f : n ≡ c = omega arith in
    subst (λ (m : ℕ). IsStraight (path_from points m) c) e (subst (IsStraight (path_from points at)) f s)
dropped points (suc k) at n c is s =
    let e : at + 1 + k ≡ at + suc k = omega arith in
    let f : n ≡ suc (n - 1) = omega arith in
    subst (λ (m : ℕ). IsStraight (path_from points m) c) e
    (dropped points k (at + 1) (n - 1) c (omega arith) (later_straight points at (n - 1) (subst (IsStraight (path_from points at)) f s)))

module _ (points : List Point) (last at count digits digit to_count to_digits : ℕ) (step : Vector)
    (window : IsStraightBefore points last (at + 1) count) (coded : IsCoded count (path_from points (at + 1)) digits)
    (is : step ≡ vector_of (point_at points at) (point_at points (at + 1))) (into : step ≡ coded_step digit)
    (tells : TellsNext count digits digit to_count to_digits) where
  told : IsStraightUpTo (path_from points at) (suc count) to_count × IsCoded to_count (path_from points at) to_digits
  told =
      let P : (ℕ → Point) → Type 0 = λ p. IsCoded count p digits in
      let Q : (ℕ → Point) → Type 0 = λ p. IsStraight p count in
      tells (path_from points at) (sym (first_step points at step is) ∙ into) (subst P (rest_is points at) coded) (subst Q (rest_is points at) window.straight)

  no_more : (c : ℕ) → at + c ≤ last → IsStraight (path_from points at) c → c ≤ to_count
  no_more zero h s = omega arith
  no_more (suc k) h s =
      let longest = told.0 in
      let m = window.no_more k (omega arith) (later_straight points at k s) in
      longest.no_more (suc k) (omega arith) s

  window_earlier : IsStraightBefore points last at to_count
  window_earlier =
      let longest = told.0 in
      let inside = window.within in
      let few = longest.within in
      record { in_laps = window.in_laps; within = omega arith; straight = longest.straight; no_more = no_more }

  coded_earlier : IsCoded to_count (path_from points at) to_digits
  coded_earlier = told.1

pub told_earlier : (table new : Table) (points : List Point) (last at node digit next : ℕ) (step : Vector)
    → IsTold table points last (at + 1) node → GrowsInto table new
    → step ≡ vector_of (point_at points at) (point_at points (at + 1)) → step ≡ coded_step digit
    → LeadsToWord new node digit next → IsTold new points last at next
told_earlier table new points last at node digit next step t grows is into leads =
    let c = grows.keeps.counts node t.word.known in
    let d = grows.keeps.digits node t.word.known in
    let w : IsStraightBefore points last (at + 1) (count_at new node) = subst (λ (n : ℕ). IsStraightBefore points last (at + 1) n) (sym c) t.window in
    let f : IsCoded (count_at new node) (path_from points (at + 1)) (digits_at table node) =
    subst (λ (n : ℕ). IsCoded n (path_from points (at + 1)) (digits_at table node)) (sym c) t.coded in
    let g : IsCoded (count_at new node) (path_from points (at + 1)) (digits_at new node) =
    subst (λ (n : ℕ). IsCoded (count_at new node) (path_from points (at + 1)) n) (sym d) f in
    record {
      word = record { whole = grows.whole; known = leads.known };
      window = window_earlier points last at (count_at new node) (digits_at new node) digit (count_at new next) (digits_at new next) step w g is into leads.tells;
      coded = coded_earlier points last at (count_at new node) (digits_at new node) digit (count_at new next) (digits_at new next) step w g is into leads.tells;
    }

-- the table that stays as it is
pub stays_whole : (table : Table) → IsWordTable table → GrowsInto table table
stays_whole table whole = record {
  whole = whole;
  keeps = record { used = omega arith; counts = λ node h. refl; digits = λ node h. refl; courses = λ node h. refl };
}

-- ---- ends

pub end_of_window : (points : List Point) (last at count n : ℕ) → IsStraightBefore points last at count → n ≡ min count (limit_of points)
    → IsEnd points last at n
end_of_window points last at count n w is =
    let inside = w.within in
    record {
      most = omega arith;
      within = omega arith;
      straight = shorter (path_from points at) n count (omega arith) w.straight;
      no_more = λ c m h s. let f = w.no_more c h s in omega arith;
    }

pub end_of_seen : (points : List Point) (last at : ℕ) (seen : Seen) → IsSeen points last at seen → IsEnd points last at (seen.tail.end - at)
end_of_seen points last at seen s =
    let t = s.tail in
    let least = t.at_least in
    let most = t.at_most in
    let a = s.within in
    let b = s.looked in
    record {
      most = omega arith;
      within = omega arith;
      straight = t.straight (seen.tail.end - at) (omega arith) (omega arith);
      no_more = λ c m h k. let f = t.no_more c m (s.no_more c m h k) k in omega arith;
    }

-- as a window, where it is below the limit
pub window_of_end : (points : List Point) (last at count : ℕ) → last ≤ last_of points → IsEnd points last at count → count < limit_of points
    → IsStraightBefore points last at count
window_of_end points last at count in_laps e below = record {
  in_laps = in_laps;
  within = e.within;
  straight = e.straight;
  no_more = λ c h s. elim (cases_lt count c) [
    | inl more ↦
        let f = e.no_more (count + 1) (omega arith) (omega arith) (shorter (path_from points at) (count + 1) c (omega arith) s) in
        absurd (omega arith)
    | inr few ↦ few
  ];
}

-- what is written down
pub straight_for_end : (points : List Point) (last i count : ℕ) → IsEnough points last → i < length points → IsEnd points last i count
    → IsStraightFor points i count
straight_for_end points last i count enough low e =
    let lap = enough.lap in
    record {
      most = e.most;
      straight = e.straight;
      no_more = λ c m s.
          elim (cases_lt last (i + c)) [
            | inr within ↦ e.no_more c m (omega arith) s
            | inl beyond ↦ elim enough.ends [
              | inl whole ↦ absurd (omega arith)
              | inr fails ↦
                  let k = length points - i in
                  let r = last - length points in
                  let front = shorter (path_from points i) (k + r) c (omega arith) s in
                  let there : i + k ≡ length points = omega arith in
                  absurd (fails (subst (λ (n : ℕ). IsStraight (path_from points n) r) there (dropped points k i (k + r) r refl front)))
            ]
          ];
    }

-- none is told yet
pub none_yet : (points : List Point) (last lap from : ℕ) (steps : List ℕ) → length steps ≡ length points → lap ≤ from → from ≤ lap + length points
    → (last ≤ from) ⊎ (lap + length points ≤ from) → AreEndsFrom points last lap from steps
none_yet points last lap from steps places begun in_lap all = record {
  places = places;
  begun = begun;
  in_lap = in_lap;
  ends = λ i h l m. elim all [ inl beyond ↦ absurd (omega arith) | inr beyond ↦ absurd (omega arith) ];
}

-- one more index is told
pub one_more : (points : List Point) (last lap index count : ℕ) (steps : List ℕ) → AreEndsFrom points last lap (index + 1) steps → lap ≤ index
    → IsEnd points last index count → AreEndsFrom points last lap index (set steps (index - lap) count)
one_more points last lap index count steps told begun here =
    let places = told.places in
    let in_lap = told.in_lap in
    let P : ℕ → ℕ → Type 0 = λ k n. k + lap < last → IsEnd points last (k + lap) n in
    let back : index ≡ index - lap + lap = omega arith in
    record {
      places = length-set steps (index - lap) count ∙ told.places;
      begun = begun;
      in_lap = omega arith;
      ends = λ i h l m.
          let e : i - lap + lap ≡ i = omega arith in
          subst (λ (n : ℕ). IsEnd points last n (get_or (set steps (index - lap) count) (i - lap) 0)) e
          (one_more_down P steps (index - lap) count (length points) (omega arith)
          (λ k a b below.
          let f : k + lap - lap ≡ k = omega arith in
          subst (λ (n : ℕ). IsEnd points last (k + lap) (get_or steps n 0)) f (told.ends (k + lap) (omega arith) below (omega arith)))
          (λ below. subst (λ (n : ℕ). IsEnd points last n count) back here)
          (i - lap) (omega arith) (omega arith) (omega arith));
    }

-- all of the first lap is told
pub all_straight : (points : List Point) (last : ℕ) (steps : List ℕ) → IsEnough points last → AreEndsFrom points last 0 0 steps → AreStraight points steps
all_straight points last steps enough told =
    let lap = enough.lap in
    record {
      places = told.places;
      straight = λ i h.
          let e : i - 0 ≡ i = omega arith in
          subst (λ (n : ℕ). IsStraightFor points i (get_or steps n 0)) e
          (straight_for_end points last i (get_or steps (i - 0) 0) enough h (told.ends i (omega arith) (omega arith) (omega arith)));
    }

pub enough_near : (points : List Point) (near last count : ℕ) → last ≡ length points + near → near ≤ limit_of points
    → (near ≡ limit_of points) ⊎ ((count < near) × IsEnd points last (length points) count) → IsEnough points last
enough_near points near last count is few which = record {
  lap = omega arith;
  most = omega arith;
  ends = elim which [
    | inl whole ↦ inl (omega arith)
    | inr h ↦ inr (λ s.
        let below = h.0 in
        let e : last - length points ≡ near = omega arith in
        let s' = subst (λ (n : ℕ). IsStraight (path_from points (length points)) n) e s in
        let f = (h.1).no_more near (omega arith) (omega arith) s' in
        omega arith)
  ];
}

pub enough_beyond : (points : List Point) (steps last : ℕ) → last ≡ length points + steps → steps ≤ limit_of points
    → (steps ≡ limit_of points) ⊎ ¬ IsClear (path_from points 0) steps → IsEnough points last
enough_beyond points steps last is few which = record {
  lap = omega arith;
  most = omega arith;
  ends = elim which [
    | inl whole ↦ inl (omega arith)
    | inr fails ↦ inr (λ s.
        let e : last - length points ≡ steps = omega arith in
        let s' = subst (λ (n : ℕ). IsStraight (path_from points (length points)) n) e s in
        let z : length points ≡ 0 + length points = omega arith in
        let P : (ℕ → Point) → Type 0 = λ p. IsClear p steps in
        fails (subst P (ap (path_from points) z ∙ path_lap_on points 0) (is_clear (path_from points (length points)) steps s')))
  ];
}

-- ---- tails

-- a tail that ends where a window does
pub seen_from_window : (points : List Point) (last at count end : ℕ) (seen : Seen) → IsStraightBefore points last at count
    → end ≡ at + min count (limit_of points) → seen.tail.end ≡ end → seen.tail.ahead.last ≡ end → IsAhead points at seen.tail.ahead
    → seen.strip ≡ None → IsSeen points last at seen
seen_from_window points last at count end seen w is same looked ahead none =
    let inside = w.within in
    record {
      tail = record {
        at_least = omega arith;
        at_most = omega arith;
        straight = λ c a b. shorter (path_from points at) c count (omega arith) w.straight;
        no_more = λ c m h s. omega arith;
        ahead = ahead;
      };
      within = omega arith;
      looked = omega arith;
      in_laps = w.in_laps;
      no_more = λ c m h s. let f = w.no_more c h s in omega arith;
      strip = subst (λ (o : Option Strip). IfSome o (λ strip. HoldsPath strip (path_from points at) (seen.tail.end - at))) (sym none) tt;
    }

-- the same from one index earlier
pub no_more_earlier : (points : List Point) (last at looked : ℕ) → at + 1 ≤ looked
    → ((c : ℕ) → c ≤ limit_of points → at + 1 + c ≤ last → IsStraight (path_from points (at + 1)) c → at + 1 + c ≤ looked)
    → (c : ℕ) → c ≤ limit_of points → at + c ≤ last → IsStraight (path_from points at) c → at + c ≤ looked
no_more_earlier points last at looked low later zero m h s = omega arith
no_more_earlier points last at looked low later (suc c) m h s =
    let f = later c (omega arith) (omega arith) (later_straight points at c s) in omega arith

pub seen_earlier : (points : List Point) (last at : ℕ) (later seen : Seen) → IsSeen points last (at + 1) later → IsTail points at seen.tail
    → seen.tail.ahead.last ≡ later.tail.ahead.last → seen.tail.end ≤ later.tail.end
    → IfSome seen.strip (λ strip. HoldsPath strip (path_from points at) (seen.tail.end - at)) → IsSeen points last at seen
seen_earlier points last at later seen s tail same no_later strip =
    let a = s.within in
    let b = s.looked in
    let least = s.tail.at_least in
    record {
      tail = tail;
      within = omega arith;
      looked = omega arith;
      in_laps = s.in_laps;
      no_more = λ c m h k. let f = no_more_earlier points last at later.tail.ahead.last (omega arith) s.no_more c m h k in omega arith;
      strip = strip;
    }

-- what a strip held, as a word of a table
pub told_of_seen : (table : Table) (points : List Point) (last index node count digits : ℕ) (seen : Seen) → IsSeen points last index seen
    → count ≡ seen.tail.end - index → count < limit_of points → IsWordTable table → IsCoded count (path_from points index) digits → StandsFor table node count digits
    → IsTold table points last index node
told_of_seen table points last index node count digits seen s is below whole coded spelled =
    let e : IsEnd points last index count = subst (IsEnd points last index) (sym is) (end_of_seen points last index seen s) in
    let same = spelled.same (path_from points index) coded e.straight in
    record {
      word = record { whole = whole; known = spelled.known };
      window = subst (IsStraightBefore points last index) (sym same.0) (window_of_end points last index count s.in_laps e below);
      coded = subst (λ n. IsCoded n (path_from points index) (digits_at table node)) (sym same.0) same.1;
    }

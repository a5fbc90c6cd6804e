-- Where straight subpaths end, from one index earlier.
use Rattle.std.proofs.Common.{nat_cmp, ◌≡◌, ◌⊎◌, inl, inr, ℕ, zero, suc, ◌+◌, ◌-◌, ◌≤◌, min, List, sym, ◌∙◌, ap, subst, rules, arith}
use Rattle.std.specs.Ordering.{ord_min}
use Rattle.std.proofs.lemmas.Bool.{cases_lt}
use Rattle.pt_core.specs.declared.point.Point.{Point}
use Rattle.path_cones.specs.Straight.{TakesAllFour, IsStraight, path_from}
use Rattle.path_cones.specs.Inner.Cones.{IsClear}
use Rattle.path_cones.specs.Inner.Tails.{IsAhead, IsTail, IsAtPlace, IsClearUpTo, IsClearBefore, limit_of}
use Rattle.path_cones.specs.declared.tail.Ahead.{Ahead}
use Rattle.path_cones.specs.declared.tail.Tail.{Tail}
use Rattle.path_cones.proofs.Sooner.{four_taken}
use Rattle.path_cones.proofs.Cyclic.{rest_is, path_lap_on}
use Rattle.path_cones.proofs.Pieces.{without_first, with_first, is_clear, none_is_straight}

-- the lesser of two numbers, as the program finds it
pub lesser_is : (a b r : ℕ) → r ≡ ord_min nat_cmp a b → r ≡ min a b
lesser_is a b r is = search rules

-- a straight subpath ends by where the last of the four directions is taken first
pub to_all : (points : List Point) (at : ℕ) (ahead : Ahead) → IsAhead points at ahead → (c : ℕ) → at + c ≤ ahead.last
    → IsStraight (path_from points at) c → at + c ≤ four_taken ahead
to_all points at ahead next c h s = elim (cases_lt (four_taken ahead) (at + c)) [
  | inl less ↦ absurd (s.not_all_four (record {
    east = next.east.taken c h (omega arith);
    north = next.north.taken c h (omega arith);
    west = next.west.taken c h (omega arith);
    south = next.south.taken c h (omega arith);
  }))
  | inr more ↦ more
]

module _ (points : List Point) (at : ℕ) (tail : Tail) (ahead : Ahead) (clear end : ℕ)
    (later : IsTail points (at + 1) tail) (next : IsAhead points at ahead) (clear_for : IsClearBefore points at tail.end clear)
    (same : ahead.last ≡ tail.ahead.last) (end_is : end ≡ min (four_taken ahead) (at + clear)) where
  not_four : (c : ℕ) → at + c ≤ ahead.last → at + c ≤ end → ¬ TakesAllFour (path_from points at) c
  not_four c h l t =
      let e = next.east.first c h t.east in
      let n = next.north.first c h t.north in
      let w = next.west.first c h t.west in
      let s = next.south.first c h t.south in
      omega arith

  straight : (c : ℕ) → at + c ≤ ahead.last → at + c ≤ end → IsStraight (path_from points at) c
  straight zero h l = none_is_straight (path_from points at)
  straight (suc c) h l =
      let P : (ℕ → Point) → Type 0 = λ p. IsStraight p c in
      let inside = clear_for.within in
      let rest = later.straight c (omega arith) (omega arith) in
      let within : suc c ≤ clear = omega arith in
      with_first (path_from points at) c (not_four (suc c) h l)
      (λ j k a b d. clear_for.clear j k a b (omega arith))
      (subst P (rest_is points at) rest)

  to_later : (c : ℕ) → c ≤ limit_of points → at + c ≤ ahead.last → IsStraight (path_from points at) c → at + c ≤ tail.end
  to_later zero m h s = omega (arith, later.at_least)
  to_later (suc c) m h s =
      let P : (ℕ → Point) → Type 0 = λ p. IsStraight p c in
      let rest = subst P (sym (rest_is points at)) (without_first (path_from points at) c s) in
      let f = later.no_more c (omega arith) (omega arith) rest in
      omega arith

  pub tail_earlier : IsTail points at (record { end = end; ahead = ahead })
  tail_earlier = record {
    at_least = omega (arith, later.at_least, next.east.after);
    at_most = omega (arith, clear_for.most);
    straight = straight;
    no_more = λ c m h s.
        let a = to_later c m h s in
        let b = clear_for.no_more c m a (is_clear (path_from points at) c s) in
        let d = to_all points at ahead next c h s in
        omega arith;
    ahead = next;
  }

-- one step more than the cones hold for, or as many as the limit
pub one_beyond : (points : List Point) (limit count steps : ℕ) → limit ≡ limit_of points → steps ≡ min limit (count + 1)
    → IsClearUpTo (path_from points 0) limit count → (steps ≡ limit_of points) ⊎ ¬ IsClear (path_from points 0) steps
one_beyond points limit count steps is least up = elim (cases_lt count limit) [
  | inl before ↦ inr (λ clear. let more = up.no_more steps (omega arith) clear in omega arith)
  | inr whole ↦ inl (omega arith)
]

pub path_at_place : (points : List Point) (place index : ℕ) → IsAtPlace points place index → path_from points place ≡ path_from points index
path_at_place points place index at = elim at [
  | inl is ↦ ap (path_from points) (sym is)
  | inr is ↦ sym (path_lap_on points place) ∙ ap (path_from points) (sym is)
]

pub clear_at : (points : List Point) (place index end most count : ℕ) → IsAtPlace points place index → index ≤ end
    → most ≡ min (limit_of points) (end - index) → IsClearUpTo (path_from points place) most count → IsClearBefore points index end count
clear_at points place index end most count at in_end is clear =
    let up = subst (λ (p : ℕ → Point). IsClearUpTo p most count) (path_at_place points place index at) clear in
    record {
      most = omega (arith, up.within);
      within = omega (arith, up.within);
      clear = up.clear;
      no_more = λ c m e k. up.no_more c (omega arith) k;
    }

pub clear_shorter : (path : ℕ → Point) (c d : ℕ) → c ≤ d → IsClear path d → IsClear path c
clear_shorter path c d h clear = λ j k a b e. clear j k a b (omega arith)

pub clear_seen : (points : List Point) (index end most : ℕ) → index ≤ end → most ≡ min (limit_of points) (end - index)
    → IsClear (path_from points index) (end - index) → IsClearBefore points index end most
clear_seen points index end most in_end is seen = record {
  most = omega arith;
  within = omega arith;
  clear = clear_shorter (path_from points index) most (end - index) (omega arith) seen;
  no_more = λ c m e k. omega arith;
}

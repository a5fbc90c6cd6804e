-- An outline of corners is its own best join.
use Rattle.std.proofs.Common.{◌≡◌, inl, inr, ℕ, zero, suc, ◌+◌, ◌-◌, ◌<◌, ◌≤◌, ◌%◌, Bool, true, false, Some, List, [], ◌∷◌, length, get_or, sym, ap, ◌∙◌, arith}
use Rattle.std.proofs.lemmas.Bool.{eq-eqb, false≢true}
use Rattle.std.proofs.lemmas.List.Elements.{All-head, All-tail}
use Rattle.std.proofs.lemmas.List.FromFn.{fill_by_all, get_or-map-range_with_len, length-map-range_with_len}
use Rattle.std.proofs.lemmas.Option.{get_or_from_slice_get}
use Rattle.std.proofs.Math.Nat.{mod-eq_of_lt}
use Rattle.std.specs.List.{All}
use Rattle.std.specs.Prelude.{slice_index, slice_index_or, slice_range}
use Rattle.pt_core.specs.ClosedWalk.{origin, point_at}
use Rattle.pt_core.specs.declared.piece.Piece.{Piece}
use Rattle.pt_core.specs.declared.piece.Piece.TheVariants.{Corner}
use Rattle.pt_core.specs.declared.point.Point.{Point}
use Rattle.pt_core.specs.declared.settings.Settings.{Settings}
use Rattle.corner_smooth.specs.Corner.{corner_piece, piece_of, pieces_of}
use Rattle.least_walk.specs.LeastWalk.{IsWalk, Step, steps_from, steps_of}
use Rattle.curve_join.specs.Bends.{bends_of}
use Rattle.curve_join.specs.Choice.{IsBestJoin, MayBeOne, run_piece}
use Rattle.curve_join.specs.Join.{MayJoin, no_bend}
use Rattle.curve_join.specs.Outline.{Outline, is_curve, outline, piece_at}
use Rattle.curve_join.specs.declared.bend.Bend.{Bend}
use Rattle.page_trace.specs.Trace.{IsOutlineOf, IsOutlineWith, tolerance_of}
use Rattle.outline_distance.proofs.Curves.{always_corner}
use Rattle.curve_join.proofs.Cuts.{bends_at, length-bends_of, slice_at, slice_length}

-- ---- a walk by single steps

abbrev IsSingle : Step → Type 0
IsSingle s = s.to ≡ s.from + 1

by_ones : (i : ℕ) (rest : List ℕ) → All IsSingle (steps_from i rest) → (k : ℕ) → k ≤ length rest → get_or (i ∷ rest) k 0 ≡ i + k
by_ones i rest all zero h = omega arith
by_ones i [] all (suc k) h = absurd (omega arith)
by_ones i (j ∷ rest) all (suc k) h =
    let here = All-head IsSingle (record { from = i; to = j }) (steps_from j rest) all in
    let later = by_ones j rest (All-tail IsSingle (record { from = i; to = j }) (steps_from j rest) all) k (omega arith) in
    omega arith

-- it has each number up to its end, in its place
pub record IsEach (size : ℕ) (walk : List ℕ) : Type 0 where
  pub count : length walk ≡ size + 1
  pub each : (k : ℕ) → k ≤ size → slice_index walk k ≡ k

some_zero : (i : ℕ) → Some i ≡ Some 0 → i ≡ 0
some_zero i e = cc

each_of : (size : ℕ) (is_allowed : ℕ → ℕ → Type 0) (walk : List ℕ) → IsWalk size is_allowed walk → All IsSingle (steps_of walk) → IsEach size walk
each_of size is_allowed [] is all = (let first = is.first in absurd cc)
each_of size is_allowed (i ∷ rest) is all =
    let start = some_zero i is.first in
    let last = get_or_from_slice_get (i ∷ rest) (length (i ∷ rest) - 1) size 0 is.last in
    let end : length (i ∷ rest) - 1 ≡ length rest = omega arith in
    let there = ap (λ k. get_or (i ∷ rest) k 0) end in
    let here = by_ones i rest all (length rest) (omega arith) in
    let count : length rest ≡ size = omega arith in
    record {
      count = omega arith;
      each = λ k h. (let at = by_ones i rest all k (omega arith) in omega arith);
    }

-- ---- where no piece is a curve

module _ (tol : ℕ) (o : Outline) (corners : (k : ℕ) → k < length o.pieces → is_curve (piece_at o.pieces k) ≡ false) where
  not_joined : (i j : ℕ) → i < j → j ≤ length o.pieces → 2 ≤ length (slice_range (bends_of o) i j) → ¬ MayJoin tol (slice_range (bends_of o) i j)
  not_joined i j rises within some may =
      let round = may.round 0 no_bend (omega arith) in
      let first = slice_at (bends_of o) i j 0 no_bend (omega arith) in
      let start : i + 0 ≡ i = omega arith in
      let here = first ∙ ap (λ n. get_or (bends_of o) n no_bend) start ∙ bends_at o i (omega arith) in
      let curve = sym (ap (λ (b : Bend). b.curve) here) ∙ round.curve in
      false≢true (sym (corners i (omega arith)) ∙ curve)

  single : (s : Step) → s.from < s.to → MayBeOne tol (bends_of o) s.from s.to → IsSingle s
  single s rises run = elim run [
    | inl one ↦ one
    | inr joined ↦
        let within : s.to ≤ length o.pieces = omega (arith, joined.0, length-bends_of o) in
        let count = slice_length (bends_of o) s.from s.to joined.0 in
        absurd (not_joined s.from s.to rises within (joined.1).some joined.1)
  ]

  own_piece : (k m n : ℕ) → m ≡ k → n ≡ k + 1 → run_piece o.pieces (bends_of o) m n ≡ slice_index_or o.pieces k (Corner origin origin)
  own_piece k m n e f =
      let test = eq-eqb n (m + 1) (omega arith) in
      rw test (ap (λ i. slice_index_or o.pieces i (Corner origin origin)) e)

  pub unjoined : (pieces : List Piece) → IsBestJoin tol o pieces → pieces ≡ o.pieces
  unjoined pieces best =
      let is = best.least.is_walk in
      let all : All IsSingle (steps_of best.cut)
      = λ k d h. single (get_or (steps_of best.cut) k d) (is.rises k d h) (is.allowed k d h) in
      let walk = each_of (length o.pieces) (MayBeOne tol (bends_of o)) best.cut is all in
      let n : length best.cut - 1 ≡ length o.pieces = omega (arith, walk.count) in
      let f : ℕ → Piece = λ c. run_piece o.pieces (bends_of o) (slice_index best.cut c) (slice_index best.cut (c + 1)) in
      best.joined
      ∙ sym (fill_by_all f o.pieces (length best.cut - 1) (Corner origin origin) (sym n)
      (λ k h. sym (own_piece k (slice_index best.cut k) (slice_index best.cut (k + 1)) (walk.each k (omega arith)) (walk.each (k + 1) (omega arith)))))

-- ---- where no sharpness is asked for

corner_at : (alphamax : ℕ) (vertices : List Point) → alphamax ≡ 0 → (k : ℕ) → k < length (pieces_of alphamax vertices)
    → is_curve (piece_at (pieces_of alphamax vertices) k) ≡ false
corner_at alphamax vertices e k h =
    let before : Point = point_at vertices (k + (length vertices - 1)) in
    let at : Point = point_at vertices k in
    let after : Point = point_at vertices (k + 1) in
    let count = length-map-range_with_len (corner_piece alphamax vertices) 0 (length vertices) in
    let place : (k % length (pieces_of alphamax vertices)) ≡ k = mod-eq_of_lt h in
    ap (λ n. is_curve (slice_index_or (pieces_of alphamax vertices) n (Corner origin origin))) place
    ∙ ap is_curve (get_or-map-range_with_len (corner_piece alphamax vertices) 0 (length vertices) k k (Corner origin origin) (omega (arith, count)) (omega arith))
    ∙ ap (λ n. is_curve (piece_of n before at after)) e
    ∙ ap is_curve (always_corner before at after)

by_choice : (settings : Settings) (vertices : List Point) (pieces : List Piece) (long : Bool) → settings.alphamax ≡ 0
    → IsOutlineWith long settings vertices pieces → pieces ≡ pieces_of settings.alphamax vertices
by_choice settings vertices pieces true e is = is
by_choice settings vertices pieces false e is =
    unjoined (tolerance_of settings.tolerance) (outline vertices (pieces_of settings.alphamax vertices)) (corner_at settings.alphamax vertices e) pieces is

pub outline_of_corners : (settings : Settings) (vertices : List Point) (pieces : List Piece) → settings.alphamax ≡ 0
    → IsOutlineOf settings vertices pieces → pieces ≡ pieces_of 0 vertices
outline_of_corners settings vertices pieces e is =
    by_choice settings vertices pieces settings.long_curve e is ∙ ap (λ n. pieces_of n vertices) e

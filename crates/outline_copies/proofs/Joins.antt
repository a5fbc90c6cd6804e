-- The best join of a moved outline is the moved best join.
use Rattle.std.proofs.Common.{◌≡◌, inl, inr, ℕ, zero, suc, ◌+◌, ◌-◌, ◌<◌, ◌≤◌, ℤ, neg_ℤ, ◌+ℤ◌, Bool, true, false, if◌then◌else◌, nat_eq, List, [], ◌∷◌, length, get_or, map, take, drop, sym, ap, ◌∙◌, subst, refl, arith}
use Rattle.std.proofs.lemmas.Int.{ints}
use Rattle.std.proofs.lemmas.List.{drop-map, get_or-map, length-map, take-map}
use Rattle.std.proofs.lemmas.List.Elements.{All-head, All-tail}
use Rattle.std.proofs.lemmas.Option.{get_or_from_slice_get}
use Rattle.std.proofs.Math.Path.{fun_ext}
use Rattle.std.specs.List.{All, slice_range}
use Rattle.std.specs.Prelude.{slice_index, slice_index_or}
use Rattle.pt_core.specs.ClosedWalk.{origin}
use Rattle.pt_core.specs.declared.piece.Piece.{Piece}
use Rattle.pt_core.specs.declared.piece.Piece.TheVariants.{Corner}
use Rattle.pt_core.specs.declared.point.Point.{Point}
use Rattle.least_walk.specs.LeastWalk.{IsLeast, IsWalk, Step, steps_from, steps_of}
use Rattle.curve_join.specs.Bends.{bends_of}
use Rattle.curve_join.specs.Choice.{IsBestJoin, MayBeOne, cut_pieces, run_penalty, run_piece}
use Rattle.curve_join.specs.Join.{MayJoin, joined_piece, penalty_at}
use Rattle.curve_join.specs.Outline.{outline}
use Rattle.curve_join.specs.declared.bend.Bend.{Bend}
use Rattle.curve_join.proofs.Cuts.{length-bends_of, slice_length, step_there}
use Rattle.outline_copies.specs.Moved.{moved_by, piece_moved_by}
use Rattle.outline_copies.proofs.Bends.{bend_moved, bends_moved}
use Rattle.outline_copies.proofs.Lists.{mapped_range}
use Rattle.outline_copies.proofs.Runs.{joined_moved, may_join_too, penalty_stays}

-- ---- moved there and back

there_and_back : (z move : ℤ) → (z +ℤ move) +ℤ neg_ℤ move ≡ z
there_and_back z move = omega (arith, ints)

point_back : (right up : ℤ) (p : Point) → moved_by (neg_ℤ right) (neg_ℤ up) (moved_by right up p) ≡ p
point_back right up p =
    let x = there_and_back p.x right in
    let y = there_and_back p.y up in
    λ i. record { x = x i; y = y i }

bend_back : (right up : ℤ) (b : Bend) → bend_moved (neg_ℤ right) (neg_ℤ up) (bend_moved right up b) ≡ b
bend_back right up b =
    let at = point_back right up b.at in
    let start = point_back right up b.start in
    let end = point_back right up b.end in
    λ i. record b { at = at i; start = start i; end = end i }

bends_back : (right up : ℤ) (bends : List Bend) → map (bend_moved (neg_ℤ right) (neg_ℤ up)) (map (bend_moved right up) bends) ≡ bends
bends_back right up [] = refl
bends_back right up (b ∷ bends) =
    let here = bend_back right up b in
    let rest = bends_back right up bends in
    λ i. here i ∷ rest i

-- ---- runs

run_moved : (right up : ℤ) (bends : List Bend) (i j : ℕ)
    → slice_range (map (bend_moved right up) bends) i j ≡ map (bend_moved right up) (slice_range bends i j)
run_moved right up bends i j =
    ap (take (j - i)) (drop-map (bend_moved right up) i bends)
    ∙ take-map (bend_moved right up) (j - i) (drop i bends)

may_be_one_too : (right up : ℤ) (tol : ℕ) (bends : List Bend) (i j : ℕ) → MayBeOne tol bends i j → MayBeOne tol (map (bend_moved right up) bends) i j
may_be_one_too right up tol bends i j (inl next) = inl next
may_be_one_too right up tol bends i j (inr joined) =
    inr (
      omega (arith, joined.0, length-map bends (bend_moved right up)),
      subst (MayJoin tol) (sym (run_moved right up bends i j)) (may_join_too right up tol (slice_range bends i j) joined.1),
    )

may_be_one_back : (right up : ℤ) (tol : ℕ) (bends : List Bend) (i j : ℕ) → MayBeOne tol (map (bend_moved right up) bends) i j → MayBeOne tol bends i j
may_be_one_back right up tol bends i j may =
    subst (λ bs. MayBeOne tol bs i j) (bends_back right up bends)
    (may_be_one_too (neg_ℤ right) (neg_ℤ up) tol (map (bend_moved right up) bends) i j may)

same_penalty : (right up : ℤ) (bends : List Bend) → run_penalty bends ≡ run_penalty (map (bend_moved right up) bends)
same_penalty right up bends = fun_ext (λ i. fun_ext (λ j.
    ap (λ n. if nat_eq j (i + 1) then 0 else n)
    (sym (ap penalty_at (run_moved right up bends i j) ∙ penalty_stays right up (slice_range bends i j)))))

-- ---- the least cut

walk_too : (size : ℕ) (P Q : ℕ → ℕ → Type 0) → ((i j : ℕ) → P i j → Q i j) → (walk : List ℕ) → IsWalk size P walk → IsWalk size Q walk
walk_too size P Q step walk is = record {
  first = is.first;
  last = is.last;
  rises = is.rises;
  allowed = λ k d h. step (get_or (steps_of walk) k d).from (get_or (steps_of walk) k d).to (is.allowed k d h);
}

cut_too : (right up : ℤ) (tol size : ℕ) (bends : List Bend) (cut : List ℕ) → IsLeast size (MayBeOne tol bends) (run_penalty bends) cut
    → IsLeast size (MayBeOne tol (map (bend_moved right up) bends)) (run_penalty (map (bend_moved right up) bends)) cut
cut_too right up tol size bends cut best =
    let there = map (bend_moved right up) bends in
    let least = subst (λ cost. IsLeast size (MayBeOne tol bends) cost cut) (same_penalty right up bends) best in
    record {
      is_walk = walk_too size (MayBeOne tol bends) (MayBeOne tol there) (may_be_one_too right up tol bends) cut least.is_walk;
      none_before = λ other walk. least.none_before other
          (walk_too size (MayBeOne tol there) (MayBeOne tol bends) (may_be_one_back right up tol bends) other walk);
    }

-- ---- the pieces that a cut leaves

-- no index of a walk is above its last one
abbrev Rises : Step → Type 0
Rises s = s.from < s.to

below_last : (i : ℕ) (rest : List ℕ) → All Rises (steps_from i rest) → (k : ℕ) → k ≤ length rest → get_or (i ∷ rest) k 0 ≤ get_or (i ∷ rest) (length rest) 0
below_last i [] rises zero h = omega arith
below_last i [] rises (suc k) h = absurd (omega arith)
below_last i (j ∷ rest) rises zero h =
    let here = All-head Rises (record { from = i; to = j }) (steps_from j rest) rises in
    let later = below_last j rest (All-tail Rises (record { from = i; to = j }) (steps_from j rest) rises) zero (omega arith) in
    omega arith
below_last i (j ∷ rest) rises (suc k) h =
    below_last j rest (All-tail Rises (record { from = i; to = j }) (steps_from j rest) rises) k (omega arith)

walk_within : (size : ℕ) (P : ℕ → ℕ → Type 0) (walk : List ℕ) → IsWalk size P walk → (k : ℕ) → k < length walk → get_or walk k 0 ≤ size
walk_within size P [] is k h = absurd (omega arith)
walk_within size P (i ∷ rest) is k h =
    let last = get_or_from_slice_get (i ∷ rest) (length (i ∷ rest) - 1) size 0 is.last in
    let end : length (i ∷ rest) - 1 ≡ length rest = omega arith in
    let there = ap (λ n. get_or (i ∷ rest) n 0) end in
    let below = below_last i rest is.rises k (omega arith) in
    omega arith

either_moved : (right up : ℤ) (is_one : Bool) (own own' joined joined' : Piece) → own' ≡ piece_moved_by right up own → joined' ≡ piece_moved_by right up joined
    → (if is_one then own' else joined') ≡ piece_moved_by right up (if is_one then own else joined)
either_moved right up true own own' joined joined' e f = e
either_moved right up false own own' joined joined' e f = f

run_there : (right up : ℤ) (pieces : List Piece) (bends : List Bend) (i j : ℕ) → i < j → j ≤ length pieces → length bends ≡ length pieces
    → run_piece (map (piece_moved_by right up) pieces) (map (bend_moved right up) bends) i j ≡ piece_moved_by right up (run_piece pieces bends i j)
run_there right up pieces bends i j rises within one_each =
    let count = slice_length bends i j (omega arith) in
    either_moved right up (nat_eq j (i + 1))
    (slice_index_or pieces i (Corner origin origin)) (slice_index_or (map (piece_moved_by right up) pieces) i (Corner origin origin))
    (joined_piece (slice_range bends i j)) (joined_piece (slice_range (map (bend_moved right up) bends) i j))
    (get_or-map (piece_moved_by right up) pieces i (Corner origin origin) (Corner origin origin) (omega arith))
    (ap joined_piece (run_moved right up bends i j) ∙ joined_moved right up (slice_range bends i j) (omega arith))

pieces_there : (right up : ℤ) (tol : ℕ) (pieces : List Piece) (bends : List Bend) (cut : List ℕ) → length bends ≡ length pieces
    → IsWalk (length pieces) (MayBeOne tol bends) cut
    → cut_pieces (map (piece_moved_by right up) pieces) (map (bend_moved right up) bends) cut ≡ map (piece_moved_by right up) (cut_pieces pieces bends cut)
pieces_there right up tol pieces bends cut one_each is =
    mapped_range (piece_moved_by right up)
    (λ c. run_piece pieces bends (slice_index cut c) (slice_index cut (c + 1)))
    (λ c. run_piece (map (piece_moved_by right up) pieces) (map (bend_moved right up) bends) (slice_index cut c) (slice_index cut (c + 1)))
    (length cut - 1) (Corner origin origin) (Corner origin origin)
    (λ c h. run_there right up pieces bends (slice_index cut c) (slice_index cut (c + 1))
    (step_there Rises cut c (omega arith) is.rises)
    (walk_within (length pieces) (MayBeOne tol bends) cut is (c + 1) (omega arith))
    one_each)

pub joins_moved : (right up : ℤ) (tol : ℕ) (vertices : List Point) (pieces : List Piece) → length pieces ≡ length vertices → (joined : List Piece)
    → IsBestJoin tol (outline vertices pieces) joined
    → IsBestJoin tol (outline (map (moved_by right up) vertices) (map (piece_moved_by right up) pieces)) (map (piece_moved_by right up) joined)
joins_moved right up tol vertices pieces one_each joined best =
    let o = outline vertices pieces in
    let there = map (bend_moved right up) (bends_of o) in
    let bends = sym (bends_moved right up o one_each) in
    let count = sym (length-map pieces (piece_moved_by right up)) in
    let least = cut_too right up tol (length pieces) (bends_of o) best.cut best.least in
    record {
      cut = best.cut;
      least = subst (λ bs. IsLeast (length (map (piece_moved_by right up) pieces)) (MayBeOne tol bs) (run_penalty bs) best.cut) bends
          (subst (λ n. IsLeast n (MayBeOne tol there) (run_penalty there) best.cut) count least);
      joined = ap (map (piece_moved_by right up)) best.joined
          ∙ sym (pieces_there right up tol pieces (bends_of o) best.cut (length-bends_of o) best.least.is_walk)
          ∙ ap (λ bs. cut_pieces (map (piece_moved_by right up) pieces) bs best.cut) bends;
    }

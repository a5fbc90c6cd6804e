-- A run of moved bends may be joined exactly if the run may, and has the same penalty.
use Rattle.std.proofs.Common.{◌≡◌, ℕ, ◌+◌, ◌-◌, ◌^◌, ◌<◌, ℤ, pos, ◌+ℤ◌, ◌*ℤ◌, ◌<ℤ◌, ◌≤ℤ◌, List, [], ◌∷◌, length, get_or, map, take, sym, ap, ◌∙◌, subst, refl, arith}
use Rattle.std.proofs.lemmas.List.{get_or-map, length-map, take-map}
use Rattle.std.proofs.lemmas.List.Elements.{All-map}
use Rattle.std.proofs.lemmas.List.Folds.{fold-map}
use Rattle.std.proofs.Math.Path.{fun_ext}
use Rattle.std.specs.List.{All}
use Rattle.std.specs.Prelude.{sum_by, unsigned_abs}
use Rattle.pt_core.specs.declared.point.Point.{Point}
use Rattle.pt_core.specs.declared.piece.Piece.TheVariants.{Curve}
use Rattle.curve_join.specs.Cubic.{Encloses, Meet, alpha_of, cross_of_tangents, cubic_of, led, meeting_of, touching_of}
use Rattle.curve_join.specs.Join.{CoversPiece, FollowsSide, GoesRound, IsNearBy, MayJoin, alpha_at, area_at, cubic_at, excess_of, first_bend, inner_bends, joined_piece, last_bend, meeting_at, no_bend, not_below_zero, penalty_at, piece_penalty, sense_at, share_of, side_penalty, tangents_at, total_area, touched_from, triangle_at}
use Rattle.curve_join.specs.Vector.{GoesNoFarther, dot_of, sense_of, towards, vector_cross, way_of}
use Rattle.curve_join.specs.declared.bend.Bend.{Bend}
use Rattle.curve_join.specs.declared.cubic.Cubic.{Cubic}
use Rattle.curve_join.specs.declared.sense.Sense.{Sense}
use Rattle.curve_join.specs.declared.vector.Displacement.{Displacement}
use Rattle.outline_copies.specs.Moved.{moved_by, piece_moved_by}
use Rattle.outline_copies.proofs.Bends.{bend_moved, way_stays}
use Rattle.outline_copies.proofs.Cubics.{cubic_moved, cubic_of_moved, led_moved, touching_moved}

module _ (right up : ℤ) where
  -- ---- a run's numbers

  area_stays : (start : Point) (run : List Bend) → total_area (moved_by right up start) (map (bend_moved right up) run) ≡ total_area start run
  area_stays start [] = refl
  area_stays start (b ∷ run) =
      let v = way_stays right up start b.start in
      let w = way_stays right up start b.end in
      let rest = area_stays start run in
      λ i. (b.area +ℤ pos 10 *ℤ vector_cross (v i) (w i)) +ℤ rest i

  module _ (run : List Bend) (some : 0 < length run) where
    first_there : first_bend (map (bend_moved right up) run) ≡ bend_moved right up (first_bend run)
    first_there = get_or-map (bend_moved right up) run 0 no_bend no_bend some

    last_there : last_bend (map (bend_moved right up) run) ≡ bend_moved right up (last_bend run)
    last_there =
        ap (λ n. get_or (map (bend_moved right up) run) (n - 1) no_bend) (length-map run (bend_moved right up))
        ∙ get_or-map (bend_moved right up) run (length run - 1) no_bend no_bend (omega arith)

    inner_there : inner_bends (map (bend_moved right up) run) ≡ map (bend_moved right up) (inner_bends run)
    inner_there =
        ap (λ n. take (n - 1) (map (bend_moved right up) run)) (length-map run (bend_moved right up))
        ∙ take-map (bend_moved right up) (length run - 1) run

    same_sense : sense_at (map (bend_moved right up) run) ≡ sense_at run
    same_sense = ap (λ (b : Bend). sense_of b.turn) first_there

    meeting_there : meeting_at (map (bend_moved right up) run) ≡ moved_by right up (meeting_at run)
    unfolding meeting_of
    meeting_there =
        let f = first_bend run in
        let l = last_bend run in
        let leaves = way_stays right up f.start f.at in
        let chord = way_stays right up f.start l.end in
        let arrives = way_stays right up l.at l.end in
        (λ i. led (first_there i).start (way_of (first_there i).start (first_there i).at)
        (towards (same_sense i) (vector_cross (way_of (first_there i).start (last_there i).end) (way_of (last_there i).at (last_there i).end)))
        (unsigned_abs (vector_cross (way_of (first_there i).start (first_there i).at) (way_of (last_there i).at (last_there i).end))))
        ∙ (λ i. led (moved_by right up f.start) (leaves i) (towards (sense_at run) (vector_cross (chord i) (arrives i))) (unsigned_abs (vector_cross (leaves i) (arrives i))))
        ∙ led_moved right up f.start (way_of f.start f.at) (towards (sense_at run) (vector_cross (way_of f.start l.end) (way_of l.at l.end)))
        (unsigned_abs (vector_cross (way_of f.start f.at) (way_of l.at l.end)))

    same_triangle : triangle_at (map (bend_moved right up) run) ≡ triangle_at run
    same_triangle =
        let f = first_bend run in
        let l = last_bend run in
        let before = way_stays right up f.start (meeting_at run) in
        let after = way_stays right up (meeting_at run) l.end in
        (λ i. vector_cross (way_of (first_there i).start (meeting_there i)) (way_of (meeting_there i) (last_there i).end))
        ∙ (λ i. vector_cross (before i) (after i))

    same_area : area_at (map (bend_moved right up) run) ≡ area_at run
    same_area = ap (λ (b : Bend). total_area b.start (map (bend_moved right up) run)) first_there ∙ area_stays (first_bend run).start run

    same_alpha : alpha_at (map (bend_moved right up) run) ≡ alpha_at run
    unfolding alpha_at
    same_alpha = λ i. alpha_of (unsigned_abs (same_triangle i)) (unsigned_abs (same_area i))

    cubic_there : cubic_at (map (bend_moved right up) run) ≡ cubic_moved right up (cubic_at run)
    unfolding cubic_at
    cubic_there =
        (λ i. cubic_of (first_there i).start (meeting_there i) (last_there i).end (same_alpha i))
        ∙ cubic_of_moved right up (first_bend run).start (meeting_at run) (last_bend run).end (alpha_at run)

    pub joined_moved : joined_piece (map (bend_moved right up) run) ≡ piece_moved_by right up (joined_piece run)
    joined_moved = λ i. Curve (cubic_there i).first (cubic_there i).second (last_there i).end (same_alpha i)

  -- ---- a side and a piece

  module _ (c : Cubic) (b : Bend) where
    same_touched : touched_from (cubic_moved right up c) (bend_moved right up b) ≡ touched_from c b
    same_touched =
        ap (way_of (moved_by right up b.at)) (touching_moved right up c b.leaves)
        ∙ way_stays right up b.at (touching_of c b.leaves)

    same_side : side_penalty (cubic_moved right up c) (bend_moved right up b) ≡ side_penalty c b
    same_side = ap (λ w. share_of (unsigned_abs (vector_cross b.leaves w)) b.leaves_square) same_touched

    side_too : (tol : ℕ) → FollowsSide tol c b → FollowsSide tol (cubic_moved right up c) (bend_moved right up b)
    side_too tol is =
        let back = sym same_touched in
        record {
          some = is.some;
          near = subst (λ w. IsNearBy tol (unsigned_abs (vector_cross b.leaves w)) b.leaves_square) back is.near;
          not_before = subst (λ w. pos 0 ≤ℤ dot_of b.leaves w) back is.not_before;
          not_behind = subst (λ w. dot_of b.leaves w ≤ℤ pos b.leaves_square) back is.not_behind;
        }

    same_reach : way_of (moved_by right up b.start) (touching_of (cubic_moved right up c) b.chord) ≡ way_of b.start (touching_of c b.chord)
    same_reach =
        ap (way_of (moved_by right up b.start)) (touching_moved right up c b.chord)
        ∙ way_stays right up b.start (touching_of c b.chord)

    same_excess : (sense : Sense) → excess_of sense (cubic_moved right up c) (bend_moved right up b) ≡ excess_of sense c b
    same_excess sense = ap (λ w. not_below_zero (b.bulge +ℤ towards sense (vector_cross b.chord w))) same_reach

    same_cover : (sense : Sense) → piece_penalty sense (cubic_moved right up c) (bend_moved right up b) ≡ piece_penalty sense c b
    same_cover sense = ap (λ n. share_of n b.chord_square) (same_excess sense)

    piece_too : (tol : ℕ) (sense : Sense) → CoversPiece tol sense c b → CoversPiece tol sense (cubic_moved right up c) (bend_moved right up b)
    piece_too tol sense is = record {
      some = is.some;
      near = subst (λ n. IsNearBy tol n b.chord_square) (sym (same_excess sense)) is.near;
    }

  round_too : (sense : Sense) (arrives : Displacement) (b : Bend) → GoesRound sense arrives b → GoesRound sense arrives (bend_moved right up b)
  round_too sense arrives b is = record { curve = is.curve; turns = is.turns; less_than_half = is.less_than_half }

  -- ---- whether a run may be joined

  each_too : (P Q : Bend → Type 0) → ((b : Bend) → P b → Q (bend_moved right up b)) → (run : List Bend) → All P run → All Q (map (bend_moved right up) run)
  each_too P Q step run all = All-map Q (bend_moved right up) run (λ k d h. step (get_or run k d) (all k d h))

  sums_stay : (f g : Bend → ℕ) → ((b : Bend) → f (bend_moved right up b) ≡ g b) → (run : List Bend) → sum_by f (map (bend_moved right up) run) ≡ sum_by g run
  sums_stay f g each run = fold-map (λ (a : ℕ) (x : Bend). a + f x) (bend_moved right up) 0 run ∙ ap (λ h. sum_by h run) (fun_ext each)

  module _ (tol : ℕ) (run : List Bend) (may : MayJoin tol run) where
    some_bends : 0 < length run
    some_bends = (let h = may.some in omega arith)

    tangents_too : Meet (sense_at (map (bend_moved right up) run)) (tangents_at (map (bend_moved right up) run))
    tangents_too =
        let f = first_bend run in
        let l = last_bend run in
        let first = first_there run some_bends in
        let last = last_there run some_bends in
        let sense = sym (same_sense run some_bends) in
        let there = meeting_there run some_bends in
        let is = may.tangents in
        let cross : cross_of_tangents (tangents_at run) ≡ cross_of_tangents (tangents_at (map (bend_moved right up) run))
        = sym ((λ i. vector_cross (way_of (first i).start (first i).at) (way_of (last i).at (last i).end))
        ∙ (λ i. vector_cross (way_stays right up f.start f.at i) (way_stays right up l.at l.end i))) in
        let before : way_of f.start (meeting_at run) ≡ way_of (first_bend (map (bend_moved right up) run)).start (meeting_at (map (bend_moved right up) run))
        = sym ((λ i. way_of (first i).start (there i)) ∙ way_stays right up f.start (meeting_at run)) in
        let after : way_of (meeting_at run) l.end ≡ way_of (meeting_at (map (bend_moved right up) run)) (last_bend (map (bend_moved right up) run)).end
        = sym ((λ i. way_of (there i) (last i).end) ∙ way_stays right up (meeting_at run) l.end) in
        let behind : way_of l.end (meeting_at run) ≡ way_of (last_bend (map (bend_moved right up) run)).end (meeting_at (map (bend_moved right up) run))
        = sym ((λ i. way_of (last i).end (there i)) ∙ way_stays right up l.end (meeting_at run)) in
        record {
          turn = subst (λ z. pos 0 <ℤ z) (λ i. towards (sense i) (cross i)) is.turn;
          near_start = subst (GoesNoFarther (2 ^ 27)) before is.near_start;
          near_end = subst (GoesNoFarther (2 ^ 27)) behind is.near_end;
          beyond = subst (λ z. pos 0 <ℤ z) (λ i. towards (sense i) (vector_cross (before i) (after i))) is.beyond;
        }

    area_too : Encloses (sense_at (map (bend_moved right up) run)) (triangle_at (map (bend_moved right up) run)) (area_at (map (bend_moved right up) run))
    area_too =
        let s = sym (same_sense run some_bends) in
        let t = sym (same_triangle run some_bends) in
        let a = sym (same_area run some_bends) in
        let there = map (bend_moved right up) run in
        subst (λ z. Encloses (sense_at there) (triangle_at there) z) a
        (subst (λ z. Encloses (sense_at there) z (area_at run)) t
        (subst (λ z. Encloses z (triangle_at run) (area_at run)) s may.area))

    round_there : All (GoesRound (sense_at (map (bend_moved right up) run)) (first_bend (map (bend_moved right up) run)).arrives) (map (bend_moved right up) run)
    round_there =
        let there = map (bend_moved right up) run in
        let s = sym (same_sense run some_bends) in
        let first = sym (first_there run some_bends) in
        subst (λ (z : Sense). All (GoesRound z (first_bend there).arrives) there) s
        (subst (λ (f : Bend). All (GoesRound (sense_at run) f.arrives) there) first
        (each_too (GoesRound (sense_at run) (first_bend run).arrives) (GoesRound (sense_at run) (first_bend run).arrives)
        (round_too (sense_at run) (first_bend run).arrives) run may.round))

    sides_there : All (FollowsSide tol (cubic_at (map (bend_moved right up) run))) (inner_bends (map (bend_moved right up) run))
    sides_there =
        let c = sym (cubic_there run some_bends) in
        let inner = sym (inner_there run some_bends) in
        subst (λ (k : Cubic). All (FollowsSide tol k) (inner_bends (map (bend_moved right up) run))) c
        (subst (All (FollowsSide tol (cubic_moved right up (cubic_at run)))) inner
        (each_too (FollowsSide tol (cubic_at run)) (FollowsSide tol (cubic_moved right up (cubic_at run)))
        (λ b. side_too (cubic_at run) b tol) (inner_bends run) may.sides))

    pieces_there : All (CoversPiece tol (sense_at (map (bend_moved right up) run)) (cubic_at (map (bend_moved right up) run))) (map (bend_moved right up) run)
    pieces_there =
        let there = map (bend_moved right up) run in
        let s = sym (same_sense run some_bends) in
        let c = sym (cubic_there run some_bends) in
        subst (λ (z : Sense). All (CoversPiece tol z (cubic_at there)) there) s
        (subst (λ (k : Cubic). All (CoversPiece tol (sense_at run) k) there) c
        (each_too (CoversPiece tol (sense_at run) (cubic_at run)) (CoversPiece tol (sense_at run) (cubic_moved right up (cubic_at run)))
        (λ b. piece_too (cubic_at run) b tol (sense_at run)) run may.pieces))

    pub may_join_too : MayJoin tol (map (bend_moved right up) run)
    may_join_too =
        let count = length-map run (bend_moved right up) in
        let some = may.some in
        let few = may.few in
        record {
          some = omega arith;
          few = omega arith;
          round = round_there;
          tangents = tangents_too;
          area = area_too;
          sides = sides_there;
          pieces = pieces_there;
        }

  -- ---- the penalty of a run

  penalty_of_some : (run : List Bend) → 0 < length run → penalty_at (map (bend_moved right up) run) ≡ penalty_at run
  unfolding penalty_at
  penalty_of_some run some =
      let c = cubic_there run some in
      let s = same_sense run some in
      let inner = inner_there run some in
      (λ i. sum_by (side_penalty (c i)) (inner i) + sum_by (piece_penalty (s i) (c i)) (map (bend_moved right up) run))
      ∙ (λ i. sums_stay (side_penalty (cubic_moved right up (cubic_at run))) (side_penalty (cubic_at run)) (same_side (cubic_at run)) (inner_bends run) i
      + sums_stay (piece_penalty (sense_at run) (cubic_moved right up (cubic_at run))) (piece_penalty (sense_at run) (cubic_at run))
      (λ b. same_cover (cubic_at run) b (sense_at run)) run i)

  pub penalty_stays : (run : List Bend) → penalty_at (map (bend_moved right up) run) ≡ penalty_at run
  penalty_stays [] = refl
  penalty_stays (b ∷ run) = penalty_of_some (b ∷ run) (omega arith)

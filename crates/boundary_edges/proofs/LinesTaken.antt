-- What is taken away along a closed walk's lines, one line after another.
use Rattle.std.proofs.Common.{◌≡◌, ℕ, suc, ◌+◌, ◌<◌, ◌≤◌, Bool, true, false, not, cond, ◌&&◌, ◌||◌, nat_lt, List, [], ◌∷◌, length, get_or, count_by, refl, ap, sym, subst, ◌∙◌, arith}
use Rattle.std.proofs.lemmas.Bool.Decides.{nat_tests}
use Rattle.std.proofs.lemmas.List.Sums.{sum_by-cons}
use Rattle.pt_core.specs.ClosedWalk.{origin, IsUnitStep, IsClosedWalk}
use Rattle.pt_core.specs.declared.point.Point.{Point}
use Rattle.boundary_edges.specs.GridEdges.{GridEdge}
use Rattle.boundary_edges.specs.Inside.{line_between, lines_of}
use Rattle.boundary_edges.specs.Inner.Blocks.{spread, AreBlocks}
use Rattle.boundary_edges.specs.Inner.BoundaryBits.{has_edge, is_along}
use Rattle.boundary_edges.specs.Inner.Taken.{lines_from, is_along_any, AreTakenBy, AreLinesTaken}
use Rattle.boundary_edges.proofs.Corners.{lines_to-drop, lines_to-end, lines_of-drop}
use Rattle.boundary_edges.proofs.EdgeBits.{or_false}
use Rattle.boundary_edges.proofs.LineSpots.{step_at}

pub step_next : (points : List Point) (k : ℕ) → IsClosedWalk points → k + 1 < length points → IsUnitStep (get_or points k origin) (get_or points (k + 1) origin)
step_next points k closed short =
    let next : suc k ≡ k + 1 = omega arith in
    subst (λ n. IsUnitStep (get_or points k origin) (get_or points n origin)) next (step_at points k closed (omega (arith, short)))

is_along_any-cons : (line : GridEdge) (lines : List GridEdge) (k u v : ℕ) → is_along_any (line ∷ lines) k u v ≡ is_along k u v line || is_along_any lines k u v
is_along_any-cons line lines k u v =
    ap (nat_lt 0) (sum_by-cons (λ l. cond (is_along k u v l) 1 0) line lines) ∙ one_or_more (is_along k u v line) (count_by (is_along k u v) lines)
  where
    one_or_more : (b : Bool) (n : ℕ) → nat_lt 0 (cond b 1 0 + n) ≡ b || nat_lt 0 n
    one_or_more true n = grind (arith, nat_tests)
    one_or_more false n = ap (nat_lt 0) (omega arith)

neither : (edge a b : Bool) → (edge && not a) && not b ≡ edge && not (a || b)
neither true true b = refl
neither true false b = refl
neither false a b = refl

pub taken_more : (rows : ℕ) (starts : List ℕ) (points : List Point) (j : ℕ) (old words new : List ℕ) → AreLinesTaken rows starts points j old words → j + 1 < length points
    → AreTakenBy rows starts (λ k u v. is_along k u v (line_between (get_or points j origin) (get_or points (j + 1) origin))) words new
    → AreLinesTaken rows starts points (j + 1) old new
taken_more rows starts points j old words new far short now =
    record {
      blocks = now.blocks;
      edges = λ k u v p.
          let line = line_between (get_or points j origin) (get_or points (j + 1) origin) in
          let after = lines_from points (j + 1) in
          let edge = has_edge rows (spread starts words) k u v in
          ap (λ t. t && not (is_along_any after k u v)) (now.edges k u v p)
          ∙ neither edge (is_along k u v line) (is_along_any after k u v)
          ∙ ap (λ t. edge && not t) (sym (is_along_any-cons line after k u v))
          ∙ ap (λ ls. edge && not (is_along_any ls k u v)) (sym (lines_to-drop (get_or points 0 origin) (get_or points j origin) points (j + 1) origin short))
          ∙ far.edges k u v p;
    }

-- nothing is taken away yet
pub none_taken : (rows : ℕ) (starts : List ℕ) (points : List Point) (words : List ℕ) → 1 ≤ length points → AreBlocks starts words → AreLinesTaken rows starts points 0 words words
none_taken rows starts points words some blocks =
    record { blocks = blocks; edges = λ k u v p. ap (λ ls. has_edge rows (spread starts words) k u v && not (is_along_any ls k u v)) (sym (lines_of-drop points origin some)) }

-- the last line goes back to the first corner
pub all_taken : (rows : ℕ) (starts : List ℕ) (points : List Point) (at last : ℕ) (old words new : List ℕ) → at ≡ last → last + 1 ≡ length points → AreLinesTaken rows starts points at old words
    → AreTakenBy rows starts (λ k u v. is_along k u v (line_between (get_or points last origin) (get_or points 0 origin))) words new
    → AreTakenBy rows starts (is_along_any (lines_of points)) old new
all_taken rows starts points at last old words new here end far now =
    record {
      blocks = now.blocks;
      edges = λ k u v p.
          let first = get_or points 0 origin in
          let line = line_between (get_or points last origin) first in
          let edge = has_edge rows (spread starts words) k u v in
          now.edges k u v p
          ∙ ap (λ t. edge && not t) (sym (is_along_any-cons line [] k u v ∙ or_false (is_along k u v line)))
          ∙ ap (λ ls. edge && not (is_along_any ls k u v)) (sym (ap (λ n. lines_from points n) here ∙ lines_to-end first (get_or points last origin) points (last + 1) (omega (arith, end))))
          ∙ far.edges k u v p;
    }

-- another test that says the same
pub taken_same : (rows : ℕ) (starts : List ℕ) (f g : ℕ → ℕ → ℕ → Bool) (old new : List ℕ) → ((k u v : ℕ) → f k u v ≡ g k u v) → AreTakenBy rows starts f old new → AreTakenBy rows starts g old new
taken_same rows starts f g old new same taken =
    record { blocks = taken.blocks; edges = λ k u v p. taken.edges k u v p ∙ ap (λ t. has_edge rows (spread starts old) k u v && not t) (same k u v) }

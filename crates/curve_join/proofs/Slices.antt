-- Runs as slices of the list of bends.
use Rattle.std.proofs.Common.{◌≡◌, ℕ, ◌+◌, ◌-◌, ◌≤◌, Bool, true, false, cond, nat_eq, List, length, drop, length-drop, Option, None, Some, IsTrue, ◌↔◌, inl, inr, refl, ap, ◌∙◌, arith}
use Rattle.std.proofs.lemmas.Bool.Decides.{nat_tests}
use Rattle.std.proofs.lemmas.List.{length-take}
use Rattle.std.specs.Prelude.{is_some}
use Rattle.std.specs.List.{slice_range}
use Rattle.pt_core.specs.declared.piece.Piece.{Piece}
use Rattle.curve_join.specs.Choice.{MayBeOne, run_penalty}
use Rattle.curve_join.proofs.RunPenalties.{IsJoinGiven}
use Rattle.curve_join.specs.Join.{MayJoin, joined_piece, penalty_at}
use Rattle.curve_join.specs.declared.bend.Bend.{Bend}

if_false : (b : Bool) (n : ℕ) → b ≡ false → n ≡ cond b 0 n
if_false true n e = absurd (cc e)
if_false false n e = refl

-- the end of a run of several pieces is on the outline, and at most 64 pieces away
module _ (bends : List Bend) (tol i j : ℕ) (more : ¬ (j - i ≡ 1)) where
  pub ends_within : MayBeOne tol bends i j → j ≤ length bends
  ends_within (inl next) = absurd (more (omega arith))
  ends_within (inr is) = is.0

  pub ends_near : MayBeOne tol bends i j → j ≤ i + 64
  ends_near (inl next) = omega arith
  ends_near (inr is) =
      let few = is.1.few in
      omega (arith, is.0, length-take (j - i) (drop i bends), length-drop i bends)

-- a run that is a slice of the bends
module _ (bends run : List Bend) (i j : ℕ) (same : run ≡ slice_range bends i j) (more : ¬ (j - i ≡ 1)) where
  pub joinable : (tol : ℕ) → MayBeOne tol bends i j → MayJoin tol run
  joinable tol (inl next) = absurd (more (omega arith))
  joinable tol (inr is) = rw same (is.1)

  pub may_be_one : (tol : ℕ) → j ≤ length bends → MayJoin tol run → MayBeOne tol bends i j
  may_be_one tol within may = inr (within, rw same at may)

  pub penalty_of : penalty_at run ≡ run_penalty bends i j
  penalty_of =
      let other : ¬ (j ≡ i + 1) = λ e. more (omega arith) in
      let choice : nat_eq j (i + 1) ≡ false = grind (arith, nat_tests) in
      ap penalty_at same ∙ if_false (nat_eq j (i + 1)) (penalty_at (slice_range bends i j)) choice

  pub penalty_is : (piece : Piece) (penalty : ℕ) → ◌≡◌ {A = Piece × ℕ} (piece, penalty) (joined_piece run, penalty_at run) → penalty ≡ run_penalty bends i j
  penalty_is piece penalty is = ap (λ both. both.1) is ∙ penalty_of

  pub allowed_is : (tol : ℕ) (found : Option (Piece × ℕ)) (answer : Bool) → j ≤ length bends → answer ≡ is_some found → IsJoinGiven tol run found
      → IsTrue answer ↔ MayBeOne tol bends i j
  allowed_is tol (Some both) answer within is given = (λ _. may_be_one tol within given.holds, λ _. is)
  allowed_is tol None answer within is given = (λ yes. absurd (cc), λ may. absurd (given (joinable tol may)))

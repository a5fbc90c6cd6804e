-- A run's piece and penalty, as the code returns them if the run may be joined.
use Rattle.std.proofs.Common.{◌≡◌, ◌≤◌, ℕ, List, Option, None, Some, IfSome, IfNone, ap, ◌∙◌}
use Rattle.pt_core.specs.declared.piece.Piece.{Piece}
use Rattle.curve_join.specs.Inner.Conditions.{IsGivenIf}
use Rattle.curve_join.specs.Join.{MayJoin, joined_piece, penalty_at}
use Rattle.curve_join.specs.declared.bend.Bend.{Bend}

-- two pairs are equal if both parts are
pub both_are : {A : Type 0} {B : Type 0} {a a' : A} {b b' : B} → a ≡ a' → b ≡ b' → ◌≡◌ {A = A × B} (a, b) (a', b')
both_are {A = A} {B = B} {a' = a'} {b = b} e f =
    let left : A → A × B = λ x. (x, b) in
    let right : B → A × B = λ y. (a', y) in
    ap left e ∙ ap right f

-- the answer for a run: its piece and penalty if it may be joined, else none
abbrev pub IsJoinGiven : ℕ → List Bend → Option (Piece × ℕ) → Type 0
IsJoinGiven tol run found = IsGivenIf {A = Piece × ℕ} (MayJoin tol run) (joined_piece run, penalty_at run) found

module _ (tol : ℕ) (run : List Bend) where
  -- a limit rules nothing out if no penalty is above it
  pub unlimited : (limit : ℕ) (found : Option (Piece × ℕ)) → (MayJoin tol run → penalty_at run ≤ limit)
      → IsGivenIf {A = Piece × ℕ} (MayJoin tol run × (penalty_at run ≤ limit)) (joined_piece run, penalty_at run) found → IsJoinGiven tol run found
  unlimited limit (Some answer) few is = record { holds = is.holds.0; is = is.is }
  unlimited limit None few is = λ may. is (may, few may)

  pub if_some : (found : Option (Piece × ℕ)) → IsJoinGiven tol run found → IfSome found (λ _. MayJoin tol run)
  if_some (Some answer) is = is.holds
  if_some None is = tt

  pub if_piece : (found : Option (Piece × ℕ)) → IsJoinGiven tol run found → IfSome found (λ both. both.0 ≡ joined_piece run)
  if_piece (Some answer) is = ap (λ both. both.0) is.is
  if_piece None is = tt

  pub if_penalty : (found : Option (Piece × ℕ)) → IsJoinGiven tol run found → IfSome found (λ both. both.1 ≡ penalty_at run)
  if_penalty (Some answer) is = ap (λ both. both.1) is.is
  if_penalty None is = tt

  pub if_none : (found : Option (Piece × ℕ)) → IsJoinGiven tol run found → IfNone found (¬ MayJoin tol run)
  if_none (Some answer) is = tt
  if_none None is = is

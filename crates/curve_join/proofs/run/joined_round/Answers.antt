use Rattle.std.proofs.Common.{◌≡◌, ◌+◌, ◌-◌, length, ap, ◌∙◌, arith}
use Rattle.std.proofs.lemmas.List.{length-take}
use Rattle.std.proofs.lemmas.List.Elements.{All-take}
use Rattle.curve_join.specs.Inner.Bends.{IsWorkable}
use Rattle.curve_join.specs.Inner.Costs.{joined_small}
use Rattle.curve_join.specs.Join.{MayJoin, penalty_at}
use Rattle.curve_join.proofs.RunPenalties.{both_are}
use Rattle.curve_join.proofs.JoinedRuns.{joined_is, may_join, not_curved, penalty_there, pieces_within, sides_within}
use Rattle.curve_join.proofs.run.joined_round.Goals as goal

-- the curve is the run's, and the run may be joined with this penalty
module _ (c : goal.After-piece) where
  may : MayJoin c.args.tol c.args.run.now.bends.now
  may =
      may_join c.args.tol c.args.run.now.bends.now c.of-stand_in.result.cubic (c.of-stand_in.ensures ∙ ap (λ both. both.0) c.in-Some.ensures.given.is) c.sense.result c.sense.ensures
      c.args.run.now.some c.args.run.now.few c.requires.round
      c.in-Some.ensures.given.holds.0 c.in-Some.ensures.given.holds.1 c.in-Some-sides_penalty.ensures.holds.0 c.in-Some-pieces_penalty.ensures.holds.0

  penalty_is : c.in-Some-sides_penalty.sides + c.in-Some-pieces_penalty.pieces ≡ penalty_at c.args.run.now.bends.now
  penalty_is =
      penalty_there c.args.tol c.args.run.now.bends.now c.of-stand_in.result.cubic (c.of-stand_in.ensures ∙ ap (λ both. both.0) c.in-Some.ensures.given.is) c.sense.result c.sense.ensures
      c.in-Some-sides_penalty.sides c.in-Some-pieces_penalty.pieces c.in-Some-sides_penalty.ensures.is c.in-Some-pieces_penalty.ensures.is

pub returns-in_default : goal.returns-in_default
returns-in_default c = λ both. not_curved c.args.tol c.args.run.now.bends.now c.in_default.ensures.given both.0

pub returns-in_default-sides_penalty : goal.returns-in_default-sides_penalty
returns-in_default-sides_penalty c = λ both.
    c.in_default-sides_penalty.ensures (sides_within c.args.tol c.args.run.now.bends.now c.of-stand_in.result.cubic (c.of-stand_in.ensures ∙ ap (λ both. both.0) c.in-Some.ensures.given.is) c.args.limit both.0 both.1)

pub returns-in_default-pieces_penalty : goal.returns-in_default-pieces_penalty
returns-in_default-pieces_penalty c = λ both.
    c.in_default-pieces_penalty.ensures
    (pieces_within c.args.tol c.args.run.now.bends.now c.of-stand_in.result.cubic (c.of-stand_in.ensures ∙ ap (λ both. both.0) c.in-Some.ensures.given.is) c.sense.result c.sense.ensures
    c.in-Some-sides_penalty.sides c.args.limit c.in-Some-sides_penalty.ensures.is both.0 both.1)

pub returns : goal.returns
returns c = record {
  holds = (may c, omega (arith, penalty_is c, c.in-Some-sides_penalty.ensures.is, c.in-Some-sides_penalty.ensures.holds.1, c.in-Some-pieces_penalty.ensures.is, c.in-Some-pieces_penalty.ensures.holds.1));
  is = both_are
      (c.piece.ensures ∙ joined_is c.args.run.now.bends.now c.in-Some.cubic c.in-Some.alpha (ap (λ both. both.0) c.in-Some.ensures.given.is) (ap (λ both. both.1) c.in-Some.ensures.given.is))
      (penalty_is c);
}

pub sides_penalty-requires-clause-small : goal.sides_penalty-requires-clause-small
sides_penalty-requires-clause-small c = All-take IsWorkable (length c.args.run.now.bends.now - 1) c.args.run.now.bends.now c.args.run.now.small

pub slice_bounds-inner-count : goal.slice_bounds-inner-count
slice_bounds-inner-count c = omega (arith, c.args.run.now.some)

pub slice_bounds-inner-length : goal.slice_bounds-inner-length
slice_bounds-inner-length c = omega (arith, length-take (length c.args.run.now.bends.now - 1) c.args.run.now.bends.now)

pub sides_penalty-requires-clause-tol : goal.sides_penalty-requires-clause-tol
sides_penalty-requires-clause-tol c = c.requires.tol

pub sides_penalty-requires-clause-few : goal.sides_penalty-requires-clause-few
sides_penalty-requires-clause-few c = omega (arith, c.args.run.now.few, length-take (length c.args.run.now.bends.now - 1) c.args.run.now.bends.now)

pub pieces_penalty-requires-clause-tol : goal.pieces_penalty-requires-clause-tol
pieces_penalty-requires-clause-tol c = c.requires.tol

pub pieces_penalty-requires-clause-small : goal.pieces_penalty-requires-clause-small
pieces_penalty-requires-clause-small c = c.args.run.now.small

pub pieces_penalty-requires-clause-few : goal.pieces_penalty-requires-clause-few
pieces_penalty-requires-clause-few c = c.args.run.now.few

pub overflow_add-result : goal.overflow_add-result
overflow_add-result c = record { fits = omega (arith, penalty_is c, joined_small c.args.tol c.requires.tol c.args.run.now.bends.now (may c)) }

pub of-stand_in-requires : goal.of-stand_in-requires
of-stand_in-requires c = c.in-Some.ensures.near

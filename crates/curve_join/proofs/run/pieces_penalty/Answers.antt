use Rattle.std.proofs.Common.{◌≡◌, ap, ◌∙◌, ◌+◌, refl, sym, subst, take, arith}
use Rattle.std.proofs.lemmas.List.{take_all, get_or_default}
use Rattle.std.proofs.lemmas.List.Elements.{AllWithin-more}
use Rattle.std.proofs.lemmas.List.Sums.{sum_by_more, sum_by-take-le}
use Rattle.std.specs.Prelude.{sum_by}
use Rattle.curve_join.specs.Join.{CoversPiece, no_bend, piece_penalty}
use Rattle.curve_join.proofs.RunSums.{piece_most, sums_fit}
use Rattle.curve_join.proofs.run.pieces_penalty.Goals as goal

pub loop-bend-init : goal.loop-bend-init
loop-bend-init c = record { each = λ k d above below. absurd (omega (arith, below)); total = refl; most = omega arith; within = omega arith }

pub offset_bounds-bends-bend-index : goal.offset_bounds-bends-bend-index
offset_bounds-bends-bend-index c = record { fits = omega (arith, c.loop-bend-test.true, c.requires.few) }

pub bounds-bends-bend-index : goal.bounds-bends-bend-index
bounds-bends-bend-index c = c.loop-bend-test.true

pub piece_share-requires-clause-tol : goal.piece_share-requires-clause-tol
piece_share-requires-clause-tol c = c.requires.tol

pub piece_share-requires-clause-small : goal.piece_share-requires-clause-small
piece_share-requires-clause-small c = c.requires.small _ _ c.loop-bend-test.true

pub returns-in_default : goal.returns-in_default
returns-in_default c = λ both. c.in_default.ensures (both.0 _ _ c.loop-bend-test.true)

pub overflow_add-total : goal.overflow_add-total
overflow_add-total c = record { fits = sums_fit c.loop-bend.bend-index c.loop-bend.total c.in-Some.penalty _ c.loop-bend-test.true c.requires.few c.loop-bend.invariant.most (piece_most c.requires.tol c.in-Some.ensures) }

pub loop-bend-preserved : goal.loop-bend-preserved
loop-bend-preserved c = let so_far = c.loop-bend.invariant in
    let i = c.loop-bend.bend-index in
    let bends = c.args.bends.now in
    let here = c.loop-bend-test.true in
    let sense = c.args.sense in
    let cubic = c.args.stand_in.now.cubic in
    let most = piece_most c.requires.tol c.in-Some.ensures in
    let most-2 = so_far.most in
    record {
      each = AllWithin-more (CoversPiece c.args.tol sense cubic) bends 0 i so_far.each
          (λ d. subst (λ b. CoversPiece c.args.tol sense cubic b) (get_or_default bends i no_bend d here) c.in-Some.ensures.holds);
      total = ap (λ n. n + c.in-Some.penalty) so_far.total
          ∙ ap (λ n. sum_by (piece_penalty sense cubic) (take i bends) + n) c.in-Some.ensures.is
          ∙ sym (sum_by_more (piece_penalty sense cubic) bends i no_bend here);
      most = omega (arith, most, most-2);
      within = omega (arith, c.if-limit-total.false);
    }

pub returns-then-limit-total : goal.returns-then-limit-total
returns-then-limit-total c = λ both.
    let i = c.loop-bend.bend-index in
    let bends = c.args.bends.now in
    let share = piece_penalty c.args.sense c.args.stand_in.now.cubic in
    let so_far = sum_by_more share bends i no_bend c.loop-bend-test.true in
    omega (arith, both.1, c.loop-bend.invariant.total, c.in-Some.ensures.is, so_far, sum_by-take-le share bends (i + 1), c.if-limit-total.true)

pub returns : goal.returns
returns c =
    let bends = c.args.bends.now in
    let total : c.loop-bend.total ≡ sum_by (piece_penalty c.args.sense c.args.stand_in.now.cubic) bends = c.loop-bend.invariant.total ∙ ap (λ bends. sum_by (piece_penalty c.args.sense c.args.stand_in.now.cubic) bends) (take_all c.loop-bend.bend-index bends c.loop-bend-test.false) in
    record {
      holds = (
        λ k d within. c.loop-bend.invariant.each k d (omega arith) (omega (arith, within, c.loop-bend-test.false)),
        omega (arith, total, c.loop-bend.invariant.within),
      );
      is = total;
    }

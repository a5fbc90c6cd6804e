-- Both have to hold.
use Rattle.std.proofs.lemmas.Bool.{and_parts}
use Rattle.path_copies.proofs.Comparing.{both_true}
use Rattle.path_copies.proofs.compare.lie_alike.Goals as goal

pub returns : goal.returns
returns c =
    let right = c.is_as_far_right.result in
    let above = c.is_as_far_above.result in (
      λ both. (c.is_as_far_right.ensures.0 (and_parts right above both).0, c.is_as_far_above.ensures.0 (and_parts right above both).1),
      λ far. both_true right above (c.is_as_far_right.ensures.1 far.0) (c.is_as_far_above.ensures.1 far.1),
    )

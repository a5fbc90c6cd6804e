-- The walk is that of a path, and once its edges are taken away all is white through its start.
use Rattle.std.proofs.Common.{sym, subst}
use Rattle.bit_image.specs.Page.{image_of}
use Rattle.path_decompose.specs.Inner.Start.{IsWhiteThrough}
use Rattle.path_decompose.proofs.Walked.{walk_fits, white_through}
use Rattle.path_decompose.proofs.WalkLines.{walk_closed, walk_corners, walk_once, walk_there}
use Rattle.path_decompose.proofs.decomposition.next_path.Goals as goal

pub take_away-requires-clause-closed : goal.take_away-requires-clause-closed
take_away-requires-clause-closed c =
    rw c.deref.ensures.value
    (walk_closed _ _ _ _ _ _ _ _ c.requires.first c.in_ok-walk_round.ensures.walk c.width.ensures.fits c.width.ensures.page.most_width c.width.ensures.page.most_height)

pub take_away-requires-clause-corners : goal.take_away-requires-clause-corners
take_away-requires-clause-corners c = rw c.deref.ensures.value (walk_corners _ _ _ _ _ _ _ _ c.requires.first c.in_ok-walk_round.ensures.walk c.width.ensures.fits)

pub take_away-requires-clause-fits : goal.take_away-requires-clause-fits
take_away-requires-clause-fits c = rw c.deref.ensures.value (walk_fits _ _ _ _ _ _ _ _ c.requires.first c.in_ok-walk_round.ensures.walk c.width.ensures.fits)

pub take_away-requires-clause-once : goal.take_away-requires-clause-once
take_away-requires-clause-once c = rw c.deref.ensures.value (walk_once _ _ _ _ _ _ c.requires.first c.in_ok-walk_round.ensures.walk)

pub take_away-requires-clause-edges : goal.take_away-requires-clause-edges
take_away-requires-clause-edges c = rw c.deref.ensures.value (walk_there _ _ _ _ _ _ c.requires.first c.in_ok-walk_round.ensures.walk)

pub returns-clause-inverted : goal.returns-clause-inverted
returns-clause-inverted c = λ u v left. rw (← c.deref.ensures.value) (c.take_away.ensures.pixels u v)

pub returns-clause-white : goal.returns-clause-white
returns-clause-white c =
    let rest = c.args.rest.now in
    subst (λ width. IsWhiteThrough (image_of c.take_away.new.self) width c.args.x c.args.y) (sym c.take_away.ensures.sides.width)
    (white_through (image_of rest) (image_of c.take_away.new.self) _ _ _ _ _ _ c.requires.first c.in_ok-walk_round.ensures.walk (c.width.ensures.fits _ _ c.requires.first.black).0
    (λ u v left. rw (← c.deref.ensures.value) (c.take_away.ensures.pixels u v)))

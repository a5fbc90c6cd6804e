use Rattle.std.proofs.Common.{sym, subst, arith}
use Rattle.path_cones.specs.Inner.Corners.{AreNextCorners}
use Rattle.path_cones.proofs.Written.{whole}
use Rattle.path_cones.proofs.corners.corners_of.Goals as goal

pub fill_corners-requires-clause-places : goal.fill_corners-requires-clause-places
fill_corners-requires-clause-places c = omega (arith, c.deref_mut.ensures.len, c.in_ok-corners.ensures.len, c.size.ensures.value)

pub returns-clause-places : goal.returns-clause-places
returns-clause-places c =
    let len = c.deref_mut.ensures.len in
    let places = c.fill_corners.ensures.places in
    let size = c.in_ok-corners.ensures.len in
    rw (whole c.fill_corners.new.corners _ c.in_ok-corners.corners.len (omega (arith, len, places))) (omega (arith, places, len, size, c.size.ensures.value))

pub returns-clause-corners : goal.returns-clause-corners
returns-clause-corners c =
    let same = whole c.fill_corners.new.corners _ c.in_ok-corners.corners.len (omega (arith, c.deref_mut.ensures.len, c.fill_corners.ensures.places)) in
    subst (AreNextCorners c.args.laps.now) (sym same) c.fill_corners.ensures.corners

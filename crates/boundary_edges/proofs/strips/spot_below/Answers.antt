-- In the same block, or in the last row of the one before.
use Rattle.std.proofs.Common.{◌+◌, ◌-◌, ◌*◌, ◌/◌, get_or, refl, ◌∙◌, arith}
use Rattle.boundary_edges.proofs.EdgeTaken.{stands_below, begins_below}
use Rattle.boundary_edges.proofs.strips.spot_below.Goals as goal

pub returns-then-spot-ne0 : goal.returns-then-spot-ne0
returns-then-spot-ne0 c =
    let strip = c.args.x / 64 * c.args.rows in
    let moved = stands_below c.args.starts.now (strip + c.args.y) (strip + (c.args.y - 1)) c.args.spot.down c.requires.below.start c.requires.spot.place (omega (arith, c.requires.row)) (omega (arith, c.if-spot-ne0.true)) in
    record { block = c.requires.spot.block ∙ moved.0; place = moved.1; bit = c.requires.spot.bit }

pub returns-else-spot-ne0 : goal.returns-else-spot-ne0
returns-else-spot-ne0 c =
    let starts = c.args.starts.now in
    let strip = c.args.x / 64 * c.args.rows in
    let before = begins_below starts (strip + c.args.y) (strip + (c.args.y - 1)) c.args.spot.down c.args.spot.block (get_or starts (c.args.spot.block - 1) 0) c.requires.below.start c.requires.spot.place (omega (arith, c.requires.row)) (omega (arith, c.if-spot-ne0.false)) c.requires.spot.block in
    record { block = before.0; place = before.1 refl; bit = c.requires.spot.bit }

-- In the same block, or where the next one begins.
use Rattle.std.proofs.Common.{◌+◌, ◌*◌, ◌/◌, get_or, refl, ◌∙◌, arith}
use Rattle.boundary_edges.proofs.EdgeTaken.{stands_above, begins_above}
use Rattle.boundary_edges.proofs.strips.spot_above.Goals as goal

pub returns-then-down-ne0 : goal.returns-then-down-ne0
returns-then-down-ne0 c =
    let strip = c.args.x / 64 * c.args.rows in
    let moved = stands_above c.args.starts.now (strip + c.args.y) (strip + (c.args.y + 1)) c.args.spot.down c.requires.above.start c.requires.spot.place (omega arith) (omega (arith, c.if-down-ne0.true)) in
    record { block = c.requires.spot.block ∙ moved.0; place = moved.1; bit = c.requires.spot.bit }

pub returns-else-down-ne0 : goal.returns-else-down-ne0
returns-else-down-ne0 c =
    let starts = c.args.starts.now in
    let strip = c.args.x / 64 * c.args.rows in
    let next = begins_above starts (strip + c.args.y) (strip + (c.args.y + 1)) c.args.spot.down c.args.spot.block (get_or starts (c.args.spot.block + 1) 0) c.requires.above.start c.requires.spot.place (omega arith) (omega (arith, c.if-down-ne0.false)) c.requires.spot.block in
    record { block = next.0; place = next.1 refl; bit = c.requires.spot.bit }

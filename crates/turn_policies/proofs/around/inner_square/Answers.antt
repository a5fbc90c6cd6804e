-- Each step reads one more row, and in the end all eight rows are read.
use Rattle.std.proofs.Common.{◌≡◌, subst, arith}
use Rattle.bit_image.specs.Page.{image_of}
use Rattle.turn_policies.proofs.Square.{IsSquareTo, no_rows, next_row, all_rows}
use Rattle.turn_policies.proofs.around.inner_square.Goals as goal

pub loop-j-init : goal.loop-j-init
loop-j-init c = no_rows (image_of c.args.page.now) c.args.x c.args.y

pub loop-j-preserved : goal.loop-j-preserved
loop-j-preserved c =
    next_row c.loop-j.pixels c.inner_row.result c.loop-j.j (image_of c.args.page.now) c.args.x c.args.y (omega arith) c.inner_row.ensures.small c.loop-j.invariant c.inner_row.ensures.pixels

pub returns : goal.returns
returns c =
    let whole : c.loop-j.j ≡ 8 = omega arith in
    all_rows c.loop-j.pixels (image_of c.args.page.now) c.args.x c.args.y
    (subst (λ n. IsSquareTo n c.loop-j.pixels (image_of c.args.page.now) c.args.x c.args.y) whole c.loop-j.invariant)

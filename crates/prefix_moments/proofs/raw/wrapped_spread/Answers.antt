use Rattle.std.proofs.Common.{pos, w64, rules}
use Rattle.std.specs.Int.RustNames.{FitsSigned}
use Rattle.prefix_moments.proofs.Wrapping.{whole, sum, difference, product}
use Rattle.prefix_moments.proofs.raw.wrapped_spread.Goals as goal

pub returns : goal.returns
returns c =
    let s = c.args.sums in
    let fits_x : FitsSigned w64 s.x = search rules in
    let fits_y : FitsSigned w64 s.y = search rules in
    let fits_xx : FitsSigned w64 s.xx = search rules in
    let fits_xy : FitsSigned w64 s.xy = search rules in
    let fits_yy : FitsSigned w64 s.yy = search rules in
    let x = whole s.x fits_x in
    let y = whole s.y fits_y in
    let xx = whole s.xx fits_xx in
    let xy = whole s.xy fits_xy in
    let yy = whole s.yy fits_yy in
    let count = whole c.args.count c.ranges.count in
    let right = whole c.args.right c.ranges.right in
    let above = whole c.args.above c.ranges.above in
    let number = whole c.args.number c.ranges.number in
    let two = whole (pos 2) (search rules) in
    let mixed = product _ _ _ _ (product _ _ _ _ right xy) two in
    let squares = sum _ _ _ _ (product _ _ _ _ above (difference _ _ _ _ (product _ _ _ _ above xx) mixed)) (product _ _ _ _ (product _ _ _ _ right right) yy) in
    let products = difference _ _ _ _ (product _ _ _ _ above x) (product _ _ _ _ right y) in
    let rest = difference _ _ _ _ (product _ _ _ _ count number) (product _ _ _ _ products two) in
    let all = sum _ _ _ _ squares (product _ _ _ _ number rest) in
    all.wrapped

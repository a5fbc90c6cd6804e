use Rattle.std.proofs.Common.{◌≡◌, ◌+◌, ◌-◌, ◌*ℤ◌, ◌-ℤ◌, ◌≤ℤ◌, pos, w64, to_z, of_z, refl, ap, ◌∙◌, arith}
use Rattle.std.proofs.lemmas.Int.{ints, to_z-of_z}
use Rattle.std.specs.Prelude.{unsigned_abs}
use Rattle.pt_core.specs.ClosedWalk.{point_at}
use Rattle.pt_core.proofs.Sizes.{back}
use Rattle.prefix_moments.specs.Sums.{spread_of, rightward_of, above_of}
use Rattle.prefix_moments.proofs.Cornered.{wrapped_total}
use Rattle.prefix_moments.proofs.Fitting.{coordinate_is}
use Rattle.prefix_moments.proofs.Prefixes.{segment_is, whole_back}
use Rattle.prefix_moments.proofs.Totals.{right_is, above_is, total_at_least}
use Rattle.prefix_moments.proofs.start.Start.total.Goals as goal

is : (c : goal.After-wrapped_spread-total) → c.wrapped_spread-total.result ≡ spread_of c.args.self.now.moments.now c.args.self.now.from c.args.to
is c =
    let start = c.args.self.now in
    let points = start.moments.now in
    let i = start.from in
    let j = c.args.to in
    let on_page = c.row.ensures.on_page in
    let r = c.raw-sums.ensures in
    let rest = segment_is points on_page i j c.row.result start.before c.minus.result c.requires.onwards (omega (arith, c.requires.steps))
    c.row.ensures.value start.before_is c.minus.ensures in
    let sums = whole_back points on_page i (j - i + 1) c.minus.result c.raw-sums.result (omega (arith, c.requires.steps)) rest r.x r.y r.xx r.xy r.yy in
    let here = start.on_page in
    let last = c.place-last.ensures in
    let right : to_z w64 (of_z w64 c.between-right.result) ≡ rightward_of points i j =
    back c.between-right.result (omega (arith, c.between-right.ensures.most))
    ∙ right_is points i j start.place c.place-last.result c.between-right.result here last.on_page start.place_is last.value c.between-right.ensures.value in
    let above : to_z w64 (of_z w64 c.between-above.result) ≡ above_of points i j =
    back c.between-above.result (omega (arith, c.between-above.ensures.most))
    ∙ above_is points i j start.place c.place-last.result c.between-above.result here last.on_page start.place_is last.value c.between-above.ensures.value in
    let x = coordinate_is start.place.x c.from.result here.left here.right c.from.ensures ∙ ap (λ v. v.x) start.place_is in
    let y = coordinate_is start.place.y c.from-2.result here.bottom here.top c.from-2.ensures ∙ ap (λ v. v.y) start.place_is in
    let number : to_z w64 (of_z w64 c.crossed-start.result) ≡ (point_at points i).x *ℤ above_of points i j -ℤ (point_at points i).y *ℤ rightward_of points i j =
    to_z-of_z w64 c.crossed-start.result (record { sfits = c.crossed-start.type_inv }) ∙ c.crossed-start.ensures ∙ rw (x, y, right, above) refl in
    wrapped_total points i j c.raw-sums.result (to_z w64 (of_z w64 c.from-3.result)) (to_z w64 (of_z w64 c.between-right.result))
    (to_z w64 (of_z w64 c.between-above.result)) (to_z w64 (of_z w64 c.crossed-start.result)) c.wrapped_spread-total.result
    sums (to_z-of_z w64 c.from-3.result (record { sfits = c.from-3.type_inv }) ∙ c.from-3.ensures) right above number c.requires.small c.wrapped_spread-total.ensures

pub overflow_cast-result : goal.overflow_cast-result
overflow_cast-result c =
    let e = is c in
    let at_least : pos 0 ≤ℤ c.wrapped_spread-total.result = total_at_least c.args.self.now.moments.now c.args.self.now.from c.args.to c.wrapped_spread-total.result e in
    let most = c.wrapped_spread-total.type_inv in
    (omega (arith, ints), omega (arith, ints))

same : (c : goal.After-wrapped_spread-total)
    → unsigned_abs (to_z w64 (of_z w64 c.wrapped_spread-total.result)) ≡ unsigned_abs (spread_of c.args.self.now.moments.now c.args.self.now.from c.args.to)
same c = ap unsigned_abs (to_z-of_z w64 c.wrapped_spread-total.result (record { sfits = c.wrapped_spread-total.type_inv }) ∙ is c)

pub returns-clause-value : goal.returns-clause-value
returns-clause-value c = same c

pub returns-clause-most : goal.returns-clause-most
returns-clause-most c = omega (arith, same c, c.requires.small)

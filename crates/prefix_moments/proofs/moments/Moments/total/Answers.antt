use Rattle.std.proofs.Common.{◌≡◌, ◌≤ℤ◌, pos, w64, arith, rules}
use Rattle.std.proofs.lemmas.Int.{ints}
use Rattle.std.specs.Int.RustNames.{FitsSigned}
use Rattle.prefix_moments.specs.Sums.{spread_of}
use Rattle.prefix_moments.proofs.Totals.{total_from, total_at_least, total_back}
use Rattle.prefix_moments.proofs.moments.Moments.total.Goals as goal

pub overflow_cast-result : goal.overflow_cast-result
overflow_cast-result c =
    let s = c.sums-sums.result in
    let first = c.place-first.ensures in
    let last = c.place-last.ensures in
    let xx : FitsSigned w64 s.xx = search rules in
    let xy : FitsSigned w64 s.xy = search rules in
    let yy : FitsSigned w64 s.yy = search rules in
    let is : c.spread-total.result ≡ spread_of c.args.self.now c.args.i c.args.j =
    total_from c.args.self.now c.args.i c.args.j s c.place-first.result c.place-last.result c.between-right.result c.between-above.result c.spread-total.result
    first.on_page last.on_page first.value last.value c.sums-sums.ensures xx xy yy c.between-right.ensures.most c.between-above.ensures.most
    c.between-right.ensures.value c.between-above.ensures.value c.spread-total.ensures.value in
    let at_least : pos 0 ≤ℤ c.spread-total.result = total_at_least c.args.self.now c.args.i c.args.j c.spread-total.result is in
    let most = c.spread-total.ensures.most in
    (omega (arith, ints), omega (arith, ints))

pub returns-clause-value : goal.returns-clause-value
returns-clause-value c =
    let s = c.sums-sums.result in
    let first = c.place-first.ensures in
    let last = c.place-last.ensures in
    let xx : FitsSigned w64 s.xx = search rules in
    let xy : FitsSigned w64 s.xy = search rules in
    let yy : FitsSigned w64 s.yy = search rules in
    let is : c.spread-total.result ≡ spread_of c.args.self.now c.args.i c.args.j =
    total_from c.args.self.now c.args.i c.args.j s c.place-first.result c.place-last.result c.between-right.result c.between-above.result c.spread-total.result
    first.on_page last.on_page first.value last.value c.sums-sums.ensures xx xy yy c.between-right.ensures.most c.between-above.ensures.most
    c.between-right.ensures.value c.between-above.ensures.value c.spread-total.ensures.value in
    total_back c.spread-total.result (spread_of c.args.self.now c.args.i c.args.j) is c.spread-total.ensures.most

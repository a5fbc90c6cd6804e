use Rattle.std.proofs.Common.{arith}
use Rattle.polygon_search.proofs.Reaching.{leads_on, segment_up_to}
use Rattle.polygon_search.proofs.Rising.{lasts_rise}
use Rattle.polygon_search.proofs.Small.{possible_small, possible_cheap}
use Rattle.polygon_search.proofs.segments.Segments.of.Goals as goal

pub invariant_of-result : goal.invariant_of-result
invariant_of-result c =
    let points = c.args.moments.now in
    let lasts = c.args.lasts.items in
    let closed = c.requires.closed in
    let has = c.requires.lasts in
    record {
      same = c.requires.points;
      some = omega (arith, closed.least);
      few = omega (arith, closed.most);
      on_page = c.requires.on_page;
      places = has.places;
      onwards = leads_on points lasts has;
      small = λ i j below up. possible_small points i j closed (segment_up_to points lasts has i j up).possible;
      cheap = λ i j below up. possible_cheap points i j closed (segment_up_to points lasts has i j up).possible;
      rising = lasts_rise points lasts has;
    }

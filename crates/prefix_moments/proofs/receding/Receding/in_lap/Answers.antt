use Rattle.std.proofs.Common.{◌<◌, length, arith}
use Rattle.prefix_moments.proofs.Rows.{listed, listed_on_page}
use Rattle.prefix_moments.proofs.receding.Receding.in_lap.Goals as goal

pub sums_in_lap-requires-clause-first : goal.sums_in_lap-requires-clause-first
sums_in_lap-requires-clause-first c = listed c.args.points.now c.args.moments.now c.args.from c.requires.points (omega (arith, c.requires.onwards, c.requires.lap))

pub sums_in_lap-requires-clause-on_page : goal.sums_in_lap-requires-clause-on_page
sums_in_lap-requires-clause-on_page c =
    listed_on_page c.args.points.now c.args.moments.now c.args.from c.requires.points (omega (arith, c.requires.onwards, c.requires.lap)) c.requires.on_page

pub invariant_of-result : goal.invariant_of-result
invariant_of-result c =
    let points = c.args.moments.now in
    let list = c.args.points.now in
    let here : c.args.from < length points = omega (arith, c.requires.onwards, c.requires.lap) in
    record {
      point = here;
      onwards = c.requires.onwards;
      steps = c.requires.steps;
      lap = omega (arith, c.requires.lap);
      on_page = c.requires.on_page;
      first_on_page = listed_on_page list points c.args.from c.requires.points here c.requires.on_page;
      last_on_page = listed_on_page list points c.args.to c.requires.points c.requires.lap c.requires.on_page;
      first_is = listed list points c.args.from c.requires.points here;
      last_is = listed list points c.args.to c.requires.points c.requires.lap;
      sums_are = c.sums_in_lap.ensures;
    }

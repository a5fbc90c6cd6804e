use Rattle.std.proofs.Common.{refl, arith}
use Rattle.prefix_moments.proofs.Rows.{listed, listed_on_page}
use Rattle.half_penalties.proofs.halves.place.Goals as goal

pub returns-then-at-points-clause-on_page : goal.returns-then-at-points-clause-on_page
returns-then-at-points-clause-on_page c = listed_on_page c.args.points.now c.args.points.now 0 refl c.requires.some c.requires.on_page

pub returns : goal.returns
returns c =
    let points = c.args.points.now in
    let below = c.if-at-points.false in
    let lap = c.requires.lap in
    record {
      value = listed points points c.args.k refl (omega arith);
      on_page = listed_on_page points points c.args.k refl (omega arith) c.requires.on_page;
    }

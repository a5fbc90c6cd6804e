use Rattle.std.proofs.Common.{subst}
use Rattle.pt_core.specs.OnPage.{AreOnPage}
use Rattle.prefix_moments.proofs.Rows.{listed, listed_on_page}
use Rattle.prefix_moments.proofs.moments.Moments.place_in_lap.Goals as goal

pub returns : goal.returns
returns c =
    let list = c.self.inside.points.now in
    record {
      value = listed list c.args.self.now c.args.k c.self.view_is c.requires;
      on_page = listed_on_page list c.args.self.now c.args.k c.self.view_is c.requires (subst AreOnPage c.self.view_is c.self.invariant.on_page);
    }

use Rattle.std.proofs.Common.{ℕ, ◌<◌, ◌^◌, List, sym, subst}
use Rattle.std.specs.Prelude.{unsigned_abs}
use Rattle.pt_core.specs.declared.point.Point.{Point}
use Rattle.pt_core.specs.OnPage.{AreOnPage}
use Rattle.prefix_moments.specs.Sums.{spread_of}
use Rattle.straight_paths.specs.Straight.{IsPossible}
use Rattle.polygon_search.specs.Polygon.{penalty_of}
use Rattle.polygon_search.proofs.Small.{possible_cheap, possible_small}
use Rattle.cyclic_optimal.proofs.sides.WalkSegments.of.Goals as goal

pub invariant_of-result-clause-small : goal.invariant_of-result-clause-small
invariant_of-result-clause-small c =
    let P : List Point → Type 0 = λ points. (i j : ℕ) → IsPossible points i j → unsigned_abs (spread_of points i j) < 2 ^ 48 in
    subst P (sym c.requires.moments) (λ i j possible. possible_small c.args.points.now i j c.requires.closed possible)

pub invariant_of-result-clause-on_page : goal.invariant_of-result-clause-on_page
invariant_of-result-clause-on_page c = subst AreOnPage (sym c.requires.moments) c.requires.on_page

pub invariant_of-result-clause-cheap : goal.invariant_of-result-clause-cheap
invariant_of-result-clause-cheap c =
    let P : List Point → Type 0 = λ points. (i j : ℕ) → IsPossible points i j → penalty_of points i j < 2 ^ 24 in
    subst P (sym c.requires.moments) (λ i j possible. possible_cheap c.args.points.now i j c.requires.closed possible)

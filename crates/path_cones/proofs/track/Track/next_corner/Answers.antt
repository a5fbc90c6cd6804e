use Rattle.std.proofs.Common.{◌≡◌, ◌∙◌, ℕ, ◌<◌, List, length, get_or, sym, subst}
use Rattle.std.proofs.lemmas.List.{get_or_default}
use Rattle.pt_core.specs.declared.point.Point.{Point}
use Rattle.path_cones.specs.Inner.Corners.{AreNextCorners}
use Rattle.path_cones.specs.Corners.{IsNextCorner}
use Rattle.path_cones.proofs.track.Track.next_corner.Goals as goal

module _ (laps now : List Point) (corners : List ℕ) (point : ℕ) (seen : laps ≡ now) (places : length corners ≡ length laps) (inside : point < length now) where
  there : point < length corners
  there = rw (places, seen) inside

  next : (corner : ℕ) → AreNextCorners laps corners → corner ≡ get_or corners point corner → IsNextCorner now point corner
  next corner all is =
      let here : point < length laps = rw seen inside in
      subst (λ points. IsNextCorner points point corner) seen
      (subst (IsNextCorner laps point) (sym (is ∙ get_or_default corners point corner 0 there)) (all point here))

pub index-requires : goal.index-requires
index-requires c =
    let corners = c.self.inside.corners in
    subst (λ n. c.args.point < n) (sym corners.ok.0) (there c.self.inside.laps c.args.self.now corners.items c.args.point c.self.view_is c.self.invariant.places c.requires)

pub returns : goal.returns
returns c =
    next c.self.inside.laps c.args.self.now c.self.inside.corners.items c.args.point c.self.view_is c.self.invariant.places c.requires
    c.index.result.now c.self.invariant.corners c.index.ensures

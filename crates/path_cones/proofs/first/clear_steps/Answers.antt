use Rattle.std.proofs.Common.{◌≡◌, ℕ, pos, sym, ◌∙◌, ap, subst, arith}
use Rattle.std.proofs.lemmas.Int.{ints}
use Rattle.path_cones.specs.Straight.{path_from}
use Rattle.path_cones.specs.Inner.Cones.{IsShort}
use Rattle.path_cones.specs.Inner.Wedges.{far_of}
use Rattle.path_cones.proofs.Stairs.{stairs_up, walk_unit}
use Rattle.path_cones.proofs.first.clear_steps.Goals as goal

pub scan_up-requires-clause-stairs : goal.scan_up-requires-clause-stairs
scan_up-requires-clause-stairs c =
    let points = c.args.track.now in
    let first : ℕ = c.args.first in
    let most : ℕ = c.args.most in
    let q = c.of-quarter.result in
    let walk = c.way-way.ensures.closed in
    let few = walk.most in
    let h = c.requires.subpath.short_of_lap in
    let size = c.far.ensures.most in
    let value = c.far.ensures.value in
    let t = c.if-far-most.true in
    let full : c.far.result ≡ pos most = omega (arith, ints) in
    let is = c.way-way.ensures.value in
    stairs_up q (path_from points first) c.of-quarter.ensures.quarter (walk_unit points first walk) most
    (ap (far_of q) (sym is) ∙ sym value ∙ full) (subst (IsShort 65535) is c.way-way.ensures.short)

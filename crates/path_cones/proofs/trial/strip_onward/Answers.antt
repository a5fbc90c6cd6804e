use Rattle.std.proofs.Common.{◌≡◌, ◌≤◌, ℕ, ◌^◌, ℤ, pos, neg_ℤ, ◌+ℤ◌, Option, None, Some, IfSome, List, unsigned_abs, w64, to_z, of_z, sym, ap, ◌∙◌, subst, arith}
use Rattle.std.proofs.lemmas.Int.{ints}
use Rattle.pt_core.specs.declared.point.Point.{Point}
use Rattle.path_cones.specs.Straight.{path_from}
use Rattle.path_cones.specs.Inner.Strips.{AreInSpan, GoesAllOnward, HoldsPath, IsExtent, IsSpan, IsStrip, StaysIn, across_at, right_at, up_at}
use Rattle.path_cones.specs.Inner.Tails.{way_along}
use Rattle.path_cones.specs.declared.quarter.Quarter.{Quarter}
use Rattle.path_cones.specs.declared.vector.Vector.{Vector}
use Rattle.path_cones.specs.declared.strip.Extent.{Extent}
use Rattle.path_cones.specs.declared.strip.Span.{Span}
use Rattle.path_cones.specs.declared.strip.Strip.{Strip}
use Rattle.path_cones.proofs.Quarters.{sign_most}
use Rattle.path_cones.proofs.Stairs.{stairs_extent, stairs_up, walk_unit}
use Rattle.path_cones.proofs.trial.strip_onward.Goals as goal

module _ (points : List Point) (first most : ℕ) (quarter : Quarter) (onward : Vector) (on : GoesAllOnward points first most quarter onward) where
  abbrev path : ℕ → Point
  path = path_from points first

  sum : (right_at quarter path most +ℤ up_at quarter path most) ≡ pos most
  sum = ap (λ (z : ℤ). z +ℤ up_at quarter path most) (sym on.right) ∙ ap (λ (z : ℤ). onward.x +ℤ z) (sym on.up) ∙ on.all

  x_most : unsigned_abs onward.x ≤ 65535
  x_most = subst (λ (z : ℤ). unsigned_abs z ≤ 65535) (sym on.right) (sign_most quarter.right (way_along path most).x 65535 on.is_quarter.right on.short.x)

  y_most : unsigned_abs onward.y ≤ 65535
  y_most = subst (λ (z : ℤ). unsigned_abs z ≤ 65535) (sym on.up) (sign_most quarter.up (way_along path most).y 65535 on.is_quarter.up on.short.y)

  -- a number that is passed on
  passed : (z g : ℤ) → unsigned_abs z ≤ 65535 → g ≡ to_z w64 (of_z w64 z) → g ≡ z
  passed z g h e = omega (arith, ints)

  extent_is : (way : Vector) (across right up : Span) → IsSpan (neg_ℤ (pos (2 ^ 34))) (pos (2 ^ 34)) across → AreInSpan across (across_at way path) most
      → right.least ≡ pos 0 → right.greatest ≡ to_z w64 (of_z w64 onward.x) → up.least ≡ pos 0 → up.greatest ≡ to_z w64 (of_z w64 onward.y)
      → IsExtent quarter way path most (record { across = across; right = right; up = up })
  extent_is way across right up small inside right_low right_high up_low up_high =
      let x = x_most in
      let y = y_most in
      let to_x = passed onward.x right.greatest x right_high in
      let to_y = passed onward.y up.greatest y up_high in
      stairs_extent quarter path on.is_quarter (walk_unit points first on.walk) most sum way across right up small inside
      right_low (to_x ∙ on.right) (omega (arith, ints)) up_low (to_y ∙ on.up) (omega (arith, ints))

pub sway_along-sway-requires-clause-stairs : goal.sway_along-sway-requires-clause-stairs
sway_along-sway-requires-clause-stairs c =
    let on = c.requires.onward in
    stairs_up c.args.quarter (path_from c.args.track.now c.args.first) on.is_quarter (walk_unit c.args.track.now c.args.first on.walk) c.args.most
    (sum c.args.track.now c.args.first c.args.most c.args.quarter c.args.onward on) on.short

pub strip-requires-clause-small : goal.strip-requires-clause-small
strip-requires-clause-small c =
    (extent_is c.args.track.now c.args.first c.args.most c.args.quarter c.args.onward c.requires.onward c.args.way c.sway_along-sway.result.span c.up_to.result c.up_to-2.result
    c.sway_along-sway.ensures.small c.sway_along-sway.ensures.span c.up_to.ensures.least c.up_to.ensures.greatest c.up_to-2.ensures.least c.up_to-2.ensures.greatest).small

both : (o : Option Strip) (P Q R : Strip → Type 0) → ((strip : Strip) → P strip → Q strip → R strip) → IfSome o P → IfSome o Q → IfSome o R
both None P Q R to h k = h
both (Some strip) P Q R to h k = to strip h k

pub returns-clause-strip : goal.returns-clause-strip
returns-clause-strip c =
    let path = path_from c.args.track.now c.args.first in
    let extent : Extent = record { across = c.sway_along-sway.result.span; right = c.up_to.result; up = c.up_to-2.result } in
    let is = extent_is c.args.track.now c.args.first c.args.most c.args.quarter c.args.onward c.requires.onward c.args.way c.sway_along-sway.result.span c.up_to.result
    c.up_to-2.result c.sway_along-sway.ensures.small c.sway_along-sway.ensures.span c.up_to.ensures.least c.up_to.ensures.greatest c.up_to-2.ensures.least
    c.up_to-2.ensures.greatest in
    both c.strip.result IsStrip (λ (strip : Strip). (path : ℕ → Point) (count : ℕ) → IsExtent c.args.quarter c.args.way path count extent → StaysIn strip path count)
    (λ (strip : Strip). HoldsPath strip path c.args.most)
    (λ strip is_strip stays. record { is_strip = is_strip; stays = stays path c.args.most is })
    c.strip.ensures.strip c.strip.ensures.stays

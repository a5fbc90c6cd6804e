use Rattle.std.proofs.Common.{◌≡◌, ℕ, ℤ, pos, ◌*ℤ◌, ◌+ℤ◌, ◌≤ℤ◌, Option, None, Some, IfSome, w64, to_z, of_z, ap, ◌∙◌, subst, arith}
use Rattle.std.proofs.lemmas.Int.{ints}
use Rattle.pt_core.specs.declared.point.Point.{Point}
use Rattle.path_cones.specs.Cones.{cross_of}
use Rattle.path_cones.specs.Straight.{path_from}
use Rattle.path_cones.specs.Inner.Strips.{HoldsPath, IsExtent, IsStrip, StaysIn, TakesIn, across_at, right_at, up_at}
use Rattle.path_cones.specs.declared.vector.Vector.{Vector}
use Rattle.path_cones.specs.declared.strip.Strip.{Strip}
use Rattle.path_cones.proofs.Bounds.{crossed}
use Rattle.path_cones.proofs.Extents.{extent_on}
use Rattle.path_cones.proofs.trial.strip_by_extent.Goals as goal

pub loop-steps-init : goal.loop-steps-init
loop-steps-init c = record {
  within = omega arith;
  extent = c.at_start-extent.ensures c.of-quarter.result c.args.way (path_from c.args.track.now c.args.first);
  ends = c.at_start-ends.ensures c.args.most;
}

pub with-requires-clause-small : goal.with-requires-clause-small
with-requires-clause-small c = c.loop-steps.invariant.extent.small

pub with-requires-clause-across : goal.with-requires-clause-across
with-requires-clause-across c =
    let most = crossed c.args.way c.way-place.result c.cross-across.result c.requires.short c.way-place.ensures.short c.cross-across.ensures in
    record { least = omega (arith, ints); most = omega (arith, ints) }

pub loop-steps-preserved : goal.loop-steps-preserved
loop-steps-preserved c =
    let s = c.loop-steps.steps in
    let next = c.run_end-next.result in
    let path = path_from c.args.track.now c.args.first in
    let inv = c.loop-steps.invariant in
    let new = c.in-Some.ensures in
    let most = crossed c.args.way c.way-place.result c.cross-across.result c.requires.short c.way-place.ensures.short c.cross-across.ensures in
    let place = c.way-place.ensures.value in
    let crossing : to_z w64 (of_z w64 c.cross-across.result) ≡ c.cross-across.result = omega (arith, ints) in
    let across : to_z w64 (of_z w64 c.cross-across.result) ≡ across_at c.args.way path next = crossing ∙ c.cross-across.ensures ∙ ap (cross_of c.args.way) place in
    let right : c.turned.result.x ≡ right_at c.of-quarter.result path next =
    c.turned.ensures.x ∙ ap (λ (o : Vector). c.of-quarter.result.right *ℤ o.x) place in
    let up : c.turned.result.y ≡ up_at c.of-quarter.result path next = c.turned.ensures.y ∙ ap (λ (o : Vector). c.of-quarter.result.up *ℤ o.y) place in
    let old = c.loop-steps.extent in
    record {
      within = c.run_end-next.ensures.within;
      extent = extent_on c.of-quarter.result c.args.way path s next old c.in-Some.farther c.run_end-next.ensures.later c.run_end-next.ensures.run inv.extent new.small
          (subst (λ (z : ℤ). TakesIn old.across z c.in-Some.farther.across) across new.across_in)
          (subst (λ (z : ℤ). TakesIn old.right z c.in-Some.farther.right) right new.right)
          (subst (λ (z : ℤ). TakesIn old.up z c.in-Some.farther.up) up new.up)
          (subst (λ (z : ℤ). old.right.greatest ≤ℤ (z +ℤ pos 1)) right new.on_right)
          (subst (λ (z : ℤ). old.up.greatest ≤ℤ (z +ℤ pos 1)) up new.on_up);
      ends = c.with-ends.ensures c.args.most c.run_end-next.ensures.within inv.ends;
    }

pub strip-requires-clause-small : goal.strip-requires-clause-small
strip-requires-clause-small c = c.loop-steps.invariant.extent.small

both : (o : Option Strip) (P Q R : Strip → Type 0) → ((strip : Strip) → P strip → Q strip → R strip) → IfSome o P → IfSome o Q → IfSome o R
both None P Q R to h k = h
both (Some strip) P Q R to h k = to strip h k

pub returns-clause-strip : goal.returns-clause-strip
returns-clause-strip c =
    let path = path_from c.args.track.now c.args.first in
    let inv = c.loop-steps.invariant in
    let end : c.loop-steps.steps ≡ c.args.most = omega (arith, inv.within) in
    both c.strip.result IsStrip (λ (strip : Strip). (path : ℕ → Point) (count : ℕ)
    → IsExtent c.of-quarter.result c.args.way path count c.loop-steps.extent → StaysIn strip path count)
    (λ (strip : Strip). HoldsPath strip path c.args.most)
    (λ strip is stays. record { is_strip = is; stays = subst (StaysIn strip path) end (stays path c.loop-steps.steps inv.extent) })
    c.strip.ensures.strip c.strip.ensures.stays

pub returns-in_default-clause-ends : goal.returns-in_default-clause-ends
returns-in_default-clause-ends c = c.at_start.ensures c.args.most

use Rattle.std.proofs.Common.{◌^◌, pos, neg_ℤ, refl, sym, subst}
use Rattle.path_cones.specs.Inner.Strips.{AreInSpan, IsSpan, across_at, no_span}
use Rattle.path_cones.specs.declared.quarter.Quarter.{Quarter}
use Rattle.path_cones.specs.declared.strip.Extent.{Extent}
use Rattle.path_cones.specs.declared.strip.Span.{Span}
use Rattle.path_cones.proofs.Extents.{extent_at_start}
use Rattle.path_cones.proofs.trial.Sway.at_start.Goals as goal

pub returns : goal.returns
returns c = λ way path.
    let quarter : Quarter = record { right = pos 1; up = pos 1 } in
    let extent : Extent = record { across = no_span; right = no_span; up = no_span } in
    let start = extent_at_start quarter way path extent refl in
    let zero = sym c.at_zero.ensures in
    record {
      small = subst (IsSpan (neg_ℤ (pos (2 ^ 34))) (pos (2 ^ 34))) zero start.small.across;
      span = subst (λ (span : Span). AreInSpan span (across_at way path) 0) zero start.across;
      ends = c.at_start.ensures 0;
    }

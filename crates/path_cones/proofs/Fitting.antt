-- The strip that takes in an extent.
use Rattle.std.proofs.Common.{◌≡◌, ℕ, ℤ, pos, ◌-ℤ◌, ◌*ℤ◌, ◌≤ℤ◌, ◌<ℤ◌, arith}
use Rattle.std.proofs.lemmas.Int.{ints}
use Rattle.pt_core.specs.declared.point.Point.{Point}
use Rattle.path_cones.specs.Inner.Cones.{IsShort}
use Rattle.path_cones.specs.Inner.Strips.{IsExtent, IsSmallExtent, IsStrip, StaysIn}
use Rattle.path_cones.specs.Inner.Wedges.{IsQuarter, far_of}
use Rattle.path_cones.specs.declared.vector.Vector.{Vector}
use Rattle.path_cones.specs.declared.quarter.Quarter.{Quarter}
use Rattle.path_cones.specs.declared.strip.Extent.{Extent}
use Rattle.path_cones.specs.declared.strip.Strip.{Strip}

-- along the way, no broader than the extent
abbrev pub strip_by : Quarter → Vector → Extent → ℤ → Strip
strip_by quarter way extent breadth = record {
  quarter = quarter;
  way = way;
  breadth = breadth;
  across = extent.across;
  back = record { x = pos 0 -ℤ extent.right.least; y = pos 0 -ℤ extent.up.least };
}

module _ (quarter : Quarter) (way : Vector) (extent : Extent) (breadth : ℤ) (small : IsSmallExtent extent)
    (narrow : (extent.across.greatest -ℤ extent.across.least) ≤ℤ breadth) where
  pub is_strip : IsQuarter quarter → IsShort 65535 way → pos 0 ≤ℤ (quarter.right *ℤ way.x) → pos 0 ≤ℤ (quarter.up *ℤ way.y)
      → breadth ≡ far_of quarter way → pos 0 <ℤ breadth → IsStrip (strip_by quarter way extent breadth)
  is_strip is_quarter short right up is goes =
      let x_least = small.right.least.least in
      let x_most = small.right.least.most in
      let y_least = small.up.least.least in
      let y_most = small.up.least.most in
      record {
        quarter = is_quarter;
        short = short;
        right = right;
        up = up;
        breadth = is;
        some = goes;
        least = small.across.least.most;
        greatest = small.across.greatest.least;
        narrow = narrow;
        back_x = record { least = omega (arith, ints); most = omega (arith, ints) };
        back_y = record { least = omega (arith, ints); most = omega (arith, ints) };
      }

  pub stays_in : (path : ℕ → Point) (count : ℕ) → IsExtent quarter way path count extent → StaysIn (strip_by quarter way extent breadth) path count
  stays_in path count is = record {
    inside = is.across;
    right = is.on_right;
    up = is.on_up;
    back_x = λ k h. let least = (is.right k h).least in omega (arith, ints);
    back_y = λ k h. let least = (is.up k h).least in omega (arith, ints);
  }

-- A funnel in the mirror that makes columns of rows.
use Rattle.std.proofs.Common.{◌≡◌, ℕ, ◌≤◌, unsigned_abs, w64, to_z, of_z, ap, arith}
use Rattle.std.proofs.lemmas.Int.{ints}
use Rattle.pt_core.specs.declared.point.Point.{Point}
use Rattle.path_cones.specs.Cones.{cross_of}
use Rattle.path_cones.specs.Straight.{IsNear}
use Rattle.path_cones.specs.Inner.Cones.{IsClear}
use Rattle.path_cones.specs.Inner.Funnels.{IsForward, IsFunnel, IsFunnelOf, IsOnWay, IsSide}
use Rattle.path_cones.specs.Inner.Mirrors.{mirrored_of, in_mirror}
use Rattle.path_cones.specs.Inner.Tails.{way_along}
use Rattle.path_cones.specs.declared.funnel.Funnel.{Funnel}
use Rattle.path_cones.specs.declared.vector.Vector.{Vector}
use Rattle.path_cones.proofs.Bounds.{product_small}

-- near in the mirror
pub near_mirrored : (a b : Vector) → IsNear a b → IsNear (mirrored_of a) (mirrored_of b)
near_mirrored a b near = record { p = near.p; q = near.q; positive = near.positive; in_x = near.in_y; in_y = near.in_x }

near_back : (a b : Vector) → IsNear (mirrored_of a) (mirrored_of b) → IsNear a b
near_back a b near = record { p = near.p; q = near.q; positive = near.positive; in_x = near.in_y; in_y = near.in_x }

near_other : (a b : Vector) → IsNear a (mirrored_of b) → IsNear (mirrored_of a) b
near_other a b near = record { p = near.p; q = near.q; positive = near.positive; in_x = near.in_y; in_y = near.in_x }

other_near : (a b : Vector) → IsNear (mirrored_of a) b → IsNear a (mirrored_of b)
other_near a b near = record { p = near.p; q = near.q; positive = near.positive; in_x = near.in_y; in_y = near.in_x }

pub clear_mirrored : (path : ℕ → Point) (count : ℕ) → IsClear path count → IsClear (in_mirror path) count
clear_mirrored path count clear = λ j k a b c. near_mirrored (way_along path j) (way_along path k) (clear j k a b c)

pub clear_back : (path : ℕ → Point) (count : ℕ) → IsClear (in_mirror path) count → IsClear path count
clear_back path count clear = λ j k a b c. near_back (way_along path j) (way_along path k) (clear j k a b c)

mirrored_side : (way : Vector) → IsSide way → IsSide (mirrored_of way)
mirrored_side way side =
    let goes = side.goes in
    record { forward = record { x = side.forward.y; y = side.forward.x }; goes = omega (arith, ints) }

abbrev pub mirror_of : Funnel → Funnel
mirror_of f = record {
  way = mirrored_of f.way;
  flat = mirrored_of f.steep;
  steep = mirrored_of f.flat;
  above = f.below;
  below = f.above;
}

pub mirrored_numbers : (f : Funnel) → IsFunnel f → IsFunnel (mirror_of f)
mirrored_numbers f n =
    let left = n.left in
    let above = n.above_is in
    let below = n.below_is in
    record {
      way = record { x = n.way.y; y = n.way.x };
      flat = mirrored_side f.steep n.steep;
      steep = mirrored_side f.flat n.flat;
      left = omega (arith, ints);
      above_is = omega (arith, ints);
      above = n.below;
      below_is = omega (arith, ints);
      below = n.above;
    }

pub mirrored_funnel : (path : ℕ → Point) (steps : ℕ) (f : Funnel) → IsFunnelOf path steps f → IsFunnelOf (in_mirror path) steps (mirror_of f)
mirrored_funnel path steps f of = record {
  numbers = mirrored_numbers f of.numbers;
  way = ap mirrored_of of.way;
  holds = λ way on.
      let goes = on.goes in
      let other : IsOnWay (mirrored_of way) = record { x = on.y; y = on.x; goes = omega (arith, ints) } in
      let both = of.holds (mirrored_of way) other in (
        λ h j a b.
            let above = h.above in
            let below = h.below in
            near_other (way_along path j) way (both.0 (record { above = omega (arith, ints); below = omega (arith, ints) }) j a b),
        λ near.
            let h = both.1 (λ j a b. other_near (way_along path j) way (near j a b)) in
            let above = h.above in
            let below = h.below in
            record { above = omega (arith, ints); below = omega (arith, ints) },
      );
  clear = clear_mirrored path steps of.clear;
}

-- the funnel's products are passed as they are
side_cross : (a b : Vector) → IsForward 65536 a → IsForward 65536 b → unsigned_abs (cross_of a b) ≤ 8589934592
side_cross a b fa fb =
    let ax = fa.x.least in
    let ay = fa.y.least in
    let bx = fb.x.least in
    let by = fb.y.least in
    let ax_most = fa.x.most in
    let ay_most = fa.y.most in
    let bx_most = fb.x.most in
    let by_most = fb.y.most in
    let p = product_small a.x b.y (omega (arith, ints)) (omega (arith, ints)) in
    let q = product_small a.y b.x (omega (arith, ints)) (omega (arith, ints)) in
    omega (arith, ints)

wider : (way : Vector) → IsForward 65535 way → IsForward 65536 way
wider way is =
    let x = is.x.most in
    let y = is.y.most in
    record { x = record { least = is.x.least; most = omega (arith, ints) }; y = record { least = is.y.least; most = omega (arith, ints) } }

module _ (f : Funnel) (n : IsFunnel f) where
  pub above_small : unsigned_abs f.above ≤ 8589934592
  above_small = rw n.above_is (side_cross f.flat f.way n.flat.forward (wider f.way n.way))

  pub below_small : unsigned_abs f.below ≤ 8589934592
  below_small = rw n.below_is (side_cross f.way f.steep (wider f.way n.way) n.steep.forward)

  pub above_back : to_z w64 (of_z w64 f.above) ≡ f.above
  above_back = let h = above_small in omega (arith, ints)

  pub below_back : to_z w64 (of_z w64 f.below) ≡ f.below
  below_back = let h = below_small in omega (arith, ints)

-- What a cone holds after one more way.
use Rattle.std.proofs.Common.{◌≡◌, ◌↔◌, inl, inr, pos, ◌<ℤ◌, subst, sym}
use Rattle.path_cones.specs.Straight.{IsNear}
use Rattle.path_cones.specs.Cones.{cross_of}
use Rattle.path_cones.specs.Inner.Cones.{IsSmall, IsShort, IsProper, IsBetween, IsInside, HoldsWay, low_of, high_of}
use Rattle.path_cones.specs.declared.vector.Vector.{Vector}
use Rattle.path_cones.specs.declared.cone.Cone.{Cone}
use Rattle.path_cones.specs.declared.cone.Cone.TheVariants.{Open, Between}
use Rattle.path_cones.proofs.Around.{left_of_low, inside_own}
use Rattle.path_cones.proofs.Narrowing.{IsKeptLow, IsKeptHigh, IsIntersection, intersection}
use Rattle.path_cones.proofs.Nearness.{cone_is_near}

module _ (way low high : Vector) (far : ¬ IsSmall way) (low_is : low ≡ low_of way) (high_is : high ≡ high_of way) where
  own_left : pos 0 <ℤ cross_of low high
  own_left = rw (low_is, high_is) (left_of_low way far)

  own_inside : IsInside low high way
  own_inside = rw (low_is, high_is) (inside_own way far)

  own_near : (other : Vector) → IsBetween low high other ↔ IsNear way other
  own_near other =
      let P : Vector → Vector → Type 0 = λ l h. IsBetween l h other ↔ IsNear way other in
      rw (low_is, high_is) (cone_is_near way other far)

  pub first_proper : IsShort 65536 low → IsShort 65536 high → IsProper low high
  first_proper low_short high_short = record { low_short = low_short; high_short = high_short; left = own_left }

  pub first_both : (cone : Cone) → cone ≡ Open → (other : Vector)
      → IsBetween low high other ↔ (HoldsWay cone other × IsNear way other)
  first_both cone is other =
      let P : Cone → Type 0 = λ c. IsBetween low high other ↔ (HoldsWay c other × IsNear way other) in
      let both : P Open = (λ h. (tt, (own_near other).0 h), λ h. (own_near other).1 h.1) in
      subst P (sym is) both

  module _ (old_low old_high new_low new_high : Vector) (proper : IsProper old_low old_high)
      (held : IsBetween old_low old_high way)
      (kept_low : IsKeptLow old_low low new_low) (kept_high : IsKeptHigh old_high high new_high) where
    met : IsIntersection old_low old_high low high new_low new_high
    met = intersection old_low old_high low high new_low new_high way proper.left own_left held own_inside kept_low kept_high

    pub next_proper : IsShort 65536 low → IsShort 65536 high → IsProper new_low new_high
    next_proper low_short high_short =
        let P : Vector → Type 0 = IsShort 65536 in
        record {
          low_short = elim kept_low [ inl e ↦ subst P (sym e.0) low_short | inr e ↦ subst P (sym e.0) proper.low_short ];
          high_short = elim kept_high [ inl e ↦ subst P (sym e.0) high_short | inr e ↦ subst P (sym e.0) proper.high_short ];
          left = met.left;
        }

    pub next_both : (cone : Cone) → cone ≡ Between old_low old_high → (other : Vector)
        → IsBetween new_low new_high other ↔ (HoldsWay cone other × IsNear way other)
    next_both cone is other =
        let P : Cone → Type 0 = λ c. IsBetween new_low new_high other ↔ (HoldsWay c other × IsNear way other) in
        let both : P (Between old_low old_high) = (
          λ h. let two = (met.holds other).0 h in (two.0, (own_near other).0 two.1),
          λ h. (met.holds other).1 (h.0, (own_near other).1 h.1),
        ) in
        subst P (sym is) both

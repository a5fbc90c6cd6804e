use Rattle.std.proofs.Common.{◌≡◌, inl, inr, ℤ, pos, ◌*ℤ◌, ◌<ℤ◌, w64, to_z, of_z, ap, sym, ◌∙◌, arith}
use Rattle.std.proofs.lemmas.Int.{ints}
use Rattle.path_cones.specs.Cones.{cross_of}
use Rattle.path_cones.specs.Inner.Wedges.{IsQuarter, IsSign}
use Rattle.path_cones.specs.declared.quarter.Quarter.{Quarter}
use Rattle.path_cones.specs.declared.vector.Vector.{Vector}
use Rattle.path_cones.proofs.Breadths.{cross_turned}
use Rattle.path_cones.proofs.Quarters.{sign_back}
use Rattle.path_cones.proofs.funnel.Funnel.cone.Goals as goal

-- a quarter whose signs are the same isn't turned over
upright : (right up z : ℤ) → right ≡ up → IsSign right → pos 0 <ℤ z → pos 0 <ℤ (right *ℤ up *ℤ z)
upright right up z same (inl e) h = rw (← same, e) (omega (arith, ints))
upright right up z same (inr e) h = rw (← same, e) (omega (arith, ints))

-- any other one is
over : (right up z : ℤ) → (right ≡ up → ⊥) → IsSign right → IsSign up → pos 0 <ℤ z → (right *ℤ up *ℤ z) <ℤ pos 0
over right up z other (inl e) (inl f) h = absurd (other (e ∙ sym f))
over right up z other (inl e) (inr f) h = rw (e, f) (omega (arith, ints))
over right up z other (inr e) (inl f) h = rw (e, f) (omega (arith, ints))
over right up z other (inr e) (inr f) h = absurd (other (e ∙ sym f))

module _ (q : Quarter) (signs : IsQuarter q) (a b a' b' : Vector) (x : a'.x ≡ q.right *ℤ a.x) (y : a'.y ≡ q.up *ℤ a.y)
    (x' : b'.x ≡ q.right *ℤ b.x) (y' : b'.y ≡ q.up *ℤ b.y) where
  turned_cross : cross_of a' b' ≡ q.right *ℤ q.up *ℤ cross_of a b
  turned_cross = rw (x, y, x', y') (cross_turned q a b)

  same_signs : of_z w64 q.right ≡ of_z w64 q.up → q.right ≡ q.up
  same_signs e = sym (sign_back q.right signs.right) ∙ ap (to_z w64) e ∙ sign_back q.up signs.up

  pub left : of_z w64 q.right ≡ of_z w64 q.up → pos 0 <ℤ cross_of a b → pos 0 <ℤ cross_of a' b'
  left e h = rw turned_cross (upright q.right q.up (cross_of a b) (same_signs e) signs.right h)

  pub left_over : (of_z w64 q.right ≡ of_z w64 q.up → ⊥) → pos 0 <ℤ cross_of a b → pos 0 <ℤ cross_of b' a'
  left_over e h =
      let below = over q.right q.up (cross_of a b) (λ s. e (ap (of_z w64) s)) signs.right signs.up h in
      let is = turned_cross in
      omega (arith, ints)

pub returns-then-quarter : goal.returns-then-quarter
returns-then-quarter c =
    let flat = c.turned-flat.ensures in
    let steep = c.turned-steep.ensures in
    record {
      low_short = flat.short;
      high_short = steep.short;
      left = left c.args.quarter c.requires.quarter c.seen-seen.result.flat c.seen-seen.result.steep c.turned-flat.result c.turned-steep.result
          flat.x flat.y steep.x steep.y c.if-quarter.true c.seen-seen.ensures.left;
    }

pub returns-else-quarter : goal.returns-else-quarter
returns-else-quarter c =
    let flat = c.turned-flat.ensures in
    let steep = c.turned-steep.ensures in
    record {
      low_short = steep.short;
      high_short = flat.short;
      left = left_over c.args.quarter c.requires.quarter c.seen-seen.result.flat c.seen-seen.result.steep c.turned-flat.result c.turned-steep.result
          flat.x flat.y steep.x steep.y c.if-quarter.false c.seen-seen.ensures.left;
    }

use Rattle.std.proofs.Common.{◌≡◌, ℤ, pos, w64, to_z, of_z, ◌∙◌, ap}
use Rattle.path_cones.specs.Cones.{cross_of}
use Rattle.path_cones.specs.Inner.Cones.{IsShort}
use Rattle.path_cones.specs.Inner.Wedges.{IsQuarter}
use Rattle.path_cones.specs.declared.quarter.Quarter.{Quarter}
use Rattle.path_cones.specs.declared.vector.Vector.{Vector}
use Rattle.path_cones.proofs.Quarters.{sign_back}
use Rattle.path_cones.proofs.Swings.{column_step, column_unit, row_step, row_unit, unit_passed}
use Rattle.path_cones.proofs.strip.Strides.new.Goals as goal

module _ (q : Quarter) (signs : IsQuarter q) (way : Vector) (short : IsShort 65535 way) (r : ℤ) where
  row : r ≡ cross_of way (record { x = to_z w64 (of_z w64 q.right); y = pos 0 }) → to_z w64 (of_z w64 r) ≡ cross_of way (row_step q)
  row is = unit_passed way (row_step q) r (is ∙ ap (λ (z : ℤ). cross_of way (record { x = z; y = pos 0 })) (sign_back q.right signs.right)) short (row_unit q signs)

  column : r ≡ cross_of way (record { x = pos 0; y = to_z w64 (of_z w64 q.up) }) → to_z w64 (of_z w64 r) ≡ cross_of way (column_step q)
  column is = unit_passed way (column_step q) r (is ∙ ap (λ (z : ℤ). cross_of way (record { x = pos 0; y = z })) (sign_back q.up signs.up)) short (column_unit q signs)

pub returns : goal.returns
returns c = record {
  row = row c.args.quarter c.requires.quarter c.args.way c.requires.short c.cross.result c.cross.ensures;
  column = column c.args.quarter c.requires.quarter c.args.way c.requires.short c.cross-2.result c.cross-2.ensures;
}

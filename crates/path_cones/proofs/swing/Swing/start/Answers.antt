use Rattle.std.proofs.Common.{inl, inr, sym, ◌∙◌, arith}
use Rattle.path_cones.specs.Straight.{path_from}
use Rattle.path_cones.proofs.Extents.{from_start}
use Rattle.path_cones.proofs.Landings.{no_truth}
use Rattle.path_cones.proofs.Swings.{column_step, column_unit, first_column, first_row, near_short, row_step, row_unit, steps_seen, unit_passed}
use Rattle.path_cones.proofs.swing.Swing.start.Goals as goal

pub returns-then-is_upright-clause-swing : goal.returns-then-is_upright-clause-swing
returns-then-is_upright-clause-swing c =
    let points = c.args.track.now in
    let first = c.args.first in
    let most = c.args.most in
    let q = c.args.quarter in
    let signs = c.requires.quarter in
    let are = c.requires.stairs in
    let size = c.step.ensures.closed.most in
    let h = c.requires.subpath.short_of_lap in
    record {
      within = c.requires.some;
      few = omega arith;
      later = c.corner_after-next.ensures.later;
      corner = c.corner_after-next.ensures.corner;
      short = c.requires.short;
      near = near_short points first most q signs are;
      sway = c.at_start.ensures c.args.way (path_from points first);
      across = sym (from_start (path_from points first 0) c.args.way);
      ahead = column_step q;
      after = row_step q;
      ahead_unit = column_unit q signs;
      after_unit = row_unit q signs;
      now = first_column points first most q signs are c.requires.some c.step.result c.step.ensures.value (c.is_upright.ensures.0 c.if-is_upright.true);
      steps = λ k l. elim (steps_seen points first most q signs are k l) [ inl e ↦ inr e | inr e ↦ inl e ];
      turn = unit_passed c.args.way (column_step q) c.new-row.result.column c.new-row.ensures.column c.requires.short (column_unit q signs);
      other = unit_passed c.args.way (row_step q) c.new-row.result.row c.new-row.ensures.row c.requires.short (row_unit q signs);
    }

pub returns-clause-swing : goal.returns-clause-swing
returns-clause-swing c =
    let points = c.args.track.now in
    let first = c.args.first in
    let most = c.args.most in
    let q = c.args.quarter in
    let signs = c.requires.quarter in
    let are = c.requires.stairs in
    let size = c.step.ensures.closed.most in
    let h = c.requires.subpath.short_of_lap in
    record {
      within = c.requires.some;
      few = omega arith;
      later = c.corner_after-next.ensures.later;
      corner = c.corner_after-next.ensures.corner;
      short = c.requires.short;
      near = near_short points first most q signs are;
      sway = c.at_start-2.ensures c.args.way (path_from points first);
      across = sym (from_start (path_from points first 0) c.args.way);
      ahead = row_step q;
      after = column_step q;
      ahead_unit = row_unit q signs;
      after_unit = column_unit q signs;
      now = first_row points first most q signs are c.requires.some c.step.result c.step.ensures.value
          (λ e. no_truth (sym c.if-is_upright.false ∙ c.is_upright.ensures.1 e));
      steps = steps_seen points first most q signs are;
      turn = unit_passed c.args.way (row_step q) c.new-row.result.row c.new-row.ensures.row c.requires.short (row_unit q signs);
      other = unit_passed c.args.way (column_step q) c.new-row.result.column c.new-row.ensures.column c.requires.short (column_unit q signs);
    }

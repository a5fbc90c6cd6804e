use Rattle.std.proofs.Common.{◌≡◌, true, false, is_some, Some, length}
use Rattle.bitmap_input.specs.Reading.{AtEnd}
use Rattle.reader_tests.proofs.tests.gray_rows.rows.Given as goal

abbrev pub invariant-loop-y : goal.invariant-loop-y
invariant-loop-y l = record {
  opened : is_some l.inputs.files.opened ≡ true;
  given : l.reader.given ≡ l._y;
  height : l._y-end ≡ l.reader.head.height;
  at_end : l.reader.ended ≡ true → AtEnd (Some l.inputs.files);
  going_on : l.reader.failed ≡ false;
  width : length l.row.items ≡ l.reader.head.width;
}

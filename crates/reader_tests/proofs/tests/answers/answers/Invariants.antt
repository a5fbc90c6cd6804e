use Rattle.std.proofs.Common.{◌≡◌, true, is_some, Some}
use Rattle.bitmap_input.specs.Reading.{AtEnd}
use Rattle.reader_tests.proofs.tests.answers.answers.Given as goal

abbrev pub invariant-loop-i : goal.invariant-loop-i
invariant-loop-i l = record {
  opened : is_some l.inputs.files.opened ≡ true;
  counted : l.reader.pages ≡ l._i;
  at_end : l.reader.ended ≡ true → AtEnd (Some l.inputs.files);
}

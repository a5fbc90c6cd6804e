use Rattle.std.proofs.Common.{◌≡◌, ◌+◌, ◌≤◌, length, drop, arith}
use Rattle.std.proofs.lemmas.Bool.Decides.{nat_tests}
use Rattle.list_reader.proofs.Bytes.{front, not_byte, is_byte}
use Rattle.list_reader.proofs.EntryLines.{reading_more, reading_ends, reading_stops, reading_breaks, reading_empty}
use Rattle.list_reader.proofs.lines.read_line.Goals as goal

pub loop-entry-preserved : goal.loop-entry-preserved
loop-entry-preserved g c =
    let entry = c.in-Some.ensures.some in
    record {
      onwards = omega (arith, c.in-Some.ensures.ends);
      within = c.in-Some.ensures.ends.1;
      reading = reading_more _ g.E.Entries.text_of (g.E.Entries.IsIn c.args.kind.now) c.requires.entries
          (drop c.args.at c.args.text.now) c.loop-entry.values.items c.push.new.self.items (drop c.loop-entry.here c.args.text.now)
          (drop c.in-Some.entry.end c.args.text.now) c.in-Some.entry.value c.in_ok-push.ensures.items entry.inside entry.is entry.ends
          c.loop-entry.invariant.reading;
    }

-- a space comes next, but no value after it
pub returns-in_default-clause-none : goal.returns-in_default-clause-none
returns-in_default-clause-none g c = λ xs rest line.
    let space = c.has_byte.ensures.0 c.loop-entry-test.true in
    reading_breaks _ g.E.Entries.text_of (g.E.Entries.IsIn c.args.kind.now) c.requires.entries
    (drop c.args.at c.args.text.now) c.loop-entry.values.items (drop c.loop-entry.here c.args.text.now) c.loop-entry.invariant.reading
    (λ x next inside ends is. c.in_default.ensures.none x next (record { is = is; inside = inside; ends = ends }))
    (λ ten. omega (arith, front c.args.text.now c.loop-entry.here, space.1)) xs rest line.line

pub returns-then-is_empty-clause-none : goal.returns-then-is_empty-clause-none
returns-then-is_empty-clause-none g c = λ xs rest line.
    let none : length c.loop-entry.values.items ≡ 0 = grind (arith, nat_tests) in
    reading_empty _ g.E.Entries.text_of (g.E.Entries.IsIn c.args.kind.now) c.requires.entries
    (drop c.args.at c.args.text.now) c.loop-entry.values.items (drop c.loop-entry.here c.args.text.now) c.loop-entry.invariant.reading none
    (not_byte c.args.text.now c.loop-entry.here 32 (omega arith) (λ there. let yes = c.has_byte.ensures.1 there in let no = c.loop-entry-test.false in absurd (cc))) xs rest line

pub returns-then-not-has_byte-clause-none : goal.returns-then-not-has_byte-clause-none
returns-then-not-has_byte-clause-none g c = λ xs rest line.
    reading_stops _ g.E.Entries.text_of (g.E.Entries.IsIn c.args.kind.now) c.requires.entries
    (drop c.args.at c.args.text.now) c.loop-entry.values.items (drop c.loop-entry.here c.args.text.now) c.loop-entry.invariant.reading
    (not_byte c.args.text.now c.loop-entry.here 32 (omega arith) (λ there. let yes = c.has_byte.ensures.1 there in let no = c.loop-entry-test.false in absurd (cc)))
    (not_byte c.args.text.now c.loop-entry.here 10 (omega arith) (λ there. let yes = c.has_byte-2.ensures.1 there in let no = c.if-not-has_byte.true in absurd (cc))) xs rest line.line

pub returns-clause-some : goal.returns-clause-some
returns-clause-some g c =
    let some : 1 ≤ length c.loop-entry.values.items = grind (arith, nat_tests) in
    record {
      line = reading_ends _ g.E.Entries.text_of (g.E.Entries.IsIn c.args.kind.now) c.requires.entries
          (drop c.args.at c.args.text.now) c.loop-entry.values.items (drop c.loop-entry.here c.args.text.now) (drop (c.loop-entry.here + 1) c.args.text.now)
          (is_byte c.args.text.now c.loop-entry.here 10 (c.has_byte-2.ensures.0 c.if-not-has_byte.false)) c.loop-entry.invariant.reading;
      some = some;
    }

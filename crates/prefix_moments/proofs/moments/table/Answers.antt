use Rattle.std.proofs.Common.{◌≡◌, ◌+◌, ◌*◌, ◌/◌, ◌≤◌, ◌<◌, ◌^◌, ℕ, length, arith, ◌∙◌, ap}
use Rattle.std.proofs.lemmas.Nat.{mul-le}
use Rattle.prefix_moments.specs.Inner.Table.{prefix_of}
use Rattle.prefix_moments.proofs.Prefixes.{row_begins, row_reaches, row_within, push_row}
use Rattle.prefix_moments.proofs.moments.table.Goals as goal

-- the next row begins within the path
next_reaches : (size shift m : ℕ) → m < size / 2 ^ shift → (m + 1) * 2 ^ shift ≤ size
next_reaches size shift m below = row_reaches size shift (m + 1) (omega arith)

pub sums_to-sums-requires-clause-lap : goal.sums_to-sums-requires-clause-lap
sums_to-sums-requires-clause-lap c =
    let size = length c.args.points.now in
    let next = next_reaches size c.args.shift c.loop-m.m c.loop-m-test.true in
    rw (row_begins size c.args.shift (c.loop-m.m + 1) (omega (arith, c.requires.closed.most)) next) next

pub sums_to-sums-requires-clause-before : goal.sums_to-sums-requires-clause-before
sums_to-sums-requires-clause-before c =
    let size = length c.args.points.now in
    let here = row_reaches size c.args.shift c.loop-m.m (omega (arith, c.loop-m-test.true)) in
    rw (row_begins size c.args.shift c.loop-m.m (omega (arith, c.requires.closed.most)) here) c.loop-m.invariant.now

pub sums_to-sums-requires-clause-onwards : goal.sums_to-sums-requires-clause-onwards
sums_to-sums-requires-clause-onwards c =
    let size = length c.args.points.now in
    let short : size < 2 ^ 64 = omega (arith, c.requires.closed.most) in
    let here = row_reaches size c.args.shift c.loop-m.m (omega (arith, c.loop-m-test.true)) in
    let next = next_reaches size c.args.shift c.loop-m.m c.loop-m-test.true in
    rw (row_begins size c.args.shift c.loop-m.m short here, row_begins size c.args.shift (c.loop-m.m + 1) short next)
    (mul-le c.loop-m.m (2 ^ c.args.shift) (c.loop-m.m + 1) (2 ^ c.args.shift) (omega arith) (omega arith))

pub loop-m-preserved : goal.loop-m-preserved
loop-m-preserved c =
    let size = length c.args.points.now in
    let next = next_reaches size c.args.shift c.loop-m.m c.loop-m-test.true in
    let begins = row_begins size c.args.shift (c.loop-m.m + 1) (omega (arith, c.requires.closed.most)) next in
    record {
      now = c.sums_to-sums.ensures ∙ ap (λ n. prefix_of c.args.points.now n) begins;
      full = grind (arith, c.in_ok-push.ensures.len);
      each = rw c.in_ok-push.ensures.items
          (push_row (λ m. prefix_of c.args.points.now (m * 2 ^ c.args.shift)) c.loop-m.rows.items c.loop-m.sums c.loop-m.m c.loop-m.invariant.full c.loop-m.invariant.each c.loop-m.invariant.now);
    }

pub returns : goal.returns
returns c =
    let size = length c.args.points.now in
    let end : c.loop-m.m ≡ size / 2 ^ c.args.shift = omega arith in
    record {
      some = omega (arith, c.requires.closed.least);
      few = c.requires.closed.most;
      on_page = c.requires.on_page;
      low = c.requires.shift;
      lap = grind (arith, c.in_ok-push-2.ensures.len, end);
      each = λ m within. (
          let listed = row_within size c.args.shift m within in
          rw c.in_ok-push-2.ensures.items
          (push_row (λ m. prefix_of c.args.points.now (m * 2 ^ c.args.shift)) c.loop-m.rows.items c.loop-m.sums c.loop-m.m c.loop-m.invariant.full c.loop-m.invariant.each c.loop-m.invariant.now
          m (omega arith)));
    }

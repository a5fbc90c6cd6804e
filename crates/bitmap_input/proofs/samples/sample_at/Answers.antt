use Rattle.std.proofs.Common.{sym, arith}
use Rattle.bitmap_input.proofs.SampleBytes.{wide_within, wide_sample}
use Rattle.bitmap_input.proofs.samples.sample_at.Goals as goal

pub overflow_mul-result : goal.overflow_mul-result
overflow_mul-result c =
    let within = wide_within c.args.i c.args.row.now (rw c.if-wide.true at c.requires) in omega (arith, within, c.type_inv.row)

pub bounds-row-i : goal.bounds-row-i
bounds-row-i c =
    let within = wide_within c.args.i c.args.row.now (rw c.if-wide.true at c.requires) in omega (arith, within)

pub overflow_mul-result-then-wide-2 : goal.overflow_mul-result-then-wide-2
overflow_mul-result-then-wide-2 c =
    let within = wide_within c.args.i c.args.row.now (rw c.if-wide.true at c.requires) in omega (arith, within, c.type_inv.row)

pub overflow_add-result : goal.overflow_add-result
overflow_add-result c =
    let within = wide_within c.args.i c.args.row.now (rw c.if-wide.true at c.requires) in omega (arith, within, c.type_inv.row)

pub bounds-row-i-then-wide : goal.bounds-row-i-then-wide
bounds-row-i-then-wide c = wide_within c.args.i c.args.row.now (rw c.if-wide.true at c.requires)

pub returns-then-wide-clause-value : goal.returns-then-wide-clause-value
returns-then-wide-clause-value c =
    rw c.if-wide.true (sym (wide_sample c.args.i c.args.row.now (rw c.if-wide.true at c.requires)))

use Rattle.std.proofs.Common.{arith}
use Rattle.bitmap_input.proofs.SampleBytes.{samples-most}
use Rattle.bitmap_input.proofs.samples.brightness_at.Goals as goal

pub overflow_mul-x : goal.overflow_mul-x
overflow_mul-x c =
    let few = rw c.in-Color.is at c.requires in omega (arith, few, samples-most c.args.wide c.args.row.now)

pub overflow_mul-x-in-Color : goal.overflow_mul-x-in-Color
overflow_mul-x-in-Color c =
    let few = rw c.in-Color.is at c.requires in omega (arith, few, samples-most c.args.wide c.args.row.now)

pub overflow_add-x : goal.overflow_add-x
overflow_add-x c =
    let few = rw c.in-Color.is at c.requires in omega (arith, few, samples-most c.args.wide c.args.row.now)

pub overflow_mul-x-in-Color-2 : goal.overflow_mul-x-in-Color-2
overflow_mul-x-in-Color-2 c =
    let few = rw c.in-Color.is at c.requires in omega (arith, few, samples-most c.args.wide c.args.row.now)

pub overflow_add-x-in-Color : goal.overflow_add-x-in-Color
overflow_add-x-in-Color c =
    let few = rw c.in-Color.is at c.requires in omega (arith, few, samples-most c.args.wide c.args.row.now)

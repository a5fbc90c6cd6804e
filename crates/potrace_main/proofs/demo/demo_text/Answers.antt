use Rattle.std.proofs.Common.{arith}
use Rattle.potrace_main.proofs.Lines.{no_batch, one_batch}
use Rattle.potrace_main.proofs.demo.demo_text.Goals as goal

pub loop-left-preserved : goal.loop-left-preserved
loop-left-preserved g c = record {
  fits = omega arith;
  text = one_batch c.args.settings c.args.pages c.loop-left.left c.min-count.result c.loop-left.generator c.next_pages.new.generator
      c.in_ok-batch.batch.items c.in_ok-lines.lines.items c.loop-left.text.items c.put_lines.new.text.items (omega arith)
      (record { made = c.in_ok-batch.ensures.pages; each = rw c.deref.ensures.value at c.in_ok-lines.ensures.texts })
      (rw c.deref-in-loop-left.ensures.value at c.in_ok-put_lines.ensures) c.loop-left.invariant.text;
}

pub returns : goal.returns
returns g c = no_batch c.args.settings c.args.pages c.loop-left.left c.loop-left.generator c.loop-left.text.items (omega arith) c.loop-left.invariant.text

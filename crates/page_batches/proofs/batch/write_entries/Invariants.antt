use Rattle.std.proofs.Common.{drop}
use Rattle.page_batches.specs.Inner.Desks.{Keeps, sinks_at}
use Rattle.page_batches.specs.Inner.Entries.{AreInOrder}
use Rattle.page_batches.proofs.Batching.{AreWritten}
use Rattle.page_batches.proofs.batch.write_entries.Given as goal

-- the first entries are carried out, and the others are in turn
abbrev pub invariant-loop-entry : goal.invariant-loop-entry
invariant-loop-entry g l = record {
  written : AreWritten l.binding l.entries l.texts l.entry-index l.done (sinks_at g.O.Sink g.E.Sink l.fn.desk) (sinks_at g.O.Sink g.E.Sink l.desk);
  turn : AreInOrder l.binding (g.O.Sink.is_ready l.desk.outs.now) (drop l.entry-index l.entries);
  keeps : Keeps g.O.Sink g.E.Sink l.fn.desk l.desk;
}

-- The desk, after one call and another.
use Rattle.std.proofs.Common.{◌∙◌}
use Rattle.pt_core.specs.declared.sink.Sink.{Ghosts as SinkGhosts}
use Rattle.page_batches.specs.Inner.Desks.{Keeps}
use Rattle.page_batches.specs.declared.desk.Desk.{Desk}
use Rattle.page_batches.proofs.Counts.{never_falls_on}

pub keeps_on : {A B : Type 0} (of_outs : SinkGhosts A) (of_errs : SinkGhosts B) (x y z : Desk A B) → Keeps of_outs of_errs x y → Keeps of_outs of_errs y z
    → Keeps of_outs of_errs x z
keeps_on of_outs of_errs x y z first next = record {
  outs = next.outs ∙ first.outs;
  errs = next.errs ∙ first.errs;
  ready = next.ready;
  never_falls = never_falls_on (of_outs.faults x.outs.now) (of_outs.faults y.outs.now) (of_outs.faults z.outs.now) first.never_falls next.never_falls;
}

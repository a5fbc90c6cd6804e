use Rattle.std.proofs.Common.{◌≡◌, true}
use Rattle.mkbitmap_run.specs.Inner.Put.{world_of}
use Rattle.mkbitmap_run.proofs.BrokenOff.{HasPutAbove}
use Rattle.mkbitmap_run.proofs.work.Work.put_rows.Given as goal

-- the rows above this one are written
abbrev pub invariant-loop-y : goal.invariant-loop-y
invariant-loop-y g l = record {
  ready : g.O.Sink.is_ready l.outs ≡ true;
  above : HasPutAbove l.y l.fn.self (world_of g.I.Inputs g.O.Sink l.fn.inputs l.fn.outs) l.self (world_of g.I.Inputs g.O.Sink l.inputs l.outs);
}

use Rattle.std.proofs.Common.{◌≡◌, ◌*◌, Err, refl, ap, ◌∙◌, arith}
use Rattle.mkbitmap_run.specs.Inner.Put.{world_of}
use Rattle.mkbitmap_run.proofs.BrokenOff.{above_none, above_too, all_put, can_put, ends_on, rows_break}
use Rattle.mkbitmap_run.proofs.work.Work.put_rows.Goals as goal

-- nothing is written yet
pub loop-y-init : goal.loop-y-init
loop-y-init g c = record { ready = c.requires.ready; above = above_none _ _ c.requires.begins.start (record { reading = c.requires.begins.reading; openings = refl }) }

-- y is the number of a row of the result
pub put_row-requires-clause-can : goal.put_row-requires-clause-can
put_row-requires-clause-can g c =
    let start = c.requires.begins.start in
    let rows : c.rows-y-end.result ≡ c.args.self.now.filter.times * c.args.self.now.reader.head.height = c.rows-y-end.ensures ∙ ap (λ n. c.args.self.now.filter.times * n) start.at_work.fits.height in
    can_put c.loop-y.y _ _ _ _ start c.loop-y.invariant.above (omega (arith, c.loop-y-test.true, c.loop-y.auto.y-end, rows))

-- this row is written too
pub loop-y-preserved : goal.loop-y-preserved
loop-y-preserved g c = record {
  ready = c.put_row.ensures.stays_ready;
  above = above_too c.loop-y.y _ _ _ _ c.requires.begins.start c.loop-y.invariant.above _ _ c.in-Ok.ensures.puts c.put_row.ensures.stays c.in-Ok.ensures.calls.0 c.in-Ok.ensures.calls.1;
}

-- writing stopped at this row
pub returns-in-Err-clause-breaks : goal.returns-in-Err-clause-breaks
returns-in-Err-clause-breaks g c =
    let start = c.requires.begins.start in
    let rows : c.rows-y-end.result ≡ c.args.self.now.filter.times * c.args.self.now.reader.head.height = c.rows-y-end.ensures ∙ ap (λ n. c.args.self.now.filter.times * n) start.at_work.fits.height in
    rows_break c.loop-y.y _ _ _ _ start c.loop-y.invariant.above c.in-Err.why _ _ (omega (arith, c.loop-y-test.true, c.loop-y.auto.y-end, rows)) c.in-Err.ensures.breaks

pub returns-in-Err-clause-calls : goal.returns-in-Err-clause-calls
returns-in-Err-clause-calls g c =
    let held = c.loop-y.invariant.above in
    ends_on {X = Unit {0}} (Err c.in-Err.why) (world_of g.I.Inputs g.O.Sink c.args.inputs.now c.args.outs.now) (world_of g.I.Inputs g.O.Sink c.loop-y.inputs c.loop-y.outs)
    (world_of g.I.Inputs g.O.Sink c.put_row.new.inputs c.put_row.new.outs) held.steady held.went c.in-Err.ensures.calls

-- all rows are written
pub returns-clause-puts : goal.returns-clause-puts
returns-clause-puts g c =
    let start = c.requires.begins.start in
    let rows : c.rows-y-end.result ≡ c.args.self.now.filter.times * c.args.self.now.reader.head.height = c.rows-y-end.ensures ∙ ap (λ n. c.args.self.now.filter.times * n) start.at_work.fits.height in
    all_put c.loop-y.y _ _ _ _ start c.loop-y.invariant.above (omega (arith, c.loop-y-test.false, c.loop-y.auto.y-end, rows))

use Rattle.std.proofs.Common.{◌≡◌, ℕ, ◌+◌, ◌≤◌, List, length, take, ap, sym, ◌∙◌, subst, arith}
use Rattle.pt_core.specs.Documents.{with_bytes}
use Rattle.mkbitmap_run.proofs.PageWork.{along_row, along_then, row_is, same_after, same_rows}
use Rattle.mkbitmap_run.proofs.work.Work.put_row.Goals as goal

pub enlarge-requires-clause-row : goal.enlarge-requires-clause-row
enlarge-requires-clause-row g c =
    let ready = c.in-Ok.ensures.ready in
    let work = ready.along.along c.requires.can.rows c.requires.can.at_work in
    rw (work.fits.height, same_rows _ _ _ _ _ ready.along) c.requires.can.row

pub enlarge-requires-clause-ready : goal.enlarge-requires-clause-ready
enlarge-requires-clause-ready g c =
    let ready = c.in-Ok.ensures.ready in
    ready.pairs ∙ ap (λ (n : ℕ). n + 1) (sym (same_after _ _ _ _ _ ready.along c.args.y))

-- the row is written
pub returns-in-Ok-write_whole-clause-puts : goal.returns-in-Ok-write_whole-clause-puts
returns-in-Ok-write_whole-clause-puts g c =
    let ready = c.in-Ok.ensures.ready in
    let goes = c.enlarge.ensures.goes in
    record {
      ready = record {
        next = ready.next;
        along = along_then _ _ _ _ _ _ ready.along (along_row c.make_ready.new.self c.enlarge.new.self _ goes.setup (omega (arith, goes.taken)) c.enlarge.ensures.follows (omega (arith, goes.pairs)));
        pairs = omega (arith, goes.pairs, ready.pairs);
        read = ready.read;
      };
      put = λ rows work page has.
          c.in-Ok-write_whole.ensures.appended
          ∙ ap (with_bytes (g.O.Sink.documents c.args.outs.now)) (c.row.ensures ∙ row_is _ c.make_ready.new.self _ _ c.args.y rows ready.next page _ ready.along work has c.enlarge.ensures.row);
    }

-- a write failed
pub returns-in-Err-write_whole-clause-breaks : goal.returns-in-Err-write_whole-clause-breaks
returns-in-Err-write_whole-clause-breaks g c =
    let ready = c.in-Ok.ensures.ready in (
      ready.next,
      ready.along.gives,
      ready.read,
      λ rows work page has.
          let is = row_is _ c.make_ready.new.self _ _ c.args.y rows ready.next page _ ready.along work has c.enlarge.ensures.row in
          subst (λ (l : List ℕ). (n : ℕ) × (n ≤ length l) × (g.O.Sink.documents c.write_whole.new.sink ≡ with_bytes (g.O.Sink.documents c.args.outs.now) (take n l))) (c.row.ensures ∙ is)
          c.in-Err-write_whole.ensures.prefix,
    )

use Rattle.std.proofs.Common.{ℕ, ◌≤◌, inl, inr, Err, List, [], length, take, refl, ap, ◌∙◌, subst, arith}
use Rattle.pt_core.specs.Documents.{with_bytes, with_open}
use Rattle.run_output.specs.Names.{dash}
use Rattle.run_output.specs.Told.{told_of}
use Rattle.mkbitmap_run.specs.Inner.Put.{world_of}
use Rattle.mkbitmap_run.specs.Inner.FilterWork.{header_of, setup_of}
use Rattle.mkbitmap_run.proofs.BrokenOff.{ends_on, head_put, page_breaks, page_cut, page_put}
use Rattle.run_output.proofs.Calls.{broke_on, went_on}
use Rattle.mkbitmap_run.proofs.CutDocuments.{opened_with}
use Rattle.mkbitmap_run.proofs.GivenRows.{gives_none}
use Rattle.mkbitmap_run.proofs.work.Work.put_page.Goals as goal

-- the document couldn't be begun
pub returns-in-Err-clause-breaks : goal.returns-in-Err-clause-breaks
returns-in-Err-clause-breaks g c = ([], gives_none _ _, inl (refl, inl c.in-Err.ensures.nothing))

-- the document's beginning was cut off
pub returns-in-Err-write_whole-clause-breaks : goal.returns-in-Err-write_whole-clause-breaks
returns-in-Err-write_whole-clause-breaks g c =
    let (n, most, is) = c.in-Err-write_whole.ensures.prefix in
    let head = c.deref.ensures.value ∙ c.requires.begins.start.head in (
      [],
      gives_none _ _,
      inl (
        refl,
        inr (
          n,
          subst (λ (l : List ℕ). n ≤ length l) head most,
          is ∙ ap (λ d. with_bytes d (take n c.deref.result.now)) c.in-Ok.ensures.opened ∙ opened_with _ dash [] (take n c.deref.result.now)
              ∙ ap (λ (l : List ℕ). with_open (g.O.Sink.documents c.args.outs.now) dash (take n l)) head,
        ),
      ),
    )

pub returns-in-Err-write_whole-clause-calls : goal.returns-in-Err-write_whole-clause-calls
returns-in-Err-write_whole-clause-calls g c = (
  refl,
  broke_on _ (told_of g.O.Sink c.begin.new.self) _ (record { steady = c.in-Ok.ensures.steady; went = ap (λ f. f.count) c.in-Ok.ensures.went })
      (record { rose = c.in-Err-write_whole.ensures.cause; failed = c.in-Err-write_whole.ensures.failed }),
)

-- writing stopped at a row
pub returns-in-Err-put_rows-clause-breaks : goal.returns-in-Err-put_rows-clause-breaks
returns-in-Err-put_rows-clause-breaks g c =
    page_breaks c.in-Err-put_rows.why _ _ _ _ _ c.requires.begins.start
    (head_put _ _ _ dash c.deref.result.now _ c.in-Ok.ensures.opened c.in-Ok-write_whole.ensures.appended (c.deref.ensures.value ∙ c.requires.begins.start.head)) c.in-Err-put_rows.ensures.breaks

pub returns-in-Err-put_rows-clause-calls : goal.returns-in-Err-put_rows-clause-calls
returns-in-Err-put_rows-clause-calls g c =
    ends_on {X = Unit {0}} (Err c.in-Err-put_rows.why) (world_of g.I.Inputs g.O.Sink c.args.inputs.now c.args.outs.now) (world_of g.I.Inputs g.O.Sink c.args.inputs.now c.write_whole.new.sink)
    (world_of g.I.Inputs g.O.Sink c.put_rows.new.inputs c.put_rows.new.outs) refl
    (record { steady = c.in-Ok-write_whole.ensures.steady ∙ c.in-Ok.ensures.steady; went = c.in-Ok-write_whole.ensures.went ∙ ap (λ f. f.count) c.in-Ok.ensures.went })
    c.in-Err-put_rows.ensures.calls

-- the document is whole
pub returns-in-Ok-end-clause-puts : goal.returns-in-Ok-end-clause-puts
returns-in-Ok-end-clause-puts g c =
    let puts = c.in-Ok-put_rows.ensures.puts in
    let start = c.requires.begins.start.at_work.fits in
    record {
      rows = puts.rows;
      gives = puts.gives;
      all = puts.all;
      documents = page_put (setup_of c.args.self.now.filter) (header_of c.args.self.now.reader) puts.rows _ _ _ _ start.some_times (omega (arith, start.some_rows, start.height)) puts.all
          (head_put _ _ _ dash c.deref.result.now _ c.in-Ok.ensures.opened c.in-Ok-write_whole.ensures.appended (c.deref.ensures.value ∙ c.requires.begins.start.head)) puts.puts c.in-Ok-end.ensures.ended;
    }

-- ending the document failed
pub returns-in-Err-end-clause-breaks : goal.returns-in-Err-end-clause-breaks
returns-in-Err-end-clause-breaks g c =
    let puts = c.in-Ok-put_rows.ensures.puts in
    let start = c.requires.begins.start.at_work.fits in (
      puts.rows,
      puts.gives,
      inr (page_cut (setup_of c.args.self.now.filter) (header_of c.args.self.now.reader) puts.rows _ _ _ _ start.some_times (omega (arith, start.some_rows, start.height)) puts.all
          (head_put _ _ _ dash c.deref.result.now _ c.in-Ok.ensures.opened c.in-Ok-write_whole.ensures.appended (c.deref.ensures.value ∙ c.requires.begins.start.head)) puts.puts c.in-Err-end.ensures.nothing),
    )

pub returns-in-Err-end-clause-calls : goal.returns-in-Err-end-clause-calls
returns-in-Err-end-clause-calls g c =
    let (steady, went) = c.in-Ok-put_rows.ensures.calls in (
      steady,
      broke_on _ (told_of g.O.Sink c.put_rows.new.outs) _
          (went_on _ (told_of g.O.Sink c.write_whole.new.sink) _
          (record { steady = c.in-Ok-write_whole.ensures.steady ∙ c.in-Ok.ensures.steady; went = c.in-Ok-write_whole.ensures.went ∙ ap (λ f. f.count) c.in-Ok.ensures.went }) went)
          (record { rose = c.in-Err-end.ensures.cause; failed = c.in-Err-end.ensures.failed }),
    )

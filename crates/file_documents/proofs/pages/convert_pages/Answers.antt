use Rattle.std.proofs.Common.{◌≡◌, suc, ◌+◌, ◌*◌, ◌∙◌, true, false, ap, refl, sym, arith}
use Rattle.run_output.specs.Made.{documents_before}
use Rattle.run_output.proofs.NameCounts.{next_name-made_with}
use Rattle.page_batches.proofs.Counts.{same_count}
use Rattle.page_batches.proofs.Desks.{keeps_on}
use Rattle.run_output.specs.Told.{source_of}
use Rattle.file_documents.specs.Inner.Tasks.{manner_of}
use Rattle.file_documents.proofs.Counting.{faults_from}
use Rattle.file_documents.proofs.Keeping.{ended_by, stays_taken}
use Rattle.file_documents.proofs.Converting.{halted, no_more, none_converted, one_more}
use Rattle.file_documents.proofs.Standing.{standing_at}
use Rattle.file_documents.proofs.pages.convert_pages.Goals as goal

pub loop-pages-init : goal.loop-pages-init
loop-pages-init g c = record {
  most = omega arith;
  converted = rw c.requires.start.fresh (none_converted (2 * c.args.task.now.plan.workers) (manner_of g.J.PageJob c.args.task.now) c.args.base.now (standing_at g.I.Inputs g.O.Sink g.E.Sink c.args.made.now c.args.batch.now c.args.inputs.now c.args.desk.now));
  going = c.requires.going;
  opened = c.requires.start.opened;
  at_end = λ e. absurd (let clash : false ≡ true = ap (λ r. r.ended) (sym c.requires.start.fresh) ∙ e in cc);
  stays = record { openings = refl; name = refl; contents = refl };
  input = refl;
  keeps = record { outs = refl; errs = refl; ready = c.requires.going.ready; never_falls = same_count (g.O.Sink.faults c.args.desk.now.outs.now) };
}

pub loop-pages-preserved : goal.loop-pages-preserved
loop-pages-preserved g c =
    let from = standing_at g.I.Inputs g.O.Sink g.E.Sink c.args.made.now c.args.batch.now c.args.inputs.now c.args.desk.now in
    let now = standing_at g.I.Inputs g.O.Sink g.E.Sink c.args.made.now c.loop-pages.batch c.loop-pages.inputs c.loop-pages.desk in
    let next = standing_at g.I.Inputs g.O.Sink g.E.Sink c.args.made.now c.hold_page.new.batch c.read_next.new.inputs c.hold_page.new.desk in
    let named = next_name-made_with c.args.base.now c.count-first.result (documents_before c.args.task.now.plan.binding c.loop-pages.pages) c.args.made.now.made c.count-first.ensures.value in
    let document = c.requires.texts c.in-Ok.page c.in-Ok.ensures.answer.1 in
    let same : suc c.loop-pages.pages ≡ c.loop-pages.pages + 1 = omega arith in
    record {
      most = omega arith;
      converted = one_more from now c.loop-pages.invariant.converted next c.read_next.new.reader c.in-Ok.page document.0
          c.in-Ok.ensures.answer.0 document.1 (λ left are. rw named (c.in-Ok-hold_page.ensures.held left are document.0 document.1));
      going = rw same at c.in-Ok-hold_page.ensures.going;
      opened = c.in-Ok.ensures.answer.3;
      at_end = c.in-Ok.ensures.answer.4;
      stays = stays_taken c.loop-pages.reader c.read_next.new.reader (source_of g.I.Inputs c.args.inputs.now) (source_of g.I.Inputs c.loop-pages.inputs) (source_of g.I.Inputs c.read_next.new.inputs)
          c.loop-pages.invariant.stays c.read_next.ensures.takes;
      input = c.in-Ok.ensures.answer.2 ∙ c.loop-pages.invariant.input;
      keeps = keeps_on g.O.Sink g.E.Sink c.args.desk.now c.loop-pages.desk c.hold_page.new.desk c.loop-pages.invariant.keeps c.hold_page.ensures.keeps;
    }

-- a page more is read, and what was held with it isn't carried out
pub returns-in-Err-hold_page-clause-converted : goal.returns-in-Err-hold_page-clause-converted
returns-in-Err-hold_page-clause-converted g c =
    let from = standing_at g.I.Inputs g.O.Sink g.E.Sink c.args.made.now c.args.batch.now c.args.inputs.now c.args.desk.now in
    let now = standing_at g.I.Inputs g.O.Sink g.E.Sink c.args.made.now c.loop-pages.batch c.loop-pages.inputs c.loop-pages.desk in
    let next = standing_at g.I.Inputs g.O.Sink g.E.Sink c.args.made.now c.hold_page.new.batch c.read_next.new.inputs c.hold_page.new.desk in
    let named = next_name-made_with c.args.base.now c.count-first.result (documents_before c.args.task.now.plan.binding c.loop-pages.pages) c.args.made.now.made c.count-first.ensures.value in
    let document = c.requires.texts c.in-Ok.page c.in-Ok.ensures.answer.1 in (
      c.in-Err-hold_page.ensures.halts.0,
      halted from now c.loop-pages.invariant.converted c.in-Err-hold_page.status next c.read_next.new.reader c.in-Ok.page document.0
          c.in-Ok.ensures.answer.0 document.1
          (λ left are. rw named (ended_by c.in-Err-hold_page.status c.args.task.now.plan.binding (2 * c.args.task.now.plan.workers) _ _ c.hold_page.new.batch now.sinks next.sinks (c.in-Err-hold_page.ensures.held left are document.0 document.1)))
          (omega arith) c.in-Err-hold_page.ensures.halts.1 c.loop-pages.invariant.going.waits.few c.in-Err-hold_page.ensures.idle,
    )

pub returns-in-Err-hold_page-clause-stays : goal.returns-in-Err-hold_page-clause-stays
returns-in-Err-hold_page-clause-stays g c =
    stays_taken c.loop-pages.reader c.read_next.new.reader (source_of g.I.Inputs c.args.inputs.now) (source_of g.I.Inputs c.loop-pages.inputs) (source_of g.I.Inputs c.read_next.new.inputs)
    c.loop-pages.invariant.stays c.read_next.ensures.takes

pub returns-in-Err-hold_page-clause-keeps : goal.returns-in-Err-hold_page-clause-keeps
returns-in-Err-hold_page-clause-keeps g c = keeps_on g.O.Sink g.E.Sink c.args.desk.now c.loop-pages.desk c.hold_page.new.desk c.loop-pages.invariant.keeps c.hold_page.ensures.keeps

-- no page more is read
pub returns-in-Err : goal.returns-in-Err
returns-in-Err g c =
    let from = standing_at g.I.Inputs g.O.Sink g.E.Sink c.args.made.now c.args.batch.now c.args.inputs.now c.args.desk.now in
    let now = standing_at g.I.Inputs g.O.Sink g.E.Sink c.args.made.now c.loop-pages.batch c.loop-pages.inputs c.loop-pages.desk in
    record {
      converted = no_more from now c.loop-pages.invariant.converted c.read_next.new.reader (g.I.Inputs.files c.read_next.new.inputs) c.in-Err.end c.in-Err.ensures.answer.0.ends c.in-Err.ensures.answer.0.read_fault
          c.read_next.ensures.takes.needed (omega arith) (λ e. absurd (c.in-Err.ensures.answer.1 e));
      going = c.loop-pages.invariant.going;
      stays = stays_taken c.loop-pages.reader c.read_next.new.reader (source_of g.I.Inputs c.args.inputs.now) (source_of g.I.Inputs c.loop-pages.inputs) (source_of g.I.Inputs c.read_next.new.inputs)
          c.loop-pages.invariant.stays c.read_next.ensures.takes;
      input = faults_from c.in-Err.end (g.I.Inputs.faults c.args.inputs.now) (g.I.Inputs.faults c.loop-pages.inputs) (g.I.Inputs.faults c.read_next.new.inputs) c.loop-pages.invariant.input c.in-Err.ensures.answer.0.faults;
      keeps = c.loop-pages.invariant.keeps;
    }

-- or one that is one too many
pub returns : goal.returns
returns g c =
    let from = standing_at g.I.Inputs g.O.Sink g.E.Sink c.args.made.now c.args.batch.now c.args.inputs.now c.args.desk.now in
    let now = standing_at g.I.Inputs g.O.Sink g.E.Sink c.args.made.now c.loop-pages.batch c.loop-pages.inputs c.loop-pages.desk in
    record {
      converted = no_more from now c.loop-pages.invariant.converted c.end_after_most-end.new.reader (g.I.Inputs.files c.end_after_most-end.new.inputs) c.end_after_most-end.result c.end_after_most-end.ensures.ends.ends c.end_after_most-end.ensures.ends.read_fault
          c.end_after_most-end.ensures.takes.needed (omega arith) (λ _. omega arith);
      going = c.loop-pages.invariant.going;
      stays = stays_taken c.loop-pages.reader c.end_after_most-end.new.reader (source_of g.I.Inputs c.args.inputs.now) (source_of g.I.Inputs c.loop-pages.inputs) (source_of g.I.Inputs c.end_after_most-end.new.inputs)
          c.loop-pages.invariant.stays c.end_after_most-end.ensures.takes;
      input = faults_from c.end_after_most-end.result (g.I.Inputs.faults c.args.inputs.now) (g.I.Inputs.faults c.loop-pages.inputs) (g.I.Inputs.faults c.end_after_most-end.new.inputs) c.loop-pages.invariant.input c.end_after_most-end.ensures.ends.faults;
      keeps = c.loop-pages.invariant.keeps;
    }

pub returns-in-Err-hold_page-clause-going : goal.returns-in-Err-hold_page-clause-going
returns-in-Err-hold_page-clause-going g c = tt

pub returns-in-Err-hold_page-clause-input : goal.returns-in-Err-hold_page-clause-input
returns-in-Err-hold_page-clause-input g c = tt

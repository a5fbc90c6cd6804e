use Rattle.std.proofs.Common.{◌∙◌, ◌+◌, [], ◌∷◌, drop, refl, sym, subst}
use Rattle.std.specs.Prelude.{string_bytes}
use Rattle.run_output.specs.Messages.{trailing_line}
use Rattle.page_batches.specs.Inner.Entries.{AreInOrder}
use Rattle.page_batches.proofs.Batching.{end_cut, end_written, entries_from, message_written, none_written, open_behind_page, page_cut, page_written, said_with, turn_at}
use Rattle.page_batches.proofs.Carrying.{cut_off_at}
use Rattle.page_batches.proofs.Counts.{never_falls_on, same_count}
use Rattle.page_batches.proofs.Desks.{keeps_on}
use Rattle.page_batches.proofs.batch.write_entries.Goals as goal
use Rattle.page_batches.proofs.batch.write_entries.Goals.{in-Page+in_ok-write_page-in-Page, in-End+in_ok-write_end-in-End, in-EndTrailing+in_ok-write_end-in-EndTrailing, in-Trailing}

-- nothing is written yet
pub loop-entry-init : goal.loop-entry-init
loop-entry-init g c = record {
  written = none_written c.args.binding c.args.entries.now c.args.texts.now _ c.requires.texts;
  turn = c.requires.turn;
  keeps = record { outs = refl; errs = refl; ready = c.requires.ready; never_falls = same_count (g.O.Sink.faults c.args.desk.now.outs.now) };
}

-- a page is cut off
pub returns-in_err-write_page-in-Page-clause-written : goal.returns-in_err-write_page-in-Page-clause-written
returns-in_err-write_page-in-Page-clause-written g c =
    let from = entries_from c.args.entries.now c.loop-entry.entry-index _ c.entry-item.result c.loop-entry-test.true c.entry-item.is c.in-Page.is in
    cut_off_at c.from_residual.result _ _ _ c.from_residual.ensures.0 (page_cut c.loop-entry.invariant.written _ c.in-Page.name c.in-Page.before c.index-texts-done.result
    from c.index-texts-done.is (rw (c.deref.ensures, c.deref-in-Page.ensures.value) at c.in_err-write_page-in-Page.ensures.written))

-- the end of a document is cut off
pub returns-in_err-write_end-in-End-clause-written : goal.returns-in_err-write_end-in-End-clause-written
returns-in_err-write_end-in-End-clause-written g c =
    let from = entries_from c.args.entries.now c.loop-entry.entry-index _ c.entry-item.result c.loop-entry-test.true c.entry-item.is c.in-End.is in
    cut_off_at c.from_residual-in_err-write_end-in-End.result _ _ _ c.from_residual-in_err-write_end-in-End.ensures.0 (end_cut c.loop-entry.invariant.written _ _ _ from refl
    (rw (c.deref-in-End.ensures) at c.in_err-write_end-in-End.ensures.written []))

pub returns-in_err-write_end-in-EndTrailing-clause-written : goal.returns-in_err-write_end-in-EndTrailing-clause-written
returns-in_err-write_end-in-EndTrailing-clause-written g c =
    let from = entries_from c.args.entries.now c.loop-entry.entry-index _ c.entry-item.result c.loop-entry-test.true c.entry-item.is c.in-EndTrailing.is in
    cut_off_at c.from_residual-in_err-write_end-in-EndTrailing.result _ _ _ c.from_residual-in_err-write_end-in-EndTrailing.ensures.0 (end_cut c.loop-entry.invariant.written _ _ _ from refl
    (rw (c.deref-in-EndTrailing.ensures) at c.in_err-write_end-in-EndTrailing.ensures.written (trailing_line (string_bytes c.in-EndTrailing.file) c.in-EndTrailing.pages ∷ [])))

-- one entry more
pub loop-entry-preserved : goal.loop-entry-preserved
loop-entry-preserved g c = elim c.match-entry.branch [
  | in-Page+in_ok-write_page-in-Page w ↦
      let b = c.args.binding in
      let from = entries_from c.args.entries.now c.loop-entry.entry-index _ c.entry-item.result c.loop-entry-test.true c.entry-item.is w.in-Page.is in
      let turn = turn_at b _ c.args.entries.now c.loop-entry.entry-index _ from c.loop-entry.invariant.turn in
      let before = c.loop-entry.invariant.keeps in
      let more = w.write_page.ensures.keeps in
      rw (w.desk-is, w.done-is) (record {
        written = page_written c.loop-entry.invariant.written _ w.in-Page.name w.in-Page.before w.index-texts-done.result
            from w.index-texts-done.is (rw (w.deref.ensures, w.deref-in-Page.ensures.value) at w.in_ok-write_page-in-Page.ensures.written);
        turn = subst (λ o. AreInOrder b o (drop (c.loop-entry.entry-index + 1) c.args.entries.now)) (sym (w.in_ok-write_page-in-Page.ensures.written.opened ∙ open_behind_page b _ _ _)) turn.1;
        keeps = keeps_on g.O.Sink g.E.Sink c.args.desk.now c.loop-entry.desk _ before more;
      })
  | in-End+in_ok-write_end-in-End w ↦
      let b = c.args.binding in
      let from = entries_from c.args.entries.now c.loop-entry.entry-index _ c.entry-item.result c.loop-entry-test.true c.entry-item.is w.in-End.is in
      let turn = turn_at b _ c.args.entries.now c.loop-entry.entry-index _ from c.loop-entry.invariant.turn in
      let before = c.loop-entry.invariant.keeps in
      let more = w.write_end.ensures.keeps in
      rw (w.desk-is, w.done-is) (record {
        written = end_written c.loop-entry.invariant.written _ _ _ from refl refl
            (rw (w.deref-in-End.ensures) at w.in_ok-write_end-in-End.ensures.written);
        turn = subst (λ o. AreInOrder b o (drop (c.loop-entry.entry-index + 1) c.args.entries.now)) (sym w.in_ok-write_end-in-End.ensures.written.opened) turn.1;
        keeps = keeps_on g.O.Sink g.E.Sink c.args.desk.now c.loop-entry.desk _ before more;
      })
  | in-EndTrailing+in_ok-write_end-in-EndTrailing w ↦
      let b = c.args.binding in
      let from = entries_from c.args.entries.now c.loop-entry.entry-index _ c.entry-item.result c.loop-entry-test.true c.entry-item.is w.in-EndTrailing.is in
      let turn = turn_at b _ c.args.entries.now c.loop-entry.entry-index _ from c.loop-entry.invariant.turn in
      let before = c.loop-entry.invariant.keeps in
      let more = w.write_end-in-EndTrailing.ensures.keeps in
      rw (w.desk-is, w.done-is) (record {
        written = end_written c.loop-entry.invariant.written _ _ _ from refl refl
            (said_with _ _ _ _ _ _ (rw (w.deref-in-EndTrailing.ensures) at w.in_ok-write_end-in-EndTrailing.ensures.written) (record { outs = refl; opened = refl })
            (rw (w.deref-in-EndTrailing-2.ensures, w.from.ensures) at w.say_trailing.ensures.says));
        turn = subst (λ o. AreInOrder b o (drop (c.loop-entry.entry-index + 1) c.args.entries.now)) (sym w.in_ok-write_end-in-EndTrailing.ensures.written.opened) turn.1;
        keeps = record { outs = more.outs ∙ before.outs; errs = more.errs ∙ before.errs; ready = w.say_trailing.ensures.stays_ready; never_falls = never_falls_on _ _ _ before.never_falls more.never_falls };
      })
  | in-Trailing w ↦
      let b = c.args.binding in
      let from = entries_from c.args.entries.now c.loop-entry.entry-index _ c.entry-item.result c.loop-entry-test.true c.entry-item.is w.in-Trailing.is in
      let turn = turn_at b _ c.args.entries.now c.loop-entry.entry-index _ from c.loop-entry.invariant.turn in
      let before = c.loop-entry.invariant.keeps in
      rw (w.desk-is, w.done-is) (record {
        written = message_written c.loop-entry.invariant.written _ w.in-Trailing.name w.in-Trailing.pages
            from (record { outs = refl; opened = refl })
            (rw (w.deref-in-Trailing.ensures, w.from-in-Trailing.ensures) at w.say_trailing-in-Trailing.ensures.says);
        turn = turn;
        keeps = record { outs = before.outs; errs = before.errs; ready = w.say_trailing-in-Trailing.ensures.stays_ready; never_falls = before.never_falls };
      })
]

-- the desk is the same
pub returns-in_err-write_page-in-Page-clause-keeps : goal.returns-in_err-write_page-in-Page-clause-keeps
returns-in_err-write_page-in-Page-clause-keeps g c = keeps_on g.O.Sink g.E.Sink c.args.desk.now c.loop-entry.desk c.write_page.new.self c.loop-entry.invariant.keeps c.write_page.ensures.keeps

pub returns-in_err-write_end-in-End-clause-keeps : goal.returns-in_err-write_end-in-End-clause-keeps
returns-in_err-write_end-in-End-clause-keeps g c = keeps_on g.O.Sink g.E.Sink c.args.desk.now c.loop-entry.desk c.write_end.new.self c.loop-entry.invariant.keeps c.write_end.ensures.keeps

pub returns-in_err-write_end-in-EndTrailing-clause-keeps : goal.returns-in_err-write_end-in-EndTrailing-clause-keeps
returns-in_err-write_end-in-EndTrailing-clause-keeps g c =
    keeps_on g.O.Sink g.E.Sink c.args.desk.now c.loop-entry.desk c.write_end-in-EndTrailing.new.self c.loop-entry.invariant.keeps c.write_end-in-EndTrailing.ensures.keeps

pub returns-clause-keeps : goal.returns-clause-keeps
returns-clause-keeps g c = c.loop-entry.invariant.keeps

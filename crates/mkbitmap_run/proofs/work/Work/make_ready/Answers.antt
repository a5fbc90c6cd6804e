use Rattle.std.proofs.Common.{◌≡◌, ◌+◌, ◌<◌, ◌≤◌, List, ℕ, [], ◌∷◌, ◌++◌, Err, length, min, refl, ap, sym, ◌∙◌, subst, arith}
use Rattle.std.proofs.lemmas.List.{with_items_is}
use Rattle.mkbitmap.specs.Enlarged.{after_of}
use Rattle.mkbitmap.specs.Follows.{IsRow}
use Rattle.mkbitmap.proofs.Order.{after-ends}
use Rattle.mkbitmap_run.proofs.GivenRows.{stops_row}
use Rattle.mkbitmap_run.proofs.PageWork.{along_none, along_on, along_step, along_taken, along_then, can_still, ge_of, is_less, lt_of, one_needed, one_there, same_need}
use Rattle.mkbitmap_run.proofs.work.Work.make_ready.Goals as goal

-- no row was read yet
pub rows-init : goal.rows-init
rows-init g c = record { can = c.requires; steady = refl; openings = refl; next = []; along = along_none _ _ }

-- one more row was read and taken
pub rows-preserved-in-Ok : goal.rows-preserved-in-Ok
rows-preserved-in-Ok g c =
    let held = c.rows.invariant in
    let can = held.can in
    let work = c.rows.self in
    let gives = c.in-Ok.ensures.ok in
    let goes = c.take.ensures.goes in
    let less : work.filter.pairs < after_of work.filter.times c.args.y + 1 = is_less _ _ (sym c.rows-test.ensures) can.behind in
    let wanted : work.filter.taken < min work.filter.height (work.filter.pairs + work.filter.radius + 1) = lt_of _ _ c.if-wants_row.ensures in
    let size : length c.row.new.row ≡ work.row.len = c.row.ensures.same_room ∙ c.deref_mut.ensures.len in
    let same = with_items_is work.row c.row.new.row size in
    let along = along_taken work _ _ _ c.row.new.row gives goes (ap length same ∙ size ∙ work.row.ok.0) wanted
    (λ page follows is. c.take.ensures.follows page follows (subst (λ (l : List ℕ). IsRow page work.filter.taken l) (sym (c.deref.ensures.value ∙ same)) is)) in
    let need = one_needed c.args.y work _ can less wanted in
    record {
      can = can_still c.args.y work _ can _ _ _ along (record { opened = c.row.ensures.stays_opened; at_end = c.row.ensures.still_at_end; within = c.row.ensures.within }) (omega (arith, can.behind, goes.pairs))
          (omega (arith, need, gives.one_given));
      steady = c.in-Ok.ensures.steady ∙ held.steady;
      openings = c.row.ensures.same_openings ∙ held.openings;
      next = held.next ++ (gives.values ∷ []);
      along = along_on _ _ _ _ _ _ held.next (gives.values ∷ []) held.along along;
    }

-- after the rows read until now, the next one couldn't be read
pub returns-in-Err-clause-stops : goal.returns-in-Err-clause-stops
returns-in-Err-clause-stops g c =
    let held = c.rows.invariant in
    let can = held.can in
    let work = c.rows.self in
    let less : work.filter.pairs < after_of work.filter.times c.args.y + 1 = is_less _ _ (sym c.rows-test.ensures) can.behind in
    let wanted : work.filter.taken < min work.filter.height (work.filter.pairs + work.filter.radius + 1) = lt_of _ _ c.if-wants_row.ensures in
    let need = one_needed c.args.y work _ can less wanted in
    let same = same_need _ work _ _ held.next held.along c.args.y in
    record {
      rows = held.next;
      mid = work.reader;
      at = g.I.Inputs.files c.rows.inputs;
      gives = held.along.gives;
      stops = stops_row _ _ _ _ _ c.in-Err.ensures.refused (λ e. c.in-Err.ensures.read_fault (ap Err e)) (λ e. c.in-Err.ensures.free (ap Err e));
      few = one_there c.args.y work _ can wanted;
      early = omega (arith, need, same);
      within = can.reading.within;
    }

pub step-requires-clause-due : goal.step-requires-clause-due
step-requires-clause-due g c =
    let can = c.rows.invariant.can in
    let work = c.rows.self in
    let less : work.filter.pairs < after_of work.filter.times c.args.y + 1 = is_less _ _ (sym c.rows-test.ensures) can.behind in
    let ends = after-ends work.reader.head.height work.filter.times c.args.y can.at_work.fits.some_times can.row in
    omega (arith, less, ends, can.at_work.fits.height)

-- the filter made a step
pub rows-preserved : goal.rows-preserved
rows-preserved g c =
    let held = c.rows.invariant in
    let can = held.can in
    let work = c.rows.self in
    let goes = c.step.ensures.goes in
    let less : work.filter.pairs < after_of work.filter.times c.args.y + 1 = is_less _ _ (sym c.rows-test.ensures) can.behind in
    let none : min work.filter.height (work.filter.pairs + work.filter.radius + 1) ≤ work.filter.taken = ge_of _ _ c.if-wants_row.ensures in
    let along = along_step work c.step.new.self (g.I.Inputs.files c.rows.inputs) goes.setup (omega (arith, goes.taken)) c.step.ensures.follows (omega (arith, none, can.at_work.due)) goes.pairs in
    record {
      can = can_still c.args.y work _ can _ _ [] along can.reading (omega (arith, less, goes.pairs)) can.ahead;
      steady = held.steady;
      openings = held.openings;
      next = held.next;
      along = along_then _ _ _ _ _ held.next held.along along;
    }

-- What the document holds after each row of the result, and after a call that failed.
use Rattle.std.proofs.Common.{◌≡◌, ℕ, suc, zero, ◌+◌, ◌-◌, ◌*◌, ◌≤◌, ◌<◌, inr, List, [], ◌++◌, length, take, refl, ap, sym, ◌∙◌, subst, arith, Option, Result, Ok, Err, length-append}
use Rattle.std.proofs.lemmas.List.{take_all}
use Rattle.std.proofs.lemmas.Nat.{mul-le}
use Rattle.pt_core.specs.Documents.{Documents, with_bytes, with_end, with_open, with_whole}
use Rattle.pt_base.proofs.Writing.{none_written, with_bytes-with_bytes}
use Rattle.bitmap_input.specs.Inner.Reading.{CountsBy}
use Rattle.bitmap_input.specs.Reading.{cause_of_fault}
use Rattle.bitmap_input.specs.declared.gray_reader.GrayHead.{GrayHead}
use Rattle.mkbitmap.specs.Box.{Gray}
use Rattle.mkbitmap.specs.Enlarged.{after_of, need}
use Rattle.mkbitmap.proofs.RaisedReliefs.{need-is}
use Rattle.mkbitmap.proofs.Order.{after-rises, need-last, need-rises}
use Rattle.run_output.specs.Names.{dash}
use Rattle.run_output.specs.Told.{AllWent, Told}
use Rattle.run_output.proofs.Calls.{broke_on, went_on}
use Rattle.mkbitmap_words.specs.declared.setup.Setup.{Setup}
use Rattle.mkbitmap_run.specs.PageHeader.{PageHeader}
use Rattle.mkbitmap_run.specs.Inner.Put.{BreaksPage, BreaksRow, BreaksRows, PutsAll, PutsRow, PutsRows, StepEnds, World}
use Rattle.mkbitmap_run.specs.FilterRun.{PutsFront, need_of, rows_above, HasFirstRows}
use Rattle.mkbitmap_run.specs.Result.{result_head, result_row, result_rows, result_text, scan_of}
use Rattle.mkbitmap_run.specs.Inner.FilterWork.{CanPut, GoesAlong, IsAtWork, IsBeforeRows, StaysOpened, StopsBefore, header_of, setup_of}
use Rattle.mkbitmap_run.specs.declared.fault.Break.{Break}
use Rattle.mkbitmap_run.specs.declared.fault.Break.TheVariants as breaks
use Rattle.mkbitmap_run.specs.declared.work.Work.{Work}
use Rattle.mkbitmap_run.proofs.CutDocuments.{ended_with, opened_with, scan_is, text_above}
use Rattle.mkbitmap_run.proofs.ResultRows.{above_next}
use Rattle.mkbitmap_run.proofs.GivenRows.{fewer_rows, gives_on}
use Rattle.mkbitmap_run.proofs.PageWork.{along_none, along_on, same_after, same_header, same_need, same_rows}

pub pos_of : (a b : ℕ) → 1 ≤ a → 1 ≤ b → 1 ≤ a * b
pos_of a b one two = mul-le 1 1 a b one two

-- How calls end.

-- calls after calls that succeeded
pub ends_on : {X : Type 0} (result : Result X Break) (a b c : World) → b.source.faults ≡ a.source.faults → AllWent a.outs b.outs → StepEnds result b c → StepEnds result a c
ends_on (Ok x) a b c same before (steady, went) = (steady ∙ same, went_on a.outs b.outs c.outs before went)
ends_on (Err (breaks.Input fault)) a b c same before (counts, went) =
    (subst (λ (n : ℕ). CountsBy (cause_of_fault fault) n c.source.faults) same counts, went_on a.outs b.outs c.outs before went)
ends_on (Err breaks.Output) a b c same before (steady, broke) = (steady ∙ same, broke_on a.outs b.outs c.outs before broke)

-- The rows of the result.

-- the rows above row Y were written
pub record HasPutAbove (Y : ℕ) (old : Work) (before : World) (at : Work) (mid : World) : Type 0 where
  pub stays : StaysOpened at.reader before.source mid.source
  pub rows : List (List ℕ)
  pub along : GoesAlong old before.source.files rows at mid.source.files
  pub none : Y ≡ 0 → at.filter.pairs ≡ 0
  pub pairs : 1 ≤ Y → at.filter.pairs ≡ after_of old.filter.times (Y - 1) + 1
  pub read : 1 ≤ Y → at.reader.given ≡ need_of (setup_of old.filter) (header_of old.reader) (Y - 1)
  pub puts : PutsRows (setup_of old.filter) (header_of old.reader) rows Y before.outs.documents mid.outs.documents
  pub steady : mid.source.faults ≡ before.source.faults
  pub went : AllWent before.outs mid.outs

pub above_none : (old : Work) (before : World) → IsBeforeRows old → StaysOpened old.reader before.source before.source → HasPutAbove 0 old before old before
above_none old before start stays = record {
  stays = stays;
  rows = [];
  along = along_none old before.source.files;
  none = λ _. start.none;
  pairs = λ some. absurd (omega (arith, some));
  read = λ some. absurd (omega (arith, some));
  puts = λ page has. none_written before.outs.documents;
  steady = refl;
  went = record { steady = refl; went = refl };
}

module _ (Y : ℕ) (old : Work) (before : World) (at : Work) (mid : World) (start : IsBeforeRows old) (held : HasPutAbove Y old before at mid) where
  some : 1 ≤ old.filter.times
  some = start.at_work.fits.some_times

  tall : 1 ≤ old.reader.head.height
  tall = omega (arith, start.at_work.fits.some_rows, start.at_work.fits.height)

  work : IsAtWork at held.rows
  work = held.along.along [] start.at_work

  same_height : at.reader.head.height ≡ old.reader.head.height
  same_height = ap (λ (h : GrayHead). h.height) held.along.gives.same_head

  same_radius : at.filter.radius ≡ old.filter.radius
  same_radius = ap (λ (s : Setup). s.radius) held.along.setup

  here : (all : List (List ℕ)) (page : Gray) → HasFirstRows (header_of old.reader) all page → HasFirstRows (header_of at.reader) all page
  here all page has = subst (λ (h : PageHeader). HasFirstRows h all page) (sym (same_header old at before.source.files mid.source.files held.rows held.along)) has

  row_here : (page : Gray) → result_row (setup_of at.filter) page Y ≡ result_row (setup_of old.filter) page Y
  row_here page = ap (λ (s : Setup). result_row s page Y) held.along.setup

  behind : (y : ℕ) → y ≡ Y → at.filter.pairs ≤ after_of old.filter.times Y + 1
  behind zero is = let none = held.none (sym is) in omega (arith, none)
  behind (suc y) is =
      let pairs = held.pairs (omega (arith, is)) in
      let rises = after-rises old.filter.times (Y - 1) Y some (omega arith) in
      omega (arith, pairs, rises)

  ahead : (y : ℕ) → y ≡ Y → at.reader.given ≤ need_of (setup_of old.filter) (header_of old.reader) Y
  ahead zero is =
      let none = held.none (sym is) in
      omega (arith, work.due, none, work.taken, work.given, work.fits.height, same_height, same_radius, need-is old.reader.head.height old.filter.radius old.filter.times Y some tall)
  ahead (suc y) is =
      let read = held.read (omega (arith, is)) in
      let rises = need-rises old.reader.head.height old.filter.radius old.filter.times (Y - 1) Y some tall (omega arith) in
      omega (arith, read, rises)

  -- row Y can be written, if there is one
  pub can_put : Y < old.filter.times * old.reader.head.height → CanPut Y at mid.source
  can_put within = record {
    reading = held.stays.reading;
    rows = held.rows;
    at_work = work;
    row = rw (same_rows old at before.source.files mid.source.files held.rows held.along) within;
    behind = rw (same_after old at before.source.files mid.source.files held.rows held.along Y) (behind Y refl);
    ahead = rw (same_need old at before.source.files mid.source.files held.rows held.along Y) (ahead Y refl);
  }

  -- after row Y was written, the rows above row Y + 1 were written
  pub above_too : (new : Work) (now : World) → PutsRow Y at mid new now → StaysOpened new.reader mid.source now.source → now.source.faults ≡ mid.source.faults → AllWent mid.outs now.outs
      → HasPutAbove (Y + 1) old before new now
  above_too new now row stays steady went =
      let ready = row.ready in
      let one : Y + 1 - 1 ≡ Y = omega arith in
      record {
        stays = record { reading = stays.reading; openings = stays.openings ∙ held.stays.openings };
        rows = held.rows ++ ready.next;
        along = along_on old at new before.source.files mid.source.files now.source.files held.rows ready.next held.along ready.along;
        none = λ never. absurd (omega (arith, never));
        pairs = λ _. ready.pairs ∙ ap (λ (n : ℕ). n + 1) (same_after old at before.source.files mid.source.files held.rows held.along Y) ∙ ap (λ (n : ℕ). after_of old.filter.times n + 1) (sym one);
        read = λ _. ready.read ∙ same_need old at before.source.files mid.source.files held.rows held.along Y ∙ ap (need_of (setup_of old.filter) (header_of old.reader)) (sym one);
        puts = λ page has.
            let above = rows_above (setup_of old.filter) page Y in
            let this = result_row (setup_of old.filter) page Y in
            let high : 1 ≤ page.height = omega (arith, has.height, tall) in
            let next : Y + 1 ≡ suc Y = omega arith in
            row.put held.rows work page (here (held.rows ++ ready.next) page has) ∙ ap (with_bytes mid.outs.documents) (row_here page)
            ∙ ap (λ (d : Option Documents). with_bytes d this) (held.puts page (fewer_rows (header_of old.reader) held.rows ready.next page has))
            ∙ with_bytes-with_bytes before.outs.documents above this
            ∙ ap (with_bytes before.outs.documents) (sym (ap (rows_above (setup_of old.filter) page) next ∙ above_next (setup_of old.filter) page some high Y));
        steady = steady ∙ held.steady;
        went = went_on before.outs mid.outs now.outs held.went went;
      }

  many : length held.rows ≡ at.reader.given
  many = sym work.given

  enough_rows : (y : ℕ) → y < Y → need_of (setup_of old.filter) (header_of old.reader) y ≤ length held.rows
  enough_rows y within =
      let rises = need-rises old.reader.head.height old.filter.radius old.filter.times y (Y - 1) some tall (omega (arith, within)) in
      let read = held.read (omega (arith, within)) in omega (arith, rises, read, many)

  -- writing stopped at row Y
  pub rows_break : (why : Break) (new : Work) (now : World) → Y < old.filter.times * old.reader.head.height → BreaksRow why Y at mid new now → BreaksRows why old before new now
  rows_break (breaks.Input fault) new now within (stop, none) =
      let all : StopsBefore (cause_of_fault fault) Y old before.source.files new.reader now.source.files = record {
        rows = held.rows ++ stop.rows;
        mid = stop.mid;
        at = stop.at;
        gives = gives_on old.reader at.reader stop.mid before.source.files mid.source.files stop.at held.rows stop.rows held.along.gives stop.gives;
        stops = stop.stops;
        few = stop.few;
        early = (let same = same_need old at before.source.files mid.source.files held.rows held.along Y in omega (arith, same, stop.early));
        within = stop.within;
      } in (
        Y,
        within,
        all,
        λ y below. let e = enough_rows y below in omega (arith, e, length-append held.rows stop.rows),
        λ page has. ap (λ (t : Told). t.documents) none ∙ held.puts page (fewer_rows (header_of old.reader) held.rows stop.rows page has),
      )
  rows_break breaks.Output new now within (next, gives, given, cuts) =
      let all = gives_on old.reader at.reader new.reader before.source.files mid.source.files now.source.files held.rows next held.along.gives gives in (
        Y,
        within,
        held.rows ++ next,
        all,
        (let e : length (held.rows ++ next) ≡ new.reader.given = omega (arith, all.given, start.at_work.given) in e) ∙ given ∙ same_need old at before.source.files mid.source.files held.rows held.along Y,
        λ page has.
            let this = result_row (setup_of old.filter) page Y in
            let (i, most, is) = subst (λ (row : List ℕ). (n : ℕ) × (n ≤ length row) × (now.outs.documents ≡ with_bytes mid.outs.documents (take n row))) (row_here page)
            (cuts held.rows work page (here (held.rows ++ next) page has)) in (
              i,
              most,
              is ∙ ap (λ (d : Option Documents). with_bytes d (take i this)) (held.puts page (fewer_rows (header_of old.reader) held.rows next page has))
                  ∙ with_bytes-with_bytes before.outs.documents (rows_above (setup_of old.filter) page Y) (take i this),
            ),
      )

  -- all rows were written
  pub all_put : Y ≡ old.filter.times * old.reader.head.height → PutsAll old before at mid
  all_put is =
      let any : 1 ≤ old.filter.times * old.reader.head.height = pos_of old.filter.times old.reader.head.height some tall in
      record {
        rows = held.rows;
        gives = held.along.gives;
        all = many ∙ held.read (omega (arith, any, is)) ∙ need-last old.reader.head.height old.filter.radius old.filter.times (Y - 1) some tall (omega (arith, any, is));
        puts = subst (λ (n : ℕ). PutsRows (setup_of old.filter) (header_of old.reader) held.rows n before.outs.documents mid.outs.documents) is held.puts;
      }

-- The document: its beginning, and then the rows.

-- writing stopped at a row, after the document's beginning was written
pub page_breaks : (why : Break) (old new : Work) (before now : World) (first : Told) → IsBeforeRows old
    → first.documents ≡ with_open before.outs.documents dash (result_head (setup_of old.filter) (header_of old.reader))
    → BreaksRows why old (record { source = before.source; outs = first }) new now → BreaksPage why old before new now
page_breaks (breaks.Input fault) old new before now first start head (Y, below, stop, enough, puts) =
    let few : length stop.rows ≤ need old.reader.head.height old.filter.radius old.filter.times Y = omega (arith, stop.early, stop.gives.given, start.at_work.given) in
    let within : Y ≤ old.filter.times * old.reader.head.height = omega (arith, below) in
    let tall : 1 ≤ old.reader.head.height = omega (arith, start.at_work.fits.some_rows, start.at_work.fits.height) in (
      need old.reader.head.height old.filter.radius old.filter.times Y,
      stop,
      text_above (setup_of old.filter) (header_of old.reader) start.at_work.fits.some_times tall stop.rows Y before.outs.documents now.outs.documents within enough few
          (λ page has. puts page has ∙ ap (λ (d : Option Documents). with_bytes d (rows_above (setup_of old.filter) page Y)) head),
    )
page_breaks breaks.Output old new before now first start head (Y, within, rows, gives, read, puts) = (
  rows,
  gives,
  inr (Y, within, read, λ page has. let (i, most, is) = puts page has in (i, most, is ∙ ap (λ (d : Option Documents). with_bytes d (rows_above (setup_of old.filter) page Y ++ take i (result_row (setup_of old.filter) page Y))) head)),
)

-- the document's beginning was written
pub head_put : (old begun put : Option Documents) (name text head : List ℕ) → begun ≡ with_open old name [] → put ≡ with_bytes begun text → text ≡ head → put ≡ with_open old name head
head_put old begun put name text head opened wrote is =
    wrote ∙ ap (λ (d : Option Documents). with_bytes d text) opened ∙ opened_with old name [] text ∙ ap (with_open old name) is

module _ (setup : Setup) (header : PageHeader) (rows : List (List ℕ)) (old first put last : Option Documents) (some : 1 ≤ setup.times) (tall : 1 ≤ header.height)
    (all : length rows ≡ header.height) (head : first ≡ with_open old dash (result_head setup header))
    (puts : PutsRows setup header rows (setup.times * header.height) first put) where
  -- all rows were written, and the document was ended
  pub page_put : last ≡ with_end put → last ≡ with_whole old dash (result_text setup header rows)
  page_put ended =
      let page = scan_of header rows in
      let same : result_rows setup page (length rows) (setup.times * header.height) ≡ rows_above setup page (setup.times * header.height) =
      ap (λ (n : ℕ). result_rows setup page n (setup.times * header.height)) all in
      ended ∙ ap with_end (puts page (scan_is header rows) ∙ ap (λ (d : Option Documents). with_bytes d (rows_above setup page (setup.times * header.height))) head
      ∙ opened_with old dash (result_head setup header) (rows_above setup page (setup.times * header.height)))
      ∙ ended_with old dash (result_head setup header ++ rows_above setup page (setup.times * header.height))
      ∙ ap (λ (l : List ℕ). with_whole old dash (result_head setup header ++ l)) (sym same)

  -- all rows were written, and ending the document failed
  pub page_cut : last ≡ put → (Y : ℕ) × (Y < setup.times * header.height) × (length rows ≡ need_of setup header Y)
      × PutsFront setup header rows Y (with_open old dash (result_head setup header)) last
  page_cut same =
      let some_rows : 1 ≤ setup.times * header.height = pos_of setup.times header.height some tall in
      let Y : ℕ = setup.times * header.height - 1 in
      let one : suc Y ≡ setup.times * header.height = omega (arith, some_rows) in
      let ends = need-last header.height setup.radius setup.times Y some tall (omega (arith, some_rows)) in (
        Y,
        omega (arith, some_rows),
        all ∙ sym ends,
        λ page has.
            let high : 1 ≤ page.height = omega (arith, has.height, tall) in (
              length (result_row setup page Y),
              omega arith,
              same ∙ puts page has ∙ ap (λ (d : Option Documents). with_bytes d (rows_above setup page (setup.times * header.height))) head
                  ∙ ap (with_bytes (with_open old dash (result_head setup header)))
                  (ap (rows_above setup page) (sym one) ∙ above_next setup page some high Y ∙ ap (λ (l : List ℕ). rows_above setup page Y ++ l) (sym (take_all (length (result_row setup page Y)) (result_row setup page Y) (omega arith)))),
            ),
      )

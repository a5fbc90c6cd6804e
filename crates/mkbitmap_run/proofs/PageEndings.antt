-- A run that has read the page's header is as defined, whichever rows were read and written.
use Rattle.std.proofs.Common.{◌≡◌, ℕ, suc, ◌-◌, ◌≤◌, ◌<◌, ◌&&◌, inl, inr, Bool, true, false, List, [], ◌++◌, length, refl, ap, sym, ◌∙◌, subst, arith, codes, nat_eq, if◌then◌else◌, append_assoc, append-nil, Option}
use Rattle.pt_core.specs.Counts.{Rose, next_count}
use Rattle.pt_core.specs.Files.{Files}
use Rattle.bitmap_input.specs.Cut.{Cut, Kind, is_by_end}
use Rattle.bitmap_input.specs.Cut.FileEnd.{Refused}
use Rattle.bitmap_input.specs.Cut.Cut.{Takes, Stops}
use Rattle.bitmap_input.specs.FaultText.{kind_text}
use Rattle.bitmap_input.specs.GrayReader.{FailsToRead, GraySource, Refuses}
use Rattle.mkbitmap_run.specs.PageHeader.{PageHeader, page_header}
use Rattle.bitmap_input.specs.Reading.Cause.{Says, Device}
use Rattle.bitmap_input.proofs.GrayHeaders.{gray_row_stays}
use Rattle.bitmap_input.proofs.ComposedSteps.{not_true}
use Rattle.run_output.specs.Messages.{file_line}
use Rattle.run_output.specs.Names.{dash}
use Rattle.run_output.specs.Told.{BrokeOff, IsMessage, Sinks, Source}
use Rattle.small_program.specs.ProgramRun.{Writes}
use Rattle.run_output.specs.declared.status.Status.{Status}
use Rattle.run_output.specs.declared.status.Status.TheVariants as status
use Rattle.small_program.proofs.TakenInput.{is_not_missing, one_input}
use Rattle.mkbitmap_words.specs.declared.setup.Setup.{Setup}
use Rattle.mkbitmap_run.specs.Inner.Head.{StandsBehindHead}
use Rattle.mkbitmap_run.specs.FilterRun.{IsPageRun, LeavesOpen, ReadsNearNext, ReadsNearRows, filter_name, page_says, rows_behind, IsCutAt}
use Rattle.mkbitmap_run.specs.Result.{result_text}
use Rattle.mkbitmap_run.specs.Rows.{LeavesRows, ReachesNear, cut_row, fits_result, head_ending, page_ending, row_before, settled_rows, standing}
use Rattle.mkbitmap_run.specs.Inner.FilterWork.{BeginsWork, GivesRows, HasReadHead, StaysOpened, StopsBehind, header_of, setup_of}
use Rattle.mkbitmap_run.specs.declared.work.Work.{Work}
use Rattle.bitmap_input.specs.declared.gray_reader.GrayHead.{GrayHead}
use Rattle.mkbitmap_run.proofs.CutDocuments.{cut_few, cut_of_more}
use Rattle.mkbitmap_run.proofs.GivenRows.{header_stays}
use Rattle.mkbitmap_run.proofs.RowPrefixes.{cut_stays, leaves_weaken, near_of, none_settled, settled_is, standing_is}
use Rattle.mkbitmap_run.proofs.TakenBytes.{all_of_taken, taken_on}

-- How a run ends, by the bytes.

same_numbers : (a b : ℕ) → a ≡ b → nat_eq a b ≡ true
same_numbers a b same = grind (arith, same)

other_numbers : (a b : ℕ) → a < b → nat_eq a b ≡ false
other_numbers a b less = grind (arith, less)

module _ (setup : Setup) (bytes : List ℕ) (e : Bool) (header : PageHeader) (rest : List ℕ) (head : page_header bytes ≡ Takes e header rest) where
  ending_by : (fits whole : Bool) → fits_result setup header.width header.height ≡ fits → nat_eq (length (rows_behind header rest)) header.height ≡ whole
      → page_ending setup bytes ≡ (if fits && whole then status.Done else status.Refused)
  ending_by fits whole a b = ap (head_ending setup) head
      ∙ ap (λ (t : Bool). if t && nat_eq (length (rows_behind header rest)) header.height then status.Done else status.Refused) a
      ∙ ap (λ (t : Bool). if fits && t then status.Done else status.Refused) b

  all_rows : fits_result setup header.width header.height ≡ true → length (rows_behind header rest) ≡ header.height → page_ending setup bytes ≡ status.Done
  all_rows fits all = ending_by true true fits (same_numbers _ _ all)

  few_rows : fits_result setup header.width header.height ≡ true → length (rows_behind header rest) < header.height → page_ending setup bytes ≡ status.Refused
  few_rows fits few = ending_by true false fits (other_numbers _ _ few)

  pub too_large : fits_result setup header.width header.height ≡ false → page_ending setup bytes ≡ status.Refused
  too_large large = ending_by false (nat_eq (length (rows_behind header rest)) header.height) large refl

-- no call of the outputs failed
pub not_unwritten : (end : Status) (old new : Sinks) → new.outs.faults ≡ old.outs.faults → old.outs.faults < new.outs.faults → end ≡ status.Unwritten
not_unwritten end old new same less = absurd (omega (arith, same, less))

-- the bytes begin with the header and these rows, followed by the bytes that the reader holds and the unread ones
record StandsSo (header : PageHeader) (bytes : List ℕ) (rows : List (List ℕ)) (left : List ℕ) (ended : Bool) : Type 0 where
  by_end : Bool
  rest : List ℕ
  head : page_header bytes ≡ Takes by_end header rest
  may : by_end ≡ true → ended ≡ true
  leaves : LeavesRows ended (cut_row header) rest rows left

module _ (source mid : Source) (reader : GraySource) (stands : StandsBehindHead source reader mid) where
  page_stands : (new : GraySource) (now : Option Files) (rows : List (List ℕ)) → (gives : GivesRows reader mid.files rows new now) → (tail : List ℕ) → (new.ended ≡ true → tail ≡ [])
      → StandsSo (header_of reader) ((stands.taken ++ gives.more) ++ tail) rows (new.bytes ++ tail) new.ended
  page_stands new now rows gives tail none =
      let empty : reader.ended ≡ true → gives.more ++ tail ≡ [] = λ ended.
      let (no_more, now_ended) = gives.moves.stopped ended in ap (λ (l : List ℕ). l ++ tail) no_more ∙ none now_ended in
      let (e, may, head) = stands.head (gives.more ++ tail) empty in
      record {
        by_end = e;
        rest = reader.bytes ++ (gives.more ++ tail);
        head = ap page_header (append_assoc stands.taken gives.more tail) ∙ head;
        may = λ h. (gives.moves.stopped (may h)).1;
        leaves = subst (λ (l : List ℕ). LeavesRows new.ended (cut_row (header_of reader)) l rows (new.bytes ++ tail)) (append_assoc reader.bytes gives.more tail) (gives.leaves tail none);
      }

  -- after the rows, no more was read than a reader holds
  reads_near : (new : GraySource) (now : Option Files) (rows : List (List ℕ)) → (gives : GivesRows reader mid.files rows new now) → length new.bytes ≤ 65536
      → ReadsNearRows (header_of reader) (stands.taken ++ gives.more) rows
  reads_near new now rows gives within =
      let near = page_stands new now rows gives [] (λ _. refl) in
      record {
        ended = new.ended;
        by_end = near.by_end;
        rest = near.rest;
        left = new.bytes ++ [];
        head = ap page_header (sym (append-nil (stands.taken ++ gives.more))) ∙ near.head;
        leaves = near.leaves;
        near = omega (arith, within, ap length (append-nil new.bytes));
      }

-- a page for which the header and some rows were read
pub record RunsPage (setup : Setup) (source now : Source) : Type 0 where
  pub mid : Source
  pub reader : GraySource
  pub after : GraySource
  pub stands : StandsBehindHead source reader mid
  pub fits : fits_result setup reader.head.width reader.head.height ≡ true
  pub stays : StaysOpened after mid now

-- a page for which this header was read and the result written, whole or in part
abbrev pub runs_page : (setup : Setup) (source mid now : Source) (head : GrayHead) (reader after : GraySource) (work : Work) → StandsBehindHead source reader mid → BeginsWork setup reader work
    → HasReadHead head reader → fits_result setup head.width head.height ≡ true → StaysOpened after mid now → RunsPage (setup_of work.filter) source now
runs_page setup source mid now head reader after work stands begins read fits stays =
    let same : fits_result (setup_of work.filter) work.reader.head.width work.reader.head.height ≡ fits_result setup reader.head.width reader.head.height =
    λ i. fits_result (begins.same_setup i) (begins.same_reader i).head.width (begins.same_reader i).head.height in
    record {
      mid = mid;
      reader = work.reader;
      after = after;
      stands = subst (λ (r : GraySource). StandsBehindHead source r mid) (sym begins.same_reader) stands;
      fits = same ∙ ap (λ (h : GrayHead). fits_result setup h.width h.height) read.is ∙ fits;
      stays = stays;
    }

pub with_setup : (s t : Setup) (end : Status) (source now : Source) (old new : Sinks) → s ≡ t → IsPageRun s end source now old new → IsPageRun t end source now old new
with_setup s t end source now old new same run = subst (λ (u : Setup). IsPageRun u end source now old new) same run

module _ (setup : Setup) (source now : Source) (p : RunsPage setup source now) (old new : Sinks) where
  abbrev mid : Source
  mid = p.mid

  abbrev reader : GraySource
  reader = p.reader

  abbrev after : GraySource
  after = p.after

  abbrev stands : StandsBehindHead source p.reader p.mid
  stands = p.stands

  opened_once : now.openings ≡ next_count source.openings
  opened_once = p.stays.openings ∙ stands.opened

  -- all rows were read, and the document was written
  pub run_done : (rows : List (List ℕ)) → GivesRows reader mid.files rows after now.files → length rows ≡ reader.head.height → now.faults ≡ mid.faults
      → Writes (result_text setup (header_of reader) rows) old new → IsPageRun setup status.Done source now old new
  run_done rows gives all steady writes =
      let header = header_of reader in
      let taken = taken_on source.files mid.files now.files stands.taken gives.more reader.ended after.ended stands.has gives.moves in
      let (more, has, none) = all_of_taken source.files now.files (stands.taken ++ gives.more) after.ended taken p.stays.reading.at_end in
      let bytes = (stands.taken ++ gives.more) ++ more in
      let so = page_stands source mid reader stands after now.files rows gives more none in
      let same : rows_behind header so.rest ≡ rows = standing_is after.ended (cut_row header) so.rest rows _ header.height 0 (omega (arith, all)) so.leaves ∙ append-nil rows in
      let whole : length (rows_behind header so.rest) ≡ header.height = ap length same ∙ all in
      record {
        outcome = (
          bytes,
          record { opened = opened_once; steady = steady ∙ stands.steady; has = has },
          record {
            header = header;
            rest = so.rest;
            head = record { by_end = so.by_end; head = so.head; fits = p.fits };
            all = whole;
            writes = subst (λ (l : List (List ℕ)). Writes (result_text setup header l) old new) (sym same) writes;
          },
          record {
            taken = stands.taken ++ gives.more;
            has = taken;
            so = subst (λ (l : List (List ℕ)). ReadsNearRows header (stands.taken ++ gives.more) l) (sym same) (reads_near source mid reader stands after now.files rows gives p.stays.reading.within);
          },
        );
        missing = λ lacks. absurd (is_not_missing source.files bytes has lacks);
        complete = λ others tells still_in still_out.
            inl (sym (ap (page_ending setup) (one_input source.files bytes others has tells) ∙ all_rows setup bytes so.by_end header so.rest so.head p.fits whole));
        unwritten = not_unwritten status.Done old new writes.went.steady;
      }

  -- the next row is refused
  pub run_refused : (kind : Kind) (last : ℕ) → (stop : StopsBehind (Says (Refused kind)) last reader mid.files after now.files) → now.faults ≡ mid.faults
      → LeavesOpen (result_text setup (header_of reader) stop.rows) (page_says (kind_text kind)) old new
      → IsPageRun setup status.Refused source now old new
  run_refused kind last stop steady leaves =
      let header = header_of reader in
      let rows = stop.rows in
      let m = stop.mid in
      let gives = stop.gives in
      let stops : Refuses (cut_row (header_of m)) kind m stop.at after now.files = stop.stops in
      let cut = stops.cut in
      let first = taken_on source.files mid.files stop.at stands.taken gives.more reader.ended m.ended stands.has gives.moves in
      let taken = taken_on source.files stop.at now.files (stands.taken ++ gives.more) cut.more m.ended after.ended first cut.moves in
      let (more, has, none) = all_of_taken source.files now.files ((stands.taken ++ gives.more) ++ cut.more) after.ended taken p.stays.reading.at_end in
      let bytes = ((stands.taken ++ gives.more) ++ cut.more) ++ more in
      let empty : m.ended ≡ true → cut.more ++ more ≡ [] = λ ended. let (no_more, now_ended) = cut.moves.stopped ended in ap (λ (l : List ℕ). l ++ more) no_more ∙ none now_ended in
      let so = page_stands source mid reader stands m stop.at rows gives (cut.more ++ more) empty in
      let head : page_header bytes ≡ Takes so.by_end header so.rest = ap page_header (append_assoc (stands.taken ++ gives.more) cut.more more) ∙ so.head in
      let left : List ℕ = m.bytes ++ (cut.more ++ more) in
      let same_head : header_of m ≡ header = header_stays reader m mid.files stop.at rows gives in
      let part = cut_row header in
      let ends : cut_row (header_of m) ((m.bytes ++ cut.more) ++ more) ≡ Stops stops.by_end (Refused kind) =
      cut_stays (cut_row (header_of m)) (gray_row_stays m.plain m.head.maxval m.head.width) (m.bytes ++ cut.more) more _ after.ended cut.is cut.settled none in
      let refused : part left ≡ Stops stops.by_end (Refused kind) =
      ap part (sym (append_assoc m.bytes cut.more more)) ∙ ap (λ (h : PageHeader). cut_row h ((m.bytes ++ cut.more) ++ more)) (sym same_head) ∙ ends in
      let tall : m.head.height ≡ header.height = ap (λ (h : PageHeader). h.height) same_head in
      let few : length rows < header.height = omega (arith, stop.few, tall, gives.given) in
      let k : ℕ = header.height - suc (length rows) in
      let none_behind : standing part (suc k) left ≡ [] = ap (λ (c : Cut (List ℕ)). row_before (λ (l : List ℕ). standing part k l) c) refused in
      let same : rows_behind header so.rest ≡ rows =
      standing_is m.ended part so.rest rows left header.height (suc k) (omega (arith, few)) so.leaves ∙ ap (λ (l : List (List ℕ)). rows ++ l) none_behind ∙ append-nil rows in
      let short : length (rows_behind header so.rest) < header.height = omega (arith, few, ap length same) in
      let so_far = page_stands source mid reader stands m stop.at rows gives cut.more (λ ended. (cut.moves.stopped ended).0) in
      let near : ReadsNearNext header ((stands.taken ++ gives.more) ++ cut.more) rows = record {
        ended = m.ended;
        by_end = so_far.by_end;
        rest = so_far.rest;
        left = m.bytes ++ cut.more;
        head = so_far.head;
        leaves = so_far.leaves;
        near = subst (λ (h : PageHeader). ReachesNear (cut_row h) (m.bytes ++ cut.more)) same_head (near_of (cut_row (header_of m)) m.bytes cut.more stop.within cut.needed);
      } in
      record {
        outcome = (
          bytes,
          record { opened = opened_once; steady = steady ∙ stands.steady; has = has },
          inr (
            record {
              header = header;
              rest = so.rest;
              left = left;
              by_end = stops.by_end;
              kind = kind;
              head = record { by_end = so.by_end; head = head; fits = p.fits };
              few = short;
              rows = subst (λ (l : List (List ℕ)). LeavesRows true part so.rest l left) (sym same) (leaves_weaken m.ended true part so.rest rows left (λ _. refl) so.leaves);
              refused = refused;
              leaves = subst (λ (l : List (List ℕ)). LeavesOpen (result_text setup header l) (page_says (kind_text kind)) old new) (sym same) leaves;
            },
            record {
              taken = (stands.taken ++ gives.more) ++ cut.more;
              has = taken;
              so = subst (λ (l : List (List ℕ)). ReadsNearNext header ((stands.taken ++ gives.more) ++ cut.more) l) (sym same) near;
            },
          ),
        );
        missing = λ lacks. absurd (is_not_missing source.files bytes has lacks);
        complete = λ others tells still_in still_out.
            inl (sym (ap (page_ending setup) (one_input source.files bytes others has tells) ∙ few_rows setup bytes so.by_end header so.rest head p.fits short));
        unwritten = not_unwritten status.Refused old new leaves.went.steady;
      }

  -- a read failed within the next row
  pub run_unread : (last : ℕ) → (stop : StopsBehind Device last reader mid.files after now.files) → Rose source.faults now.faults → LeavesOpen (result_text setup (header_of reader) stop.rows) (page_says (codes "read fault")) old new
      → IsPageRun setup status.Unread source now old new
  run_unread last stop rose leaves =
      let header = header_of reader in
      let rows = stop.rows in
      let m = stop.mid in
      let gives = stop.gives in
      let stops : FailsToRead (cut_row (header_of m)) m stop.at after now.files = stop.stops in
      let first = taken_on source.files mid.files stop.at stands.taken gives.more reader.ended m.ended stands.has gives.moves in
      let taken = taken_on source.files stop.at now.files (stands.taken ++ gives.more) stops.more m.ended after.ended first stops.moves in
      let going : m.ended ≡ true → ⊥ = λ ended. not_true (sym stops.going_on ∙ (stops.moves.stopped ended).1) in
      let so = page_stands source mid reader stands m stop.at rows gives stops.more (λ ended. absurd (going ended)) in
      let same_head : header_of m ≡ header = header_stays reader m mid.files stop.at rows gives in
      let part = cut_row header in
      let left : List ℕ = m.bytes ++ stops.more in
      let ends : is_by_end (part left) ≡ true = ap (λ (h : PageHeader). is_by_end (cut_row h left)) (sym same_head) ∙ stops.by_end in
      let tall : m.head.height ≡ header.height = ap (λ (h : PageHeader). h.height) same_head in
      let few : length rows < header.height = omega (arith, stop.few, tall, gives.given) in
      let not_by_end : so.by_end ≡ false = is_false so.by_end (λ h. going (so.may h)) in
      let settled : LeavesRows false part so.rest rows left = leaves_weaken m.ended false part so.rest rows left (λ h. absurd (going h)) so.leaves in
      let same : settled_rows part header.height so.rest ≡ rows =
      settled_is part so.rest rows left header.height (header.height - length rows) (omega (arith, few)) settled
      ∙ ap (λ (l : List (List ℕ)). rows ++ l) (none_settled part left (header.height - length rows) ends) ∙ append-nil rows in
      record {
        outcome = inr (
          (stands.taken ++ gives.more) ++ stops.more,
          record { opened = opened_once; still_opened = p.stays.reading.opened; rose = rose; has = taken },
          inr (record {
            header = header;
            rest = so.rest;
            head = subst (λ (b : Bool). page_header ((stands.taken ++ gives.more) ++ stops.more) ≡ Takes b header so.rest) not_by_end so.head;
            fits = p.fits;
            left = left;
            few = omega (arith, few, ap length same);
            rows = subst (λ (l : List (List ℕ)). LeavesRows false part so.rest l left) (sym same) settled;
            undecided = ends;
            leaves = subst (λ (l : List (List ℕ)). LeavesOpen (result_text setup header l) (page_says (codes "read fault")) old new) (sym same) leaves;
          }),
        );
        missing = λ lacks. refl;
        complete = λ others tells still_in still_out. absurd (still_in rose);
        unwritten = not_unwritten status.Unread old new leaves.went.steady;
      }
    where
      is_false : (b : Bool) → (b ≡ true → ⊥) → b ≡ false
      is_false true h = absurd (h refl)
      is_false false h = refl

  -- the document couldn't be written
  pub run_unwritten : (rows : List (List ℕ)) → GivesRows reader mid.files rows after now.files → 1 ≤ setup.times → 1 ≤ reader.head.height → now.faults ≡ mid.faults
      → IsCutAt setup (header_of reader) rows old.outs.documents new.outs.documents → BrokeOff old.outs new.outs
      → IsMessage (file_line filter_name dash (codes "write fault")) old.errs new.errs
      → IsPageRun setup status.Unwritten source now old new
  run_unwritten rows gives some tall steady cut broke says =
      let header = header_of reader in
      let few : length rows ≤ header.height = cut_few setup header some tall rows old.outs.documents new.outs.documents cut in
      let taken = taken_on source.files mid.files now.files stands.taken gives.more reader.ended after.ended stands.has gives.moves in
      let (more, has, none) = all_of_taken source.files now.files (stands.taken ++ gives.more) after.ended taken p.stays.reading.at_end in
      let bytes = (stands.taken ++ gives.more) ++ more in
      let so = page_stands source mid reader stands after now.files rows gives more none in
      let behind : List (List ℕ) = standing (cut_row header) (header.height - length rows) (after.bytes ++ more) in
      let same : rows_behind header so.rest ≡ rows ++ behind = standing_is after.ended (cut_row header) so.rest rows _ header.height (header.height - length rows) (omega (arith, few)) so.leaves in
      record {
        outcome = record {
          taken = stands.taken ++ gives.more;
          more = more;
          header = header;
          rest = so.rest;
          read = rows;
          takes = record { opened = opened_once; steady = steady ∙ stands.steady; has = has };
          has = taken;
          head = record { by_end = so.by_end; head = so.head; fits = p.fits };
          cut = rw same (cut_of_more setup header some tall rows behind old.outs.documents new.outs.documents cut);
          place = cut;
          near = reads_near source mid reader stands after now.files rows gives p.stays.reading.within;
          broke = broke;
          says = says;
        };
        missing = λ lacks. absurd (is_not_missing source.files bytes has lacks);
        complete = λ others tells still_in still_out. absurd (still_out broke.rose);
        unwritten = λ less. refl;
      }

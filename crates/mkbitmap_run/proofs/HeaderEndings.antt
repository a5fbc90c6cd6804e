-- A run that stops at the page's header is as defined.
use Rattle.std.proofs.Common.{◌≡◌, ℕ, ◌⊎◌, inl, inr, Bool, true, false, ◌||◌, List, [], ◌++◌, refl, ap, sym, ◌∙◌, subst, arith, codes, Option}
use Rattle.pt_core.specs.Counts.{Rose, next_count}
use Rattle.pt_core.specs.Files.{Files, Lacks}
use Rattle.bitmap_input.specs.Cut.{Cut, Kind, is_by_end, ◌>>=◌}
use Rattle.bitmap_input.specs.Cut.FileEnd.{End, Trailing, Refused}
use Rattle.bitmap_input.specs.Cut.Cut.{Takes, Stops}
use Rattle.bitmap_input.specs.FaultText.{cause_text, kind_text}
use Rattle.bitmap_input.specs.GrayReader.{GivesHead, GraySource, gray_at_start}
use Rattle.bitmap_input.specs.GrayRows.{gray_header}
use Rattle.bitmap_input.specs.Reading.{AtEnd, Cause, cause_of_fault}
use Rattle.bitmap_input.specs.Inner.Reading.{CountsBy}
use Rattle.bitmap_input.specs.declared.fault.InFault.{InFault}
use Rattle.bitmap_input.specs.declared.fault.InFault.TheVariants as fault
use Rattle.pt_core.specs.declared.fault.OpenFault.{OpenFault}
use Rattle.pt_core.specs.declared.fault.OpenFault.TheVariants as faults
use Rattle.bitmap_input.specs.Reading.Cause.{Says, Device, Memory}
use Rattle.bitmap_input.specs.declared.gray_reader.GrayHead.{GrayHead}
use Rattle.mkbitmap_run.specs.PageHeader.{PageHeader, page_header}
use Rattle.bitmap_input.proofs.BmpLengths.{cuts_bind, cuts_take}
use Rattle.bitmap_input.proofs.GrayHeaders.{gray_header_stays}
use Rattle.bitmap_input.proofs.Sided.{AreSidesInRange, IsHeaderSided, cuts_gray_header}
use Rattle.run_output.specs.Messages.{file_line, program_line}
use Rattle.run_output.specs.Names.{dash}
use Rattle.run_output.specs.Told.{Sinks, Source, Told}
use Rattle.small_program.specs.Input.{HasTaken, TellsInput}
use Rattle.small_program.specs.ProgramRun.{OnlySays}
use Rattle.run_output.specs.declared.status.Status.TheVariants as status
use Rattle.small_program.proofs.TakenInput.{is_not_missing, is_there, one_input}
use Rattle.mkbitmap_words.specs.declared.setup.Setup.{Setup}
use Rattle.mkbitmap_run.specs.Inner.Head.{StandsBehindHead, StopsHead}
use Rattle.mkbitmap_run.specs.FilterRun.{IsPageRun, LeavesOpen, filter_name, page_says}
use Rattle.mkbitmap_run.specs.Inner.FilterRun.{cause_ending}
use Rattle.mkbitmap_run.specs.Result.{result_text}
use Rattle.mkbitmap_run.specs.Rows.{fits_result, head_ending, page_ending}
use Rattle.mkbitmap_run.specs.Inner.FilterWork.{StaysOpened, StopsBehind, header_of}
use Rattle.mkbitmap_run.proofs.PageEndings.{RunsPage, not_unwritten, run_refused, run_unread, too_large}
use Rattle.mkbitmap_run.proofs.RowPrefixes.{cut_stays, near_by, near_of}
use Rattle.mkbitmap_run.proofs.TakenBytes.{all_of_taken, taken_on}

-- The header as this program reads it.

or_false : (e : Bool) → (e || false) ≡ e
or_false true = refl
or_false false = refl

head_stops : (bytes : List ℕ) (e : Bool) (kind : Kind) → gray_header bytes ≡ Stops e (Refused kind) → page_header bytes ≡ Stops e (Refused kind)
head_stops bytes e kind is = ap (λ c. c >>= λ h rest. Takes false (record { plain = h.plain; width = h.width; height = h.height; maxval = h.maxval }) rest) is

head_takes : (bytes : List ℕ) (e : Bool) (header : PageHeader) (rest : List ℕ)
    → gray_header bytes ≡ Takes e (record { plain = header.plain; width = header.width; height = header.height; maxval = header.maxval }) rest → page_header bytes ≡ Takes e header rest
head_takes bytes e header rest is =
    ap (λ c. c >>= λ h rest. Takes false (record { plain = h.plain; width = h.width; height = h.height; maxval = h.maxval }) rest) is
    ∙ ap (λ (b : Bool). Takes b header rest) (or_false e)

ends_so : {A B : Type 0} (g : A → B) (c : Cut A) → is_by_end (c >>= λ x rest. Takes false (g x) rest) ≡ is_by_end c
ends_so g (Takes e x rest) = or_false e
ends_so g (Stops e why) = refl

head_ends : (bytes : List ℕ) → is_by_end (page_header bytes) ≡ is_by_end (gray_header bytes)
head_ends bytes = ends_so (λ h. record { plain = h.plain; width = h.width; height = h.height; maxval = h.maxval }) (gray_header bytes)

-- the header's sides are in the range for pages
pub header_sided : (bytes : List ℕ) (e : Bool) (header : PageHeader) (rest : List ℕ) → page_header bytes ≡ Takes e header rest → AreSidesInRange header.width header.height
header_sided bytes =
    cuts_bind IsHeaderSided (λ (h : PageHeader) _. AreSidesInRange h.width h.height) (gray_header bytes) _ (cuts_gray_header bytes)
    (λ h rest are. cuts_take (λ (h : PageHeader) _. AreSidesInRange h.width h.height) false (record { plain = h.plain; width = h.width; height = h.height; maxval = h.maxval }) rest are)

same_outs : (old new : Sinks) → new.outs ≡ old.outs → new.outs.faults ≡ old.outs.faults
same_outs old new same = ap (λ (t : Told). t.faults) same

module _ (setup : Setup) (source now : Source) (old new : Sinks) where
  -- standard input can't be opened
  pub run_unopened : now.openings ≡ next_count source.openings → now.is_opened ≡ false → (Lacks source.files dash × (now.faults ≡ source.faults)) ⊎ Rose source.faults now.faults
      → OnlySays (file_line filter_name dash (codes "cannot be opened")) old new → IsPageRun setup status.Unread source now old new
  run_unopened opened none cause says = record {
    outcome = inl (record { fails = record { opened = opened; cause = cause }; closed = none }, says);
    missing = λ lacks. refl;
    complete = λ bytes tells still_in still_out. absurd (no_cause bytes tells still_in cause);
    unwritten = not_unwritten status.Unread old new (same_outs old new says.same);
  }
    where
      no_cause : (bytes : List ℕ) → TellsInput source.files bytes → (Rose source.faults now.faults → ⊥) → (Lacks source.files dash × (now.faults ≡ source.faults)) ⊎ Rose source.faults now.faults → ⊥
      no_cause bytes tells still (inl (lacks, same)) = is_there source.files bytes tells lacks
      no_cause bytes tells still (inr rose) = still rose

  -- memory ran out
  pub run_out_of_memory : now.openings ≡ next_count source.openings → now.faults ≡ source.faults → (Lacks source.files dash → ⊥)
      → OnlySays (program_line filter_name (codes "out of memory")) old new → IsPageRun setup status.OutOfMemory source now old new
  run_out_of_memory opened steady there says = record {
    outcome = (record { opened = inr opened; steady = steady }, says);
    missing = λ lacks. absurd (there lacks);
    complete = λ bytes tells still_in still_out. inr refl;
    unwritten = not_unwritten status.OutOfMemory old new (same_outs old new says.same);
  }

  -- the header is refused, or a read failed within it
  pub run_at_head : (why : Cause) (reader : GraySource) (opened : Source) → opened.openings ≡ next_count source.openings → HasTaken source.files opened.files []
      → StaysOpened reader opened now → CountsBy why source.faults now.faults → StopsHead why reader opened.files now.files → OnlySays (page_says (cause_text why)) old new → IsPageRun setup (cause_ending why) source now old new
  run_at_head (Says (Refused kind)) reader opened one none stays counts stops says =
      let cut = stops.cut in
      let taken = taken_on source.files opened.files now.files [] cut.more false reader.ended none cut.moves in
      let (more, has, empty) = all_of_taken source.files now.files cut.more reader.ended taken stays.reading.at_end in
      let bytes = cut.more ++ more in
      let ends : page_header bytes ≡ Stops stops.by_end (Refused kind) =
      head_stops bytes stops.by_end kind (cut_stays gray_header gray_header_stays cut.more more _ reader.ended cut.is cut.settled empty) in
      record {
        outcome = (
          bytes,
          record { opened = stays.openings ∙ one; steady = counts; has = has },
          inl (
            record { why = kind_text kind; cause = inl (stops.by_end, kind, ends, refl); says = says },
            record { taken = cut.more; has = taken; so = near_by gray_header page_header cut.more head_ends (near_of gray_header [] cut.more (omega arith) cut.needed) },
          ),
        );
        missing = λ lacks. absurd (is_not_missing source.files bytes has lacks);
        complete = λ others tells still_in still_out. inl (sym (ap (page_ending setup) (one_input source.files bytes others has tells) ∙ ap (head_ending setup) ends));
        unwritten = not_unwritten status.Refused old new (same_outs old new says.same);
      }
  run_at_head (Says End) reader opened one none stays counts stops says = absurd stops
  run_at_head (Says Trailing) reader opened one none stays counts stops says = absurd stops
  run_at_head Memory reader opened one none stays counts stops says = absurd stops
  run_at_head Device reader opened one none stays counts stops says = record {
    outcome = inr (stops.more, record { opened = stays.openings ∙ one; still_opened = stays.reading.opened; rose = counts.0; has = taken_on source.files opened.files now.files [] stops.more false reader.ended none stops.moves }, inl (head_ends stops.more ∙ stops.by_end, says));
    missing = λ lacks. refl;
    complete = λ others tells still_in still_out. absurd (still_in counts.0);
    unwritten = not_unwritten status.Unread old new (same_outs old new says.same);
  }

module _ (source mid : Source) (reader : GraySource) (stands : StandsBehindHead source reader mid) (at_end : reader.ended ≡ true → AtEnd mid.files) where
  -- standard input isn't missing
  pub there_behind_head : Lacks source.files dash → ⊥
  there_behind_head lacks =
      let (more, has, none) = all_of_taken source.files mid.files stands.taken reader.ended stands.has at_end in is_not_missing source.files (stands.taken ++ more) has lacks

  -- the result is too large
  pub run_too_large : (setup : Setup) (old new : Sinks) → fits_result setup reader.head.width reader.head.height ≡ false
      → OnlySays (page_says (codes "result too large")) old new → IsPageRun setup status.Refused source mid old new
  run_too_large setup old new large says =
      let (more, has, none) = all_of_taken source.files mid.files stands.taken reader.ended stands.has at_end in
      let bytes = stands.taken ++ more in
      let (e, may, head) = stands.head more none in
      record {
        outcome = (
          bytes,
          record { opened = stands.opened; steady = stands.steady; has = has },
          inl (
            record { why = codes "result too large"; cause = inr (e, header_of reader, reader.bytes ++ more, head, large, refl); says = says },
            record { taken = stands.taken; has = stands.has; so = stands.near },
          ),
        );
        missing = λ lacks. absurd (is_not_missing source.files bytes has lacks);
        complete = λ others tells still_in still_out.
            inl (sym (ap (page_ending setup) (one_input source.files bytes others has tells) ∙ too_large setup bytes e (header_of reader) (reader.bytes ++ more) head large));
        unwritten = not_unwritten status.Refused old new (same_outs old new says.same);
      }

-- a row couldn't be read
pub run_at_row : (setup : Setup) (source now : Source) (p : RunsPage setup source now) (old new : Sinks) (why : Cause) (last : ℕ)
    → (stop : StopsBehind why last p.reader p.mid.files p.after now.files) → CountsBy why p.mid.faults now.faults
    → LeavesOpen (result_text setup (header_of p.reader) stop.rows) (page_says (cause_text why)) old new → IsPageRun setup (cause_ending why) source now old new
run_at_row setup source now p old new (Says (Refused kind)) last stop counts leaves = run_refused setup source now p old new kind last stop counts leaves
run_at_row setup source now p old new (Says End) last stop counts leaves = absurd stop.stops
run_at_row setup source now p old new (Says Trailing) last stop counts leaves = absurd stop.stops
run_at_row setup source now p old new Memory last stop counts leaves = absurd stop.stops
run_at_row setup source now p old new Device last stop counts leaves =
    run_unread setup source now p old new last stop (subst (λ (n : ℕ). Rose n now.faults) p.stands.steady counts.0) leaves

-- the header was read
pub header_stands : (source opened mid : Source) (reader : GraySource) (head : GrayHead) → opened.openings ≡ next_count source.openings → opened.faults ≡ source.faults
    → HasTaken source.files opened.files [] → StaysOpened reader opened mid → mid.faults ≡ opened.faults
    → GivesHead gray_at_start opened.files head reader mid.files → StandsBehindHead source reader mid
header_stands source opened mid reader head openings steady none stays same_faults gives =
    let cut = gives.cut in
    let same : header_of reader ≡ record { plain = reader.plain; width = head.width; height = head.height; maxval = head.maxval } =
    ap (λ (h : GrayHead). record { plain = reader.plain; width = h.width; height = h.height; maxval = h.maxval }) gives.head_is in
    record {
      opened = stays.openings ∙ openings;
      steady = same_faults ∙ steady;
      taken = cut.more;
      has = taken_on source.files opened.files mid.files [] cut.more false reader.ended none cut.moves;
      near = near_by gray_header page_header cut.more head_ends (near_of gray_header [] cut.more (omega arith) cut.needed);
      head = λ tail empty. (
        gives.by_end,
        cut.settled,
        head_takes (cut.more ++ tail) gives.by_end (record { plain = reader.plain; width = head.width; height = head.height; maxval = head.maxval }) (reader.bytes ++ tail)
            (cut_stays gray_header gray_header_stays cut.more tail _ reader.ended cut.is cut.settled empty)
            ∙ ap (λ (h : PageHeader). Takes gives.by_end h (reader.bytes ++ tail)) (sym same),
      );
    }

-- standard input couldn't be opened
pub not_opened : (e : OpenFault) (files : Option Files) (n m : ℕ) → ((e ≡ faults.Absent) → Lacks files dash) → (e ≡ faults.Absent → m ≡ n) → (e ≡ faults.Device → Rose n m)
    → (Lacks files dash × (m ≡ n)) ⊎ Rose n m
not_opened faults.Absent files n m lacks same rose = inl (lacks refl, same refl)
not_opened faults.Device files n m lacks same rose = inr (rose refl)

-- a refusal isn't a read fault
pub refused_cause : (f : InFault) → (f ≡ fault.ReadFault → ⊥) → (f ≡ fault.NoMemory → ⊥) → status.Refused ≡ cause_ending (cause_of_fault f)
refused_cause fault.UnknownFormat a b = refl
refused_cause fault.BadHeader a b = refl
refused_cause fault.ZeroSide a b = refl
refused_cause fault.TooLarge a b = refl
refused_cause fault.Truncated a b = refl
refused_cause fault.BadRaster a b = refl
refused_cause fault.BmpKind a b = refl
refused_cause fault.BadOffset a b = refl
refused_cause fault.TooLong a b = refl
refused_cause fault.ReadFault a b = absurd (a refl)
refused_cause fault.NoMemory a b = absurd (b refl)

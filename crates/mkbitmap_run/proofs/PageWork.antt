-- The reader and the filter of a page in progress go through its rows together.
use Rattle.std.proofs.Common.{◌≡◌, ℕ, ◌+◌, ◌*◌, ◌≤◌, ◌<◌, List, [], ◌∷◌, ◌++◌, length, min, nat_eq, nat_le, nat_lt, ◌&&◌, true, false, refl, ap, sym, ◌∙◌, subst, arith, Option, length-append, append-nil, append_assoc}
use Rattle.std.proofs.lemmas.List.{get_or_push}
use Rattle.pt_core.specs.Files.{Files}
use Rattle.bitmap_input.specs.GrayReader.{GivesRow}
use Rattle.bitmap_input.specs.declared.gray_reader.GrayHead.{GrayHead}
use Rattle.mkbitmap_run.specs.PageHeader.{PageHeader}
use Rattle.mkbitmap.specs.Box.{Gray}
use Rattle.mkbitmap.specs.Enlarged.{after_of, is_black}
use Rattle.mkbitmap.specs.Filtering.{Filtering, HasGone, SameSetup}
use Rattle.mkbitmap.specs.Follows.{Follows, IsRow}
use Rattle.bit_image.specs.PbmText.{row_text}
use Rattle.mkbitmap.specs.Packing.{padded}
use Rattle.mkbitmap.proofs.RaisedReliefs.{need-is}
use Rattle.run_output.specs.Told.{Source}
use Rattle.mkbitmap_words.specs.declared.setup.Setup.{Setup}
use Rattle.mkbitmap_words.specs.Inner.FilterAsked.{CanFilter}
use Rattle.mkbitmap_run.specs.FilterRun.{need_of, HasFirstRows}
use Rattle.mkbitmap_run.specs.Result.{result_row}
use Rattle.mkbitmap_run.specs.Inner.FilterWork.{CanPut, FitsWork, GetsReady, GoesAlong, IsAtWork, IsGrayHead, MayRead, header_of, setup_of}
use Rattle.mkbitmap_run.specs.declared.work.Work.{Work}
use Rattle.mkbitmap_run.proofs.GivenRows.{fewer_rows, gives_none, gives_on, gives_one, header_stays, lowered_row}

-- Tests of numbers.

-- two different numbers
pub is_less : (a b : ℕ) → nat_eq a b ≡ false → a ≤ b → a < b
is_less a b other most = grind (arith, other, most)

pub lt_of : (a b : ℕ) → true ≡ nat_lt a b → a < b
lt_of a b less = grind (arith, less)

pub ge_of : (a b : ℕ) → false ≡ nat_lt a b → b ≤ a
ge_of a b other = grind (arith, other)

pub fits_both : (a b c d : ℕ) → (nat_le a b && nat_le c d) ≡ true → (a ≤ b) × (c ≤ d)
fits_both a b c d both = grind (arith, both)

pub same_setup : (f g : Filtering) → SameSetup f g → setup_of g ≡ setup_of f
same_setup f g same = λ i. record { radius = same.radius i; times = same.times i; level = same.level i }

-- What stays the same while a page in progress goes on.
module _ (old new : Work) (before now : Option Files) (next : List (List ℕ)) (goes : GoesAlong old before next new now) where
  pub same_header : header_of new.reader ≡ header_of old.reader
  same_header = header_stays old.reader new.reader before now next goes.gives

  pub same_need : (Y : ℕ) → need_of (setup_of new.filter) (header_of new.reader) Y ≡ need_of (setup_of old.filter) (header_of old.reader) Y
  same_need Y = λ i. need_of (goes.setup i) (same_header i) Y

  pub same_after : (Y : ℕ) → after_of new.filter.times Y ≡ after_of old.filter.times Y
  same_after Y = ap (λ (s : Setup). after_of s.times Y) goes.setup

  pub same_rows : new.filter.times * new.reader.head.height ≡ old.filter.times * old.reader.head.height
  same_rows = λ i. (goes.setup i).times * (same_header i).height

-- Going through rows, and then through further rows.

pub along_none : (work : Work) (files : Option Files) → GoesAlong work files [] work files
along_none work files = record {
  gives = gives_none work.reader files;
  setup = refl;
  along = λ rows work_now. subst (λ (l : List (List ℕ)). IsAtWork work l) (sym (append-nil rows)) work_now;
}

pub along_on : (old mid new : Work) (before at now : Option Files) (xs ys : List (List ℕ)) → GoesAlong old before xs mid at → GoesAlong mid at ys new now
    → GoesAlong old before (xs ++ ys) new now
along_on old mid new before at now xs ys a b = record {
  gives = gives_on old.reader mid.reader new.reader before at now xs ys a.gives b.gives;
  setup = b.setup ∙ a.setup;
  along = λ rows work. subst (λ (l : List (List ℕ)). IsAtWork new l) (append_assoc rows xs ys) (b.along (rows ++ xs) (a.along rows work));
}

-- only the filter went on
pub along_then : (old mid new : Work) (before at : Option Files) (next : List (List ℕ)) → GoesAlong old before next mid at → GoesAlong mid at [] new at → GoesAlong old before next new at
along_then old mid new before at next a b = subst (λ (l : List (List ℕ)). GoesAlong old before l new at) (append-nil next) (along_on old mid new before at at next [] a b)

fits_stay : (old new : Work) → new.reader.head ≡ old.reader.head → SameSetup old.filter new.filter → length new.row.items ≡ length old.row.items → FitsWork old → FitsWork new
fits_stay old new head same room fits =
    let width : new.reader.head.width ≡ old.reader.head.width = ap (λ (h : GrayHead). h.width) head in
    let height : new.reader.head.height ≡ old.reader.head.height = ap (λ (h : GrayHead). h.height) head in
    let maxval : new.reader.head.maxval ≡ old.reader.head.maxval = ap (λ (h : GrayHead). h.maxval) head in
    record {
      width = same.width ∙ fits.width ∙ sym width;
      height = same.height ∙ fits.height ∙ sym height;
      maxval = same.maxval ∙ fits.maxval ∙ sym maxval;
      some_rows = rw same.height fits.some_rows;
      most_white = rw same.maxval fits.most_white;
      some_times = rw same.times fits.some_times;
      room = room ∙ fits.room ∙ sym width;
    }

-- One more row was read and taken.
module _ (old new : Work) (before now : Option Files) (row : List ℕ) (gives : GivesRow old.reader before row new.reader now) (goes : HasGone 1 0 old.filter new.filter)
    (room : length new.row.items ≡ length old.row.items) (wanted : old.filter.taken < min old.filter.height (old.filter.pairs + old.filter.radius + 1))
    (takes : (page : Gray) → Follows page old.filter → IsRow page old.filter.taken row → Follows page new.filter) where
  taken_too : (rows : List (List ℕ)) → IsAtWork old rows → IsAtWork new (rows ++ gives.values ∷ [])
  taken_too rows work =
      let f = old.filter in
      let g = new.filter in
      let same = goes.setup in
      let one : g.taken ≡ f.taken + 1 = goes.taken in
      let pairs : g.pairs ≡ f.pairs = omega (arith, goes.pairs) in
      let more : length (rows ++ gives.values ∷ []) ≡ length rows + 1 = length-append rows (gives.values ∷ []) in
      let same_header : header_of new.reader ≡ header_of old.reader = header_stays old.reader new.reader before now _ (gives_one old.reader new.reader before now row gives) in
      record {
        fits = fits_stay old new gives.same_head same room work.fits;
        taken = omega (arith, one, work.taken, more);
        given = omega (arith, gives.one_given, work.given, more);
        going_on = gives.going_on;
        due = omega (arith, wanted, one, pairs, same.height, same.radius);
        enough = λ some. let e = work.enough (omega (arith, some, pairs)) in omega (arith, e, one, pairs, same.height, same.radius);
        follows = λ page has.
            let has_all : HasFirstRows (header_of old.reader) (rows ++ gives.values ∷ []) page = subst (λ (h : PageHeader). HasFirstRows h (rows ++ gives.values ∷ []) page) same_header has in
            let here : IsRow page (length rows) gives.values = subst (λ (l : List ℕ). IsRow page (length rows) l) (get_or_push rows gives.values [] (length rows) refl)
            (has_all.row (length rows) (omega (arith, more))) in
            let most : page.maxval ≤ 65535 = omega (arith, has_all.maxval, work.fits.maxval, work.fits.most_white) in
            let is_row : IsRow page f.taken row = subst (λ (k : ℕ). IsRow page k row) (sym work.taken)
            (subst (λ (l : List ℕ). IsRow page (length rows) l) (sym gives.row_is) (lowered_row page (length rows) gives.values most here)) in
            takes page (work.follows page (fewer_rows (header_of old.reader) rows (gives.values ∷ []) page has_all)) is_row;
      }

  pub along_taken : GoesAlong old before (gives.values ∷ []) new now
  along_taken = record {
    gives = gives_one old.reader new.reader before now row gives;
    setup = same_setup old.filter new.filter goes.setup;
    along = taken_too;
  }

-- The filter goes on, and no row is read.

-- the page in progress with this filter
abbrev pub with_filter : Work → Filtering → Work
with_filter work g = record { head = work.head; reader = work.reader; filter = g; row = work.row }

module _ (work : Work) (g : Filtering) (files : Option Files) (same : SameSetup work.filter g) (none : g.taken ≡ work.filter.taken)
    (follows : (page : Gray) → Follows page work.filter → Follows page g) where
  gone_on : ((rows : List (List ℕ)) → IsAtWork work rows → (g.taken ≤ min g.height (g.pairs + g.radius + 1)) × (1 ≤ g.pairs → min g.height (g.pairs + g.radius) ≤ g.taken))
      → GoesAlong work files [] (with_filter work g) files
  gone_on taken = record {
    gives = gives_none work.reader files;
    setup = same_setup work.filter g same;
    along = λ rows here.
        let (due, enough) = taken rows here in
        record {
          fits = fits_stay work (with_filter work g) refl same refl here.fits;
          taken = none ∙ here.taken ∙ ap length (sym (append-nil rows));
          given = here.given ∙ ap length (sym (append-nil rows));
          going_on = here.going_on;
          due = due;
          enough = enough;
          follows = λ page has. follows page (here.follows page (subst (λ (l : List (List ℕ)). HasFirstRows (header_of work.reader) l page) (append-nil rows) has));
        };
  }

  -- after a step of the filter
  pub along_step : work.filter.taken ≡ min work.filter.height (work.filter.pairs + work.filter.radius + 1) → g.pairs ≡ work.filter.pairs + 1
      → GoesAlong work files [] (with_filter work g) files
  along_step ready pairs = gone_on (λ rows here. (omega (arith, ready, none, pairs, same.height, same.radius), λ some. omega (arith, ready, none, pairs, same.height, same.radius)))

  -- after the filter made a row of the result
  pub along_row : g.pairs ≡ work.filter.pairs → GoesAlong work files [] (with_filter work g) files
  along_row pairs = gone_on (λ rows here. (
    omega (arith, here.due, none, pairs, same.height, same.radius),
    λ some. let e = here.enough (omega (arith, some, pairs)) in omega (arith, e, none, pairs, same.height, same.radius),
  ))

-- Which row can be written.

module _ (Y : ℕ) (work : Work) (source : Source) (can : CanPut Y work source) where
  tall : 1 ≤ work.reader.head.height
  tall = omega (arith, can.at_work.fits.some_rows, can.at_work.fits.height)

  need_here : need_of (setup_of work.filter) (header_of work.reader) Y ≡ min work.reader.head.height (after_of work.filter.times Y + work.filter.radius + 1)
  need_here = need-is work.reader.head.height work.filter.radius work.filter.times Y can.at_work.fits.some_times tall

  -- row Y needs the next row of the page
  pub one_needed : work.filter.pairs < after_of work.filter.times Y + 1 → work.filter.taken < min work.filter.height (work.filter.pairs + work.filter.radius + 1)
      → work.reader.given + 1 ≤ need_of (setup_of work.filter) (header_of work.reader) Y
  one_needed unready wanted =
      let here = can.at_work in
      omega (arith, need_here, unready, wanted, here.taken, here.given, here.fits.height)

  -- the page has a next row
  pub one_there : work.filter.taken < min work.filter.height (work.filter.pairs + work.filter.radius + 1) → work.reader.given < work.reader.head.height
  one_there wanted = let here = can.at_work in omega (arith, wanted, here.taken, here.given, here.fits.height)

  module _ (new : Work) (now : Source) (next : List (List ℕ)) (goes : GoesAlong work source.files next new now.files) where
    -- row Y can still be written
    pub can_still : MayRead new.reader now → new.filter.pairs ≤ after_of work.filter.times Y + 1 → new.reader.given ≤ need_of (setup_of work.filter) (header_of work.reader) Y
        → CanPut Y new now
    can_still reading behind ahead = record {
      reading = reading;
      rows = can.rows ++ next;
      at_work = goes.along can.rows can.at_work;
      row = rw (same_rows work new source.files now.files next goes) can.row;
      behind = rw (same_after work new source.files now.files next goes Y) behind;
      ahead = rw (same_need work new source.files now.files next goes Y) ahead;
    }

    -- if the filter has the reliefs between which row Y lies, exactly the rows that row Y needs were read
    pub gets_ready : CanPut Y new now → new.filter.pairs ≡ after_of new.filter.times Y + 1 → GetsReady Y work source.files new now.files
    gets_ready later ready =
        let here = later.at_work in
        let enough = here.enough (omega (arith, ready)) in
        let high : 1 ≤ new.reader.head.height = omega (arith, here.fits.some_rows, here.fits.height) in
        let needs = need-is new.reader.head.height new.filter.radius new.filter.times Y here.fits.some_times high in
        record {
          next = next;
          along = goes;
          pairs = ready ∙ ap (λ (n : ℕ). n + 1) (same_after work new source.files now.files next goes Y);
          read = (let e : new.reader.given ≡ need_of (setup_of new.filter) (header_of new.reader) Y = omega (arith, needs, enough, ready, later.ahead, here.taken, here.given, here.fits.height) in e)
              ∙ same_need work new source.files now.files next goes Y;
        }

-- the row as the filter makes it
pub row_same : (work : Work) (page : Gray) (Y : ℕ) → page.width ≡ work.filter.width
    → row_text (work.filter.times * work.filter.width) (padded (work.filter.times * work.filter.width) (λ X. is_black page work.filter.radius work.filter.times work.filter.level X Y))
    ≡ result_row (setup_of work.filter) page Y
row_same work page Y width =
    let f = work.filter in
    let wide : f.width ≡ page.width = sym width in
    λ i. row_text (f.times * wide i) (padded (f.times * wide i) (λ X. is_black page f.radius f.times f.level X Y))

-- the filter makes row Y of each page that begins with the rows read until now
pub row_is : (old new : Work) (before now : Option Files) (Y : ℕ) (rows next : List (List ℕ)) (page : Gray) (row : List ℕ) → GoesAlong old before next new now → IsAtWork old rows
    → HasFirstRows (header_of old.reader) (rows ++ next) page
    → ((page : Gray) → Follows page new.filter
    → row ≡ row_text (new.filter.times * new.filter.width) (padded (new.filter.times * new.filter.width) (λ X. is_black page new.filter.radius new.filter.times new.filter.level X Y)))
    → row ≡ result_row (setup_of old.filter) page Y
row_is old new before now Y rows next page row goes work has makes =
    let here : HasFirstRows (header_of new.reader) (rows ++ next) page = subst (λ (h : PageHeader). HasFirstRows h (rows ++ next) page) (sym (same_header old new before now next goes)) has in
    let follows = (goes.along rows work).follows page here in
    makes page follows ∙ row_same new page Y follows.holds.width ∙ ap (λ (s : Setup). result_row s page Y) goes.setup

-- the reader and the filter are before the first row
pub work_start : (setup : Setup) (work : Work) → work.filter.width ≡ work.reader.head.width → work.filter.height ≡ work.reader.head.height → work.filter.maxval ≡ work.reader.head.maxval
    → setup_of work.filter ≡ setup → work.filter.taken ≡ 0 → work.filter.pairs ≡ 0 → work.reader.given ≡ 0 → work.reader.failed ≡ false → CanFilter setup → IsGrayHead work.reader.head
    → length work.row.items ≡ work.reader.head.width
    → ((page : Gray) → page.width ≡ work.filter.width → page.height ≡ work.filter.height → page.maxval ≡ work.filter.maxval → ((x y : ℕ) → page.sample x y ≤ work.filter.maxval) → Follows page work.filter)
    → IsAtWork work []
work_start setup work width height maxval same taken pairs given going can head room follows = record {
  fits = record {
    width = width;
    height = height;
    maxval = maxval;
    some_rows = rw height head.some_rows;
    most_white = rw maxval head.most_white;
    some_times = (let times : work.filter.times ≡ setup.times = ap (λ (s : Setup). s.times) same in rw times can.some_times);
    room = room;
  };
  taken = taken;
  given = given;
  going_on = going;
  due = omega (arith, taken);
  enough = λ some. absurd (omega (arith, some, pairs));
  follows = λ page has.
      follows page (has.width ∙ sym width) (has.height ∙ sym height) (has.maxval ∙ sym maxval) (λ x y. let most = has.bright x y in omega (arith, most, has.maxval, maxval));
}

-- The rows that a reader returned, one after the other.
use Rattle.std.proofs.Common.{◌≡◌, ℕ, zero, suc, ◌≤◌, true, List, [], ◌∷◌, ◌++◌, map, refl, ap, sym, ◌∙◌, subst, arith, Option, append_assoc, append-nil, length-append, min, get_or}
use Rattle.std.proofs.lemmas.List.{get_or_append_left}
use Rattle.pt_core.specs.Files.{Files}
use Rattle.bitmap_input.specs.GrayReader.{FailsToRead, GivesRow, GraySource, IfKind, Refuses}
use Rattle.bitmap_input.specs.Reading.{cause_of_fault}
use Rattle.bitmap_input.specs.declared.fault.InFault.{InFault}
use Rattle.bitmap_input.specs.declared.fault.InFault.TheVariants as fault
use Rattle.bitmap_input.specs.GrayRows.{lowered}
use Rattle.bitmap_input.proofs.GrayHeaders.{gray_row_stays}
use Rattle.bitmap_input.proofs.ComposedSteps.{move_on, stand}
use Rattle.mkbitmap.specs.Box.{Gray}
use Rattle.mkbitmap.specs.Follows.{IsRow}
use Rattle.mkbitmap_run.specs.PageHeader.{PageHeader}
use Rattle.mkbitmap_run.specs.Rows.{LeavesRows, cut_row}
use Rattle.mkbitmap_run.specs.Inner.FilterWork.{GivesRows, StopsRow, header_of}
use Rattle.mkbitmap_run.specs.FilterRun.{HasFirstRows}
use Rattle.mkbitmap_run.proofs.RowPrefixes.{cut_stays, leaves_on, leaves_weaken}

-- no row was read
pub gives_none : (reader : GraySource) (files : Option Files) → GivesRows reader files [] reader files
gives_none reader files = record {
  more = [];
  moves = stand reader.ended files;
  leaves = λ tail none. ap (λ (l : List ℕ). l ++ tail) (append-nil reader.bytes);
  same_head = refl;
  same_kind = refl;
  given = omega arith;
}

-- one row was read
pub gives_one : (old new : GraySource) (before now : Option Files) (row : List ℕ) → (gives : GivesRow old before row new now) → GivesRows old before (gives.values ∷ []) new now
gives_one old new before now row gives = record {
  more = gives.cut.more;
  moves = gives.cut.moves;
  leaves = λ tail none. (
    gives.by_end,
    new.bytes ++ tail,
    cut_stays (cut_row (header_of old)) (gray_row_stays old.plain old.head.maxval old.head.width) (old.bytes ++ gives.cut.more) tail _ new.ended gives.cut.is gives.cut.settled none,
    gives.cut.settled,
    refl,
  );
  same_head = gives.same_head;
  same_kind = gives.same_kind;
  given = gives.one_given;
}

same_header : (a b : GraySource) → b.head ≡ a.head → b.plain ≡ a.plain → header_of b ≡ header_of a
same_header a b head plain = λ i. record { plain = plain i; width = (head i).width; height = (head i).height; maxval = (head i).maxval }

pub header_stays : (old new : GraySource) (before now : Option Files) (rows : List (List ℕ)) → GivesRows old before rows new now → header_of new ≡ header_of old
header_stays old new before now rows gives = same_header old new gives.same_head gives.same_kind

-- some rows were read, and then others
pub gives_on : (old mid new : GraySource) (before at now : Option Files) (xs ys : List (List ℕ)) → GivesRows old before xs mid at → GivesRows mid at ys new now
    → GivesRows old before (xs ++ ys) new now
gives_on old mid new before at now xs ys a b = record {
  more = a.more ++ b.more;
  moves = move_on a.moves b.moves;
  leaves = λ tail none.
      let part = cut_row (header_of old) in
      let empty : mid.ended ≡ true → b.more ++ tail ≡ [] = λ ended.
      let (no_more, now_ended) = b.moves.stopped ended in ap (λ (l : List ℕ). l ++ tail) no_more ∙ none now_ended in
      let first = leaves_weaken mid.ended new.ended part _ xs _ (λ ended. (b.moves.stopped ended).1) (a.leaves (b.more ++ tail) empty) in
      let second = subst (λ (h : PageHeader). LeavesRows new.ended (cut_row h) ((mid.bytes ++ b.more) ++ tail) ys (new.bytes ++ tail)) (header_stays old mid before at xs a) (b.leaves tail none) in
      let all : ((old.bytes ++ (a.more ++ b.more)) ++ tail) ≡ (old.bytes ++ a.more) ++ (b.more ++ tail) =
      ap (λ (l : List ℕ). l ++ tail) (sym (append_assoc old.bytes a.more b.more)) ∙ append_assoc (old.bytes ++ a.more) b.more tail in
      subst (λ (l : List ℕ). LeavesRows new.ended part l (xs ++ ys) (new.bytes ++ tail)) (sym all)
      (leaves_on new.ended part _ (mid.bytes ++ (b.more ++ tail)) (new.bytes ++ tail) xs ys first
      (subst (λ (l : List ℕ). LeavesRows new.ended part l ys (new.bytes ++ tail)) (append_assoc mid.bytes b.more tail) second));
  same_head = b.same_head ∙ a.same_head;
  same_kind = b.same_kind ∙ a.same_kind;
  given = omega (arith, a.given, b.given, length-append xs ys);
}

-- A page that begins with more rows begins with fewer.

pub fewer_rows : (header : PageHeader) (xs ys : List (List ℕ)) (page : Gray) → HasFirstRows header (xs ++ ys) page → HasFirstRows header xs page
fewer_rows header xs ys page has = record {
  width = has.width;
  height = has.height;
  maxval = has.maxval;
  bright = has.bright;
  row = λ y within. subst (λ (r : List ℕ). IsRow page y r) (get_or_append_left xs ys [] y within) (has.row y (omega (arith, within, length-append xs ys)));
}

get_or-lowered : (row : List ℕ) (x : ℕ) → get_or (map lowered row) x 0 ≡ lowered (get_or row x 0)
get_or-lowered [] x = refl
get_or-lowered (v ∷ row) zero = refl
get_or-lowered (v ∷ row) (suc x) = get_or-lowered row x

-- the samples of a row as the reader returns them
pub lowered_row : (page : Gray) (y : ℕ) (row : List ℕ) → page.maxval ≤ 65535 → IsRow page y row → IsRow page y (map lowered row)
lowered_row page y row most is = record {
  sample = λ x within. is.sample x within
      ∙ (let same : min (get_or row x 0) page.maxval ≡ min (min (get_or row x 0) 65535) page.maxval = omega (arith, most) in same)
      ∙ ap (λ (v : ℕ). min v page.maxval) (sym (get_or-lowered row x));
}

-- Why the next row couldn't be read.
pub stops_row : (why : InFault) (old : GraySource) (before : Option Files) (new : GraySource) (now : Option Files)
    → IfKind (cause_of_fault why) (λ kind. Refuses (cut_row (header_of old)) kind old before new now) → (why ≡ fault.ReadFault → FailsToRead (cut_row (header_of old)) old before new now)
    → (why ≡ fault.NoMemory → ⊥) → StopsRow (cause_of_fault why) old before new now
stops_row fault.UnknownFormat old before new now refuses fails free = refuses
stops_row fault.BadHeader old before new now refuses fails free = refuses
stops_row fault.ZeroSide old before new now refuses fails free = refuses
stops_row fault.TooLarge old before new now refuses fails free = refuses
stops_row fault.Truncated old before new now refuses fails free = refuses
stops_row fault.BadRaster old before new now refuses fails free = refuses
stops_row fault.BmpKind old before new now refuses fails free = refuses
stops_row fault.BadOffset old before new now refuses fails free = refuses
stops_row fault.TooLong old before new now refuses fails free = refuses
stops_row fault.ReadFault old before new now refuses fails free = fails refl
stops_row fault.NoMemory old before new now refuses fails free = absurd (free refl)

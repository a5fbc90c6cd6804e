-- Reading a run byte by byte gives the run: how it begins, goes on and ends.
use Rattle.std.proofs.Common.{◌≡◌, refl, ℕ, suc, ◌+◌, ◌≤◌, ◌<◌, true, false, List, [], ◌∷◌, ◌++◌, length, drop, arith, ap, sym, ◌∙◌, Option, Ok, Err, append_assoc, append-nil}
use Rattle.std.specs.Prelude.{nat_lt}
use Rattle.std.proofs.lemmas.List.{length-append}
use Rattle.std.proofs.lemmas.Bool.{lt-ltb, le-ltb}
use Rattle.std.proofs.Math.Seq.{take-append_seam, drop-append_seam}
use Rattle.pt_core.specs.Files.{Files}
use Rattle.bitmap_input.specs.declared.fault.InFault.TheVariants as fault
use Rattle.bitmap_input.specs.declared.stop.Stop.TheVariants as stop
use Rattle.bitmap_input.specs.Cut.{is_by_end}
use Rattle.bitmap_input.specs.Cut.Cut.{Takes}
use Rattle.bitmap_input.specs.PageParts.{longest, is_empty, run_of}
use Rattle.bitmap_input.specs.Reading.{Buffered, Moves, AreNeeded}
use Rattle.bitmap_input.specs.Inner.Reading.{Reads}
use Rattle.bitmap_input.specs.Inner.Buffer.{ReadsOn}
use Rattle.bitmap_input.specs.Inner.ByteRuns.{run_size}
use Rattle.bitmap_input.specs.declared.run.Run.{Run}
use Rattle.bitmap_input.specs.declared.run.Run.TheVariants.{Space, Gap, Comment}
use Rattle.bitmap_input.proofs.NeededBytes.{needs_none, needs_look}
use Rattle.bitmap_input.proofs.ComposedSteps.{not_true, stand, move_on}

-- n bytes of a run have been used, and the rest of the run has the length that `len_now` gives
pub record RunSoFar (len len_now : List ℕ → ℕ) (old : Buffered) (before : Option Files) (n : ℕ) (new : Buffered) (now : Option Files) : Type 0 where
  pub more : List ℕ
  pub used : List ℕ
  pub moves : Moves old.ended before new.ended now more
  pub needed : AreNeeded (λ bytes. run_of (len (old.bytes ++ bytes)) (old.bytes ++ bytes)) more
  pub split : old.bytes ++ more ≡ used ++ new.bytes
  pub count : length used ≡ n
  pub goes_on : (tail : List ℕ) → len (used ++ tail) ≡ n + len_now tail

-- the value of the step is x, and the value of the part is a
abbrev pub Exactly : {A X : Type 0} → X → A → X → A → Type 0
Exactly x a y b = (y ≡ x) × (b ≡ a)

-- an empty list has no run
pub length_of-nil : (run : Run) → run_size run [] ≡ 0
length_of-nil Space = refl
length_of-nil Gap = refl
length_of-nil Comment = refl

-- no byte has been used
abbrev pub run_begins : (len : List ℕ → ℕ) (old : Buffered) (files : Option Files) → RunSoFar len len old files 0 old files
run_begins len old files = record {
  more = [];
  used = [];
  moves = stand old.ended files;
  needed = needs_none (λ bytes. run_of (len (old.bytes ++ bytes)) (old.bytes ++ bytes));
  split = append-nil old.bytes;
  count = refl;
  goes_on = λ tail. let e : len tail ≡ 0 + len tail = omega arith in e;
}

-- a run of the first n bytes
cut_at : (n : ℕ) (used rest : List ℕ) → length used ≡ n → n ≤ longest →
    run_of n (used ++ rest) ≡ Takes (is_empty rest) used rest
cut_at n used rest count within =
    let test : nat_lt longest n ≡ false = le-ltb longest n within in
    rw (test, ← count, take-append_seam, drop-append_seam) refl

-- the bytes held and read are those that were used, followed by those that are left
pub two_splits : (old more used mid more2 new : List ℕ) → old ++ more ≡ used ++ mid → new ≡ mid ++ more2 →
    old ++ (more ++ more2) ≡ used ++ new
two_splits old more used mid more2 new a b =
    sym (append_assoc old more more2) ∙ ap (λ xs. xs ++ more2) a ∙ append_assoc used mid more2 ∙ ap (λ xs. used ++ xs) (sym b)

module _ {len len_now : List ℕ → ℕ} {old mid : Buffered} {before f : Option Files} {n : ℕ} (s : RunSoFar len len_now old before n mid f) (ends : len_now [] ≡ 0) (within : n ≤ longest) where
  -- if no byte is left, more bytes could lengthen the run
  pub run_is_open : mid.bytes ≡ [] → is_by_end (run_of (len (old.bytes ++ s.more)) (old.bytes ++ s.more)) ≡ true
  run_is_open none =
      let count : len (s.used ++ []) ≡ n = s.goes_on [] ∙ omega (arith, ends) in
      rw (s.split, none, count) (ap is_by_end (cut_at n s.used [] s.count within))

  -- the next look reads only if it has to
  pub run_needs : {look : Buffered} {now : Option Files} → (on : ReadsOn mid f look now) →
      AreNeeded (λ bytes. run_of (len (old.bytes ++ bytes)) (old.bytes ++ bytes)) (s.more ++ on.more)
  run_needs on = needs_look (λ bytes. run_of (len (old.bytes ++ bytes)) (old.bytes ++ bytes)) s.more s.needed on run_is_open

module _ (len len_now : List ℕ → ℕ) (old mid new : Buffered) (before f now : Option Files) (n : ℕ) (s : RunSoFar len len_now old before n mid f) where
  -- the run ends before the bytes held, or with them after a read has returned nothing
  run_ends : {X : Type 0} (x : X) → ReadsOn mid f new now → len_now [] ≡ 0 → len_now new.bytes ≡ 0 →
      (is_empty new.bytes ≡ true → new.ended ≡ true) → n ≤ longest →
      Reads (Exactly x s.used) (λ bytes. run_of (len bytes) bytes) old before (Ok x) new now
  run_ends x reads nothing ends settled within =
      let all = two_splits old.bytes s.more s.used mid.bytes reads.more new.bytes s.split reads.bytes in
      let count : len (s.used ++ new.bytes) ≡ n = s.goes_on new.bytes ∙ omega (arith, ends) in
      record {
        more = s.more ++ reads.more;
        moves = move_on s.moves reads.moves;
        needed = run_needs s nothing within reads;
        gives = (is_empty new.bytes, s.used, (refl, refl), rw (all, count) (cut_at n s.used new.bytes s.count within), settled);
      }

  -- the run ends before a byte
  pub run_ends_at : {X : Type 0} (x : X) (b : ℕ) (bs : List ℕ) → ReadsOn mid f new now → new.bytes ≡ b ∷ bs →
      len_now [] ≡ 0 → ((xs : List ℕ) → len_now (b ∷ xs) ≡ 0) → n ≤ longest →
      Reads (Exactly x s.used) (λ bytes. run_of (len bytes) bytes) old before (Ok x) new now
  run_ends_at x b bs reads here nothing ends within =
      run_ends x reads nothing (ap len_now here ∙ ends bs) (λ h. absurd (not_true (sym (ap is_empty here) ∙ h))) within

  -- the run ends because there are no more bytes
  pub run_ends_last : {X : Type 0} (x : X) → ReadsOn mid f new now → new.bytes ≡ [] → new.ended ≡ true → len_now [] ≡ 0 →
      n ≤ longest → Reads (Exactly x s.used) (λ bytes. run_of (len bytes) bytes) old before (Ok x) new now
  run_ends_last x reads none ended ends within = run_ends x reads ends (ap len_now none ∙ ends) (λ _. ended) within

  -- a read failed when no byte was left
  pub run_fails : {X : Type 0} (is : X → List ℕ → Type 0) → new ≡ mid → now ≡ f → mid.bytes ≡ [] → mid.ended ≡ false → len_now [] ≡ 0 → n ≤ longest →
      Reads {X = X} is (λ bytes. run_of (len bytes) bytes) old before (Err (stop.Fault fault.ReadFault)) new now
  run_fails is same same_files none going_on ends within =
      rw (same, same_files)
      record { more = s.more; moves = s.moves; needed = s.needed; gives = (run_is_open s ends within none, going_on) }

  -- more bytes were used than a run may have
  pub run_is_long : {X : Type 0} (is : X → List ℕ → Type 0) → longest < n →
      Reads {X = X} is (λ bytes. run_of (len bytes) bytes) old before (Err (stop.Fault fault.TooLong)) mid f
  run_is_long is over =
      let more : longest < len (s.used ++ mid.bytes) = rw (s.goes_on mid.bytes) (omega arith) in
      let test : nat_lt longest (len (s.used ++ mid.bytes)) ≡ true = lt-ltb longest (len (s.used ++ mid.bytes)) more in
      record { more = s.more; moves = s.moves; needed = s.needed; gives = (false, rw (s.split, test) refl, λ h. absurd (not_true h)) }

-- one more byte was used
abbrev pub run_goes_on : (len len_now len_next : List ℕ → ℕ) (old mid look new : Buffered) (before f now : Option Files) (n m b : ℕ) (bs : List ℕ) →
    RunSoFar len len_now old before n mid f → len_now [] ≡ 0 → n ≤ longest → ReadsOn mid f look now → look.bytes ≡ b ∷ bs →
    ((xs : List ℕ) → len_now (b ∷ xs) ≡ suc (len_next xs)) → new.bytes ≡ drop 1 look.bytes → new.ended ≡ look.ended → m ≡ n + 1 →
    RunSoFar len len_next old before m new now
run_goes_on len len_now len_next old mid look new before f now n m b bs s nothing within reads here step bytes ended one =
    let left : new.bytes ≡ bs = bytes ∙ ap (drop 1) here in
    record {
      more = s.more ++ reads.more;
      used = s.used ++ b ∷ [];
      moves = rw ended (move_on s.moves reads.moves);
      needed = run_needs s nothing within reads;
      split = two_splits old.bytes s.more s.used mid.bytes reads.more look.bytes s.split reads.bytes
          ∙ ap (λ xs. s.used ++ xs) (here ∙ ap (λ xs. b ∷ xs) (sym left)) ∙ sym (append_assoc s.used (b ∷ []) new.bytes);
      count = rw (length-append, one, s.count) refl;
      goes_on = λ tail. rw (append_assoc, s.goes_on (b ∷ tail), step tail, one) (omega arith);
    }

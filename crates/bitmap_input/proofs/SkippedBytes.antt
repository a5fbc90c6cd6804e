-- Skipping bytes, one buffer after another, skips the right number.
use Rattle.std.proofs.Common.{subst, ◌≡◌, refl, ℕ, ◌+◌, ◌-◌, ◌≤◌, ◌<◌, Bool, true, false, List, [], ◌++◌, length, take, drop, arith, ap, sym, ◌∙◌, Option, Ok, Err, append_assoc, append-nil}
use Rattle.std.specs.Prelude.{nat_lt}
use Rattle.std.proofs.lemmas.List.{length-append, length-take-le, take-append-drop, drop-append-le, drop_all}
use Rattle.std.proofs.lemmas.Bool.{lt-ltb, le-ltb, ltb-false}
use Rattle.std.proofs.Math.Seq.{drop-append_seam}
use Rattle.pt_core.specs.Files.{Files}
use Rattle.bitmap_input.specs.declared.fault.InFault.TheVariants as fault
use Rattle.bitmap_input.specs.declared.stop.Stop.{Stop}
use Rattle.bitmap_input.specs.declared.stop.Stop.TheVariants as stop
use Rattle.bitmap_input.specs.Cut.Cut.{Takes}
use Rattle.bitmap_input.specs.PageParts.{block}
use Rattle.bitmap_input.specs.Reading.{Buffered, Moves, AreNeeded, Cause}
use Rattle.bitmap_input.specs.Inner.Reading.{Same, Any, Reads, cause_of, StopsBy}
use Rattle.bitmap_input.specs.Reading.Cause.{Says, Device, Memory}
use Rattle.bitmap_input.specs.Inner.Buffer.{ReadsOn}
use Rattle.bitmap_input.specs.Inner.Skip.{passed_over}
use Rattle.bitmap_input.specs.Cut.{is_by_end}
use Rattle.bitmap_input.proofs.AddedBytes.{Stays}
use Rattle.bitmap_input.proofs.NeededBytes.{needs_none, needs_as, needs_look}
use Rattle.bitmap_input.proofs.ComposedSteps.{not_true, stand, move_on}
use Rattle.bitmap_input.proofs.ByteRuns.{two_splits}

-- `left` of n bytes are still to be skipped
pub record IsPassedSoFar (old : Buffered) (before : Option Files) (n left : ℕ) (held : Buffered) (files : Option Files) : Type 0 where
  pub more : List ℕ
  pub used : List ℕ
  pub moves : Moves old.ended before held.ended files more
  pub needed : AreNeeded (λ bytes. passed_over n (old.bytes ++ bytes)) more
  pub split : old.bytes ++ more ≡ used ++ held.bytes
  pub count : length used + left ≡ n

pub skip_begins : (old : Buffered) (files : Option Files) (n : ℕ) → IsPassedSoFar old files n n old files
skip_begins old files n = record {
  more = [];
  used = [];
  moves = stand old.ended files;
  needed = needs_none (λ bytes. passed_over n (old.bytes ++ bytes));
  split = append-nil old.bytes;
  count = omega arith;
}

module _ {old held : Buffered} {before files : Option Files} {n left : ℕ} (s : IsPassedSoFar old before n left held files) (some : 0 < left) where
  -- if no byte is left, there are fewer than n
  pub skip_is_open : held.bytes ≡ [] → is_by_end (passed_over n (old.bytes ++ s.more)) ≡ true
  skip_is_open none =
      let whole : old.bytes ++ s.more ≡ s.used = s.split ∙ ap (λ xs. s.used ++ xs) none ∙ append-nil s.used in
      let less : length s.used < n = omega (arith, s.count) in
      let test : nat_lt (length s.used) n ≡ true = lt-ltb (length s.used) n less in
      rw (whole, test) refl

  -- the next look reads only if it has to
  pub skip_needs : {look : Buffered} {now : Option Files} → (on : ReadsOn held files look now) →
      AreNeeded (λ bytes. passed_over n (old.bytes ++ bytes)) (s.more ++ on.more)
  skip_needs on = needs_look (λ bytes. passed_over n (old.bytes ++ bytes)) s.more s.needed on skip_is_open

-- k more bytes were skipped
pub skip_goes_on : {old held look new : Buffered} {before files now : Option Files} {n : ℕ} (left k less : ℕ) → IsPassedSoFar old before n left held files → 0 < left →
    ReadsOn held files look now → k ≤ left → k ≤ length look.bytes → new.bytes ≡ drop k look.bytes → new.ended ≡ look.ended → less ≡ left - k →
    IsPassedSoFar old before n less new now
skip_goes_on {old} {held} {look} {new} {n = n} left k less s some on within fits bytes ended is = record {
  more = s.more ++ on.more;
  used = s.used ++ take k look.bytes;
  moves = rw ended (move_on s.moves on.moves);
  needed = skip_needs s some on;
  split = two_splits old.bytes s.more s.used held.bytes on.more look.bytes s.split on.bytes ∙
      ap (λ xs. s.used ++ xs) (sym (take-append-drop k look.bytes) ∙ ap (λ xs. take k look.bytes ++ xs) (sym bytes)) ∙
      sym (append_assoc s.used (take k look.bytes) new.bytes);
  count = omega (arith, s.count, length-append s.used (take k look.bytes), length-take-le k look.bytes fits);
}

-- all bytes were skipped
pub skip_ends : {old held : Buffered} {before files : Option Files} {n left : ℕ} → IsPassedSoFar old before n left held files → left ≡ 0 →
    Reads Same (passed_over n) old before (Ok 0) held files
skip_ends {old} {held} {n = n} {left = left} s none =
    let all : length s.used ≡ n = omega (arith, s.count) in
    let whole : length (old.bytes ++ s.more) ≡ n + length held.bytes = ap length s.split ∙ length-append s.used held.bytes ∙ ap (λ m. m + length held.bytes) all in
    let within : n ≤ length (old.bytes ++ s.more) = omega (arith, whole) in
    let test : nat_lt (length (old.bytes ++ s.more)) n ≡ false = le-ltb (length (old.bytes ++ s.more)) n within in
    let missing : n - length (old.bytes ++ s.more) ≡ 0 = omega (arith, whole) in
    let rest : drop n (old.bytes ++ s.more) ≡ held.bytes
    = ap (drop n) s.split ∙ subst (λ m. drop m (s.used ++ held.bytes) ≡ held.bytes) all (drop-append_seam s.used held.bytes) in
    record {
      more = s.more;
      moves = s.moves;
      needed = s.needed;
      gives = (false, 0, refl, rw (test, missing, rest) refl, λ h. absurd (not_true h));
    }

-- a read returned nothing before all bytes were skipped
pub skip_is_short : {old held new : Buffered} {before files now : Option Files} {n : ℕ} (left : ℕ) → IsPassedSoFar old before n left held files → 0 < left →
    ReadsOn held files new now → new.bytes ≡ [] → new.ended ≡ true → Reads Same (passed_over n) old before (Ok left) new now
skip_is_short {old} {held} {new} {n = n} left s some on none ended =
    let all = two_splits old.bytes s.more s.used held.bytes on.more new.bytes s.split on.bytes in
    let whole : old.bytes ++ (s.more ++ on.more) ≡ s.used = all ∙ ap (λ xs. s.used ++ xs) none ∙ append-nil s.used in
    let less : length s.used < n = omega (arith, s.count) in
    let test : nat_lt (length s.used) n ≡ true = lt-ltb (length s.used) n less in
    let missing : n - length s.used ≡ left = omega (arith, s.count) in
    let rest : drop n s.used ≡ [] = drop_all n s.used (omega arith) in
    record {
      more = s.more ++ on.more;
      moves = move_on s.moves on.moves;
      needed = skip_needs s some on;
      gives = (true, left, refl, rw (whole, test, missing, rest, none) refl, λ _. ended);
    }

-- a read failed before all bytes were skipped
pub skip_fails : {old held new : Buffered} {before files now : Option Files} {n : ℕ} (left : ℕ) → IsPassedSoFar old before n left held files → 0 < left →
    new ≡ held → now ≡ files → held.bytes ≡ [] → held.ended ≡ false → Reads {X = ℕ} Same (passed_over n) old before (Err (stop.Fault fault.ReadFault)) new now
skip_fails left s some same same_files none going_on =
    rw (same, same_files) record { more = s.more; moves = s.moves; needed = s.needed; gives = (skip_is_open s some none, going_on) }

-- The skipped bytes, as a part.

over_at : (t : Bool) (n : ℕ) (bytes more : List ℕ) → nat_lt (length bytes) n ≡ t → t ≡ false →
    passed_over n (bytes ++ more) ≡ Takes false 0 (drop n bytes ++ more)
over_at true n bytes more test open_end = absurd (not_true (sym open_end))
over_at false n bytes more test open_end =
    let within : n ≤ length bytes = ltb-false (length bytes) n test in
    let in_more : n ≤ length (bytes ++ more) = omega (arith, length-append bytes more) in
    let test2 : nat_lt (length (bytes ++ more)) n ≡ false = le-ltb (length (bytes ++ more)) n in_more in
    let none : n - length (bytes ++ more) ≡ 0 = omega arith in
    rw (test2, none, drop-append-le n bytes more within) refl

pub passed_over_stays : (n : ℕ) → Stays (passed_over n)
passed_over_stays n bytes more not_end =
    let within : n ≤ length bytes = ltb-false (length bytes) n not_end in
    let none : n - length bytes ≡ 0 = omega arith in
    over_at (nat_lt (length bytes) n) n bytes more refl not_end ∙ rw (not_end, none) refl

needed_block : (start : List ℕ) {more : List ℕ} (n : ℕ) → AreNeeded (λ bytes. passed_over n (start ++ bytes)) more → AreNeeded (λ bytes. block n (start ++ bytes)) more
needed_block start n needed = needs_as (λ bytes. block n (start ++ bytes)) (λ bytes still. rw still refl) needed

-- no byte was missing: a block was skipped
pub block_passed : {old new : Buffered} {files now : Option Files} {left : ℕ} (n : ℕ) → left ≡ 0 → Reads Same (passed_over n) old files (Ok left) new now →
    Reads Any (block n) old files (Ok (tt {0})) new now
block_passed {old} {new} n none r =
    let (e, a, same, takes, settled) = r.gives in
    let bytes : List ℕ = old.bytes ++ r.more in
    let missing : n - length bytes ≡ a = cc in
    let within : n ≤ length bytes = omega (arith, missing, same) in
    let test : nat_lt (length bytes) n ≡ false = le-ltb (length bytes) n within in
    let rest : drop n bytes ≡ new.bytes = cc in
    record { more = r.more; moves = r.moves; needed = needed_block old.bytes n r.needed; gives = (false, take n bytes, tt, rw (test, rest) refl, λ h. absurd (not_true h)) }

-- some bytes were missing
pub block_missing : {old new : Buffered} {files now : Option Files} {left : ℕ} (n : ℕ) → 0 < left → Reads Same (passed_over n) old files (Ok left) new now →
    Reads {X = Unit {0}} Any (block n) old files (Err (stop.Fault fault.Truncated)) new now
block_missing {old} {new} n some r =
    let (e, a, same, takes, settled) = r.gives in
    let bytes : List ℕ = old.bytes ++ r.more in
    let missing : n - length bytes ≡ a = cc in
    let less : length bytes < n = omega (arith, missing, same) in
    let test : nat_lt (length bytes) n ≡ true = lt-ltb (length bytes) n less in
    let by_end : e ≡ true = (let at : nat_lt (length bytes) n ≡ e = cc in sym at ∙ test) in
    record { more = r.more; moves = r.moves; needed = needed_block old.bytes n r.needed; gives = (true, rw test refl, λ _. settled by_end) }

fails_by : (n : ℕ) (bytes : List ℕ) (why : Cause) (held : Buffered) → StopsBy (passed_over n bytes) why held → StopsBy (block n bytes) why held
fails_by n bytes (Says ending) held (e, is, settled) = cc
fails_by n bytes Device held (by_end, going_on) = (rw by_end refl, going_on)
fails_by n bytes Memory held stops = tt

-- a read failed
pub block_failed : {old new : Buffered} {files now : Option Files} (n : ℕ) (s : Stop) → Reads {X = ℕ} Same (passed_over n) old files (Err s) new now →
    Reads {X = Unit {0}} Any (block n) old files (Err s) new now
block_failed {old} {new} n s r =
    record { more = r.more; moves = r.moves; needed = needed_block old.bytes n r.needed; gives = fails_by n (old.bytes ++ r.more) (cause_of s) new r.gives }

-- Reading a block piece by piece gives the block.
use Rattle.std.proofs.Common.{subst, ◌≡◌, refl, ℕ, ◌+◌, ◌-◌, ◌≤◌, ◌<◌, true, false, List, [], ◌++◌, length, take, drop, arith, ap, sym, ◌∙◌, Option, Result, Ok, Err, append_assoc, append-nil}
use Rattle.std.specs.Prelude.{nat_lt}
use Rattle.std.proofs.lemmas.List.{length-append, length-take, length-take-le, take-append-drop, take-take, take_all}
use Rattle.std.proofs.lemmas.Bool.{lt-ltb, le-ltb}
use Rattle.std.proofs.Math.Seq.{take-append-add, take-append_seam, drop-append_seam}
use Rattle.std.proofs.lemmas.Slice.{take-put_mid}
use borrow.Rule.Slice.PartMut.{put_mid}
use Rattle.pt_core.specs.Files.{Files}
use Rattle.bitmap_input.specs.declared.fault.InFault.TheVariants as fault
use Rattle.bitmap_input.specs.declared.stop.Stop.{Stop}
use Rattle.bitmap_input.specs.declared.stop.Stop.TheVariants as stop
use Rattle.bitmap_input.specs.Cut.{is_by_end}
use Rattle.bitmap_input.specs.Cut.Kind.{Truncated}
use Rattle.bitmap_input.specs.Cut.FileEnd.{Refused}
use Rattle.bitmap_input.specs.Cut.Cut.{Takes, Stops}
use Rattle.bitmap_input.specs.PageParts.{block}
use Rattle.bitmap_input.specs.Reading.{Buffered, Moves, AreNeeded}
use Rattle.bitmap_input.specs.Inner.Reading.{Reads}
use Rattle.bitmap_input.specs.Inner.Buffer.{ReadsOn}
use Rattle.bitmap_input.proofs.NeededBytes.{needs_none, needs_look}
use Rattle.bitmap_input.proofs.ComposedSteps.{not_true, stand, move_on}
use Rattle.bitmap_input.proofs.ByteRuns.{two_splits}

-- the first `done` bytes of a block of n bytes have been read
pub record IsBlockSoFar (n : ℕ) (old : Buffered) (before : Option Files) (done : ℕ) (row : List ℕ) (held : Buffered) (files : Option Files) : Type 0 where
  pub more : List ℕ
  pub moves : Moves old.ended before held.ended files more
  pub needed : AreNeeded (λ bytes. block n (old.bytes ++ bytes)) more
  pub split : old.bytes ++ more ≡ take done row ++ held.bytes

-- there are fewer bytes than the block has
no_block : (n : ℕ) (bytes : List ℕ) → length bytes < n → block n bytes ≡ Stops true (Refused Truncated)
no_block n bytes less = let test : nat_lt (length bytes) n ≡ true = lt-ltb (length bytes) n less in rw test refl

-- the block is there
the_block : (row rest : List ℕ) (n : ℕ) → length row ≡ n → block n (row ++ rest) ≡ Takes false row rest
the_block row rest n len =
    let within : n ≤ length (row ++ rest) = omega (arith, length-append row rest) in
    let test : nat_lt (length (row ++ rest)) n ≡ false = le-ltb (length (row ++ rest)) n within in
    rw (test, ← len, take-append_seam, drop-append_seam) refl

-- a block of an equal length
pub block_as : {X : Type 0} {is : X → List ℕ → Type 0} {old new : Buffered} {files now : Option Files} {result : Result X Stop} {m n : ℕ} →
    Reads is (block m) old files result new now → m ≡ n → Reads is (block n) old files result new now
block_as {is = is} {old = old} {new = new} {files = files} {now = now} {result = result} r same = subst (λ k. Reads is (block k) old files result new now) same r

pub block_begins : (n : ℕ) (old : Buffered) (files : Option Files) (row : List ℕ) → IsBlockSoFar n old files 0 row old files
block_begins n old files row = record {
  more = [];
  moves = stand old.ended files;
  needed = needs_none (λ bytes. block n (old.bytes ++ bytes));
  split = append-nil old.bytes;
}

module _ {old held : Buffered} {before files : Option Files} {n done : ℕ} {row : List ℕ} (s : IsBlockSoFar n old before done row held files) (less : done < n) where
  -- if no byte is left, more bytes could complete the block
  pub block_is_open : held.bytes ≡ [] → is_by_end (block n (old.bytes ++ s.more)) ≡ true
  block_is_open none =
      let whole : old.bytes ++ s.more ≡ take done row = s.split ∙ ap (λ xs. take done row ++ xs) none ∙ append-nil (take done row) in
      rw whole (ap is_by_end (no_block n (take done row) (rw length-take (omega arith))))

  -- the next look reads only if it has to
  pub block_needs : {look : Buffered} {now : Option Files} → (on : ReadsOn held files look now) →
      AreNeeded (λ bytes. block n (old.bytes ++ bytes)) (s.more ++ on.more)
  block_needs on = needs_look (λ bytes. block n (old.bytes ++ bytes)) s.more s.needed on block_is_open

  -- a read failed before the whole block was read
  pub block_fails : {new : Buffered} {now : Option Files} {is : Unit {0} → List ℕ → Type 0} → new ≡ held → now ≡ files → held.bytes ≡ [] → held.ended ≡ false →
      Reads {X = Unit {0}} is (block n) old before (Err (stop.Fault fault.ReadFault)) new now
  block_fails same same_files none going_on =
      rw (same, same_files) record { more = s.more; moves = s.moves; needed = s.needed; gives = (block_is_open none, going_on) }

-- a read returned nothing before the whole block was read
pub block_is_short : {old held new : Buffered} {before files now : Option Files} (n done : ℕ) (row now_row : List ℕ) →
    IsBlockSoFar n old before done row held files → length row ≡ n → done < n → ReadsOn held files new now →
    new.bytes ≡ [] → new.ended ≡ true →
    Reads {X = Unit {0}} (λ _ bytes. bytes ≡ now_row) (block n) old before (Err (stop.Fault fault.Truncated)) new now
block_is_short {old} {held} {new} n done row now_row s len less on none ended =
    let all = two_splits old.bytes s.more (take done row) held.bytes on.more new.bytes s.split on.bytes in
    let whole : old.bytes ++ (s.more ++ on.more) ≡ take done row = all ∙ ap (λ xs. take done row ++ xs) none ∙ append-nil (take done row) in
    record {
      more = s.more ++ on.more;
      moves = move_on s.moves on.moves;
      needed = block_needs s less on;
      gives = (true, rw whole (no_block n (take done row) (rw length-take (omega arith))), λ _. ended);
    }

-- the whole block was read
pub block_ends : {old held : Buffered} {before files : Option Files} {n done : ℕ} {row : List ℕ} → IsBlockSoFar n old before done row held files → length row ≡ n → n ≤ done →
    Reads (λ _ bytes. bytes ≡ row) (block n) old before (Ok (tt {0})) held files
block_ends {held = held} {n = n} {done = done} {row = row} s len all =
    let whole : take done row ≡ row = take_all done row (omega (arith, len)) in
    record {
      more = s.more;
      moves = s.moves;
      needed = s.needed;
      gives = (false, row, refl, rw (s.split, whole) (the_block row held.bytes n len), λ h. absurd (not_true h));
    }

-- the row that was filled up to an index, and k bytes further
pub row_front : (done k : ℕ) (row sub : List ℕ) → done ≤ length row → k ≤ length sub →
    take (done + k) (put_mid done (length row - done) row sub) ≡ take done row ++ take k sub
row_front done k row sub within fits =
    let n : done + k ≤ done + length sub = omega arith in
    let len : length (take done row) ≡ done = length-take-le done row within in
    let whole : take (done + length sub) (put_mid done (length row - done) row sub) ≡ take done row ++ sub
    = take-put_mid done (length row - done) row sub (done + length sub) refl within in
    sym (take-take (done + k) (done + length sub) (put_mid done (length row - done) row sub) n) ∙
    ap (take (done + k)) whole ∙
    subst (λ m. take (m + k) (take done row ++ sub) ≡ take done row ++ take k sub) len (take-append-add (take done row) sub k)

-- k more bytes were read into the row
pub block_goes_on : {old held look new : Buffered} {before files now : Option Files} {n : ℕ} (done k : ℕ) (row sub : List ℕ) →
    IsBlockSoFar n old before done row held files → done < n → ReadsOn held files look now → done ≤ length row → k ≤ length sub →
    take k sub ≡ take k look.bytes → new.bytes ≡ drop k look.bytes → new.ended ≡ look.ended →
    IsBlockSoFar n old before (done + k) (put_mid done (length row - done) row sub) new now
block_goes_on {old} {held} {look} {new} done k row sub s less on within fits copied bytes ended = record {
  more = s.more ++ on.more;
  moves = rw ended (move_on s.moves on.moves);
  needed = block_needs s less on;
  split = two_splits old.bytes s.more (take done row) held.bytes on.more look.bytes s.split on.bytes ∙
      ap (λ xs. take done row ++ xs) (sym (take-append-drop k look.bytes)) ∙
      sym (append_assoc (take done row) (take k look.bytes) (drop k look.bytes)) ∙
      rw (row_front done k row sub within fits, copied, bytes) refl;
}

pub filled_within : (done k : ℕ) (row sub : List ℕ) → done ≤ length row → k ≤ length sub →
    done + k ≤ length (put_mid done (length row - done) row sub)
filled_within done k row sub within fits =
    let P : List ℕ = put_mid done (length row - done) row sub in
    let e : length (take (done + k) P) ≡ length (take done row ++ take k sub) = ap length (row_front done k row sub within fits) in
    omega (arith, e, length-take (done + k) P, length-append (take done row) (take k sub), length-take-le done row within, length-take-le k sub fits)

-- The parts of a header, given their first byte, and the checks of its sides and of its sample for white.
use Rattle.std.proofs.Common.{subst, Option, Result, Ok, Err, append-nil, ◌++◌, ◌≡◌, refl, ℕ, zero, suc, ◌≤◌, ◌<◌, Bool, true, false, ◌||◌, ◌⊎◌, inl, inr, List, [], ◌∷◌, arith, ap, sym, ◌∙◌}
use Rattle.std.specs.Prelude.{nat_lt, if◌then◌else◌}
use Rattle.std.proofs.lemmas.Bool.{lt-ltb, le-ltb}
use Rattle.bitmap_input.specs.Cut.{Kind, FileEnd, is_by_end}
use Rattle.bitmap_input.specs.Cut.Kind.{UnknownFormat, ZeroSide, TooLarge, BadHeader}
use Rattle.bitmap_input.specs.Cut.FileEnd.{End, Trailing, Refused}
use Rattle.bitmap_input.specs.Cut.Cut.{Takes, Stops}
use Rattle.bitmap_input.specs.PageParts.{is_zero, gap_length, gap, some_gap}
use Rattle.bitmap_input.specs.Front.{checked, checked_maxval, greatest_maxval, magic, magic_behind, no_magic}
use Rattle.bitmap_input.specs.Inner.ByteRuns.{IsCapped}
use Rattle.bitmap_input.specs.declared.fault.InFault.TheVariants as fault
use Rattle.bitmap_input.specs.declared.stop.Stop.{Stop}
use Rattle.bitmap_input.specs.declared.stop.Stop.TheVariants as stop
use Rattle.bitmap_input.specs.declared.sides.Sides.{Sides}
use Rattle.bitmap_input.specs.Inner.Header.{IsSides, Checks, ChecksMaxval}
use Rattle.pt_core.specs.Files.{Files}
use Rattle.bitmap_input.specs.Reading.{Buffered}
use Rattle.bitmap_input.specs.Inner.Reading.{cause_of, StopsBy, Reads, Same}
use Rattle.bitmap_input.proofs.NeededBytes.{needs_none}
use Rattle.bitmap_input.proofs.ComposedSteps.{not_true, stand}
use Rattle.bitmap_input.specs.Reading.Cause.{Says}
use Rattle.pt_core.specs.declared.limits.TheConstants.{LONGEST_SIDE}

-- a gap that begins with this byte
pub some_gap_at : (kind : Kind) (b n : ℕ) (bs : List ℕ) → gap_length false (b ∷ bs) ≡ suc n → some_gap kind (b ∷ bs) ≡ gap (b ∷ bs)
some_gap_at kind b n bs some = rw (ap is_zero some) refl

-- a byte that doesn't begin a gap
pub no_gap_at : (kind : Kind) (b : ℕ) (bs : List ℕ) → gap_length false (b ∷ bs) ≡ 0 → some_gap kind (b ∷ bs) ≡ Stops false (Refused kind)
no_gap_at kind b bs none = rw (ap is_zero none) refl

pub magic_at : (later : Bool) (a : ℕ) (bs : List ℕ) → magic later (a ∷ bs) ≡ magic_behind later a bs
magic_at true a bs = refl
magic_at false a bs = refl

pub magic_of_none : (later : Bool) → is_by_end (magic later []) ≡ true
magic_of_none true = refl
magic_of_none false = refl

-- the ending if there is no magic number
abbrev pub without_magic : Bool → FileEnd
without_magic true = Trailing
without_magic false = Refused UnknownFormat

pub no_magic_stops : (e later : Bool) → no_magic e later ≡ Stops e (without_magic later)
no_magic_stops e true = refl
no_magic_stops e false = refl

pub no_magic_says : (later : Bool) (s : Stop) → s ≡ (if later then stop.Trailing else stop.Fault fault.UnknownFormat) → cause_of s ≡ Says (without_magic later)
no_magic_says true s is = ap cause_of is
no_magic_says false s is = ap cause_of is

pub later_ends : (later : Bool) → later ≡ true → magic later [] ≡ Stops true End
later_ends later is = rw is refl

pub first_ends : (later : Bool) → later ≡ false → magic later [] ≡ Stops true (Refused UnknownFormat)
first_ends later is = rw is refl

some_zero : (m n : ℕ) → (m ≡ 0) ⊎ (n ≡ 0) → (is_zero m || is_zero n) ≡ true
some_zero zero n h = refl
some_zero (suc m) zero h = refl
some_zero (suc m) (suc n) (inl h) = absurd (omega arith)
some_zero (suc m) (suc n) (inr h) = absurd (omega arith)

no_zero : (m n : ℕ) → 0 < m → 0 < n → (is_zero m || is_zero n) ≡ false
no_zero zero n a b = absurd (omega arith)
no_zero (suc m) zero a b = absurd (omega arith)
no_zero (suc m) (suc n) a b = refl

or_right : (b : Bool) → (b || true) ≡ true
or_right true = refl
or_right false = refl

some_large : (m n : ℕ) → (LONGEST_SIDE < m) ⊎ (LONGEST_SIDE < n) → (nat_lt LONGEST_SIDE m || nat_lt LONGEST_SIDE n) ≡ true
some_large m n (inl h) = let e : nat_lt LONGEST_SIDE m ≡ true = lt-ltb LONGEST_SIDE m h in rw e refl
some_large m n (inr h) =
    let e : nat_lt LONGEST_SIDE n ≡ true = lt-ltb LONGEST_SIDE n h in rw e (or_right (nat_lt LONGEST_SIDE m))

no_large : (m n : ℕ) → m ≤ LONGEST_SIDE → n ≤ LONGEST_SIDE → (nat_lt LONGEST_SIDE m || nat_lt LONGEST_SIDE n) ≡ false
no_large m n a b =
    let e : nat_lt LONGEST_SIDE m ≡ false = le-ltb LONGEST_SIDE m a in
    let f : nat_lt LONGEST_SIDE n ≡ false = le-ltb LONGEST_SIDE n b in rw (e, f) refl

pub checks_zero : (x y : ℕ) → (x ≡ 0) ⊎ (y ≡ 0) → (width height : ℕ) → IsCapped x width → IsCapped y height →
    (ending : FileEnd) × (Says (Refused ZeroSide) ≡ Says ending) × ((bytes : List ℕ) → checked width height bytes ≡ Stops false ending)
checks_zero x y zero_side width height a b =
    let z : (width ≡ 0) ⊎ (height ≡ 0) = elim zero_side [ inl h ↦ inl (omega arith) | inr h ↦ inr (omega arith) ] in
    (Refused ZeroSide, refl, λ bytes. rw (some_zero width height z) refl)

pub checks_large : (x y : ℕ) → 0 < x → 0 < y → (LONGEST_SIDE < x) ⊎ (LONGEST_SIDE < y) → (width height : ℕ) →
    IsCapped x width → IsCapped y height →
    (ending : FileEnd) × (Says (Refused TooLarge) ≡ Says ending) × ((bytes : List ℕ) → checked width height bytes ≡ Stops false ending)
checks_large x y some_x some_y large width height a b =
    let l : (LONGEST_SIDE < width) ⊎ (LONGEST_SIDE < height) = elim large [ inl h ↦ inl (omega arith) | inr h ↦ inr (omega arith) ] in
    let w : 0 < width = omega arith in
    let h : 0 < height = omega arith in
    (Refused TooLarge, refl, λ bytes. rw (no_zero width height w h, some_large width height l) refl)

pub checks_sides : (x y : ℕ) → 0 < x → 0 < y → x ≤ LONGEST_SIDE → y ≤ LONGEST_SIDE → (width height : ℕ) →
    IsCapped x width → IsCapped y height →
    (width ≡ x) × (height ≡ y) × ((bytes : List ℕ) → checked width height bytes ≡ Takes false (width, height) bytes)
checks_sides x y some_x some_y most_x most_y width height a b =
    let w : 0 < width = omega arith in
    let h : 0 < height = omega arith in
    let w2 : width ≤ LONGEST_SIDE = omega arith in
    let h2 : height ≤ LONGEST_SIDE = omega arith in
    (omega arith, omega arith, λ bytes. rw (no_zero width height w h, no_large width height w2 h2) refl)

-- the check of the sides as a step that reads nothing
pub reads_checked : {x y : ℕ} {held : Buffered} {files : Option Files} {result : Result Sides Stop} (width height : ℕ) →
    IsCapped x width → IsCapped y height → Checks x y result →
    Reads IsSides (λ rest. checked width height rest) held files result held files
reads_checked {held = held} {files = files} {result = Ok s} width height a b checks =
    let (w, h, is) = checks width height a b in
    record {
      more = [];
      moves = stand held.ended files;
      needed = needs_none (λ bytes. checked width height (held.bytes ++ bytes));
      gives = (false, (width, height), (w, h), is (held.bytes ++ []) ∙ ap (Takes false (width, height)) (append-nil held.bytes), λ e. absurd (not_true e));
    }
reads_checked {held = held} {files = files} {result = Err stop} width height a b checks =
    let (ending, cause, is) = checks width height a b in
    let stops : StopsBy (checked width height (held.bytes ++ [])) (Says ending) held
    = (false, is (held.bytes ++ []), λ e. absurd (not_true e)) in
    record {
      more = [];
      moves = stand held.ended files;
      needed = needs_none (λ bytes. checked width height (held.bytes ++ bytes));
      gives = subst (λ why. StopsBy (checked width height (held.bytes ++ [])) why held) (sym cause) stops;
    }

no_maxval : (n : ℕ) → (n ≡ 0) ⊎ (greatest_maxval < n) → (is_zero n || nat_lt greatest_maxval n) ≡ true
no_maxval zero h = refl
no_maxval (suc n) (inl h) = absurd (omega arith)
no_maxval (suc n) (inr h) = lt-ltb greatest_maxval (suc n) h

a_maxval : (n : ℕ) → 0 < n → n ≤ greatest_maxval → (is_zero n || nat_lt greatest_maxval n) ≡ false
a_maxval zero some most = absurd (omega arith)
a_maxval (suc n) some most = le-ltb greatest_maxval (suc n) most

pub checks_no_maxval : (x : ℕ) → (x ≡ 0) ⊎ (greatest_maxval < x) → (n : ℕ) → IsCapped x n →
    (ending : FileEnd) × (Says (Refused BadHeader) ≡ Says ending) × ((bytes : List ℕ) → checked_maxval n bytes ≡ Stops false ending)
checks_no_maxval x out n a =
    let o : (n ≡ 0) ⊎ (greatest_maxval < n) = elim out [ inl h ↦ inl (omega arith) | inr h ↦ inr (omega arith) ] in
    (Refused BadHeader, refl, λ bytes. rw (no_maxval n o) refl)

pub checks_maxval : (x : ℕ) → 0 < x → x ≤ greatest_maxval → (n : ℕ) → IsCapped x n →
    (n ≡ x) × ((bytes : List ℕ) → checked_maxval n bytes ≡ Takes false n bytes)
checks_maxval x some most n a =
    let s : 0 < n = omega arith in
    let m : n ≤ greatest_maxval = omega arith in
    (omega arith, λ bytes. rw (a_maxval n s m) refl)

-- the check of the sample for white as a step that reads nothing
pub reads_checked_maxval : {x : ℕ} {held : Buffered} {files : Option Files} {result : Result ℕ Stop} (n : ℕ) →
    IsCapped x n → ChecksMaxval x result → Reads Same (checked_maxval n) held files result held files
reads_checked_maxval {held = held} {files = files} {result = Ok maxval} n a checks =
    let (same, is) = checks n a in
    record {
      more = [];
      moves = stand held.ended files;
      needed = needs_none (λ bytes. checked_maxval n (held.bytes ++ bytes));
      gives = (false, n, same, is (held.bytes ++ []) ∙ ap (Takes false n) (append-nil held.bytes), λ e. absurd (not_true e));
    }
reads_checked_maxval {held = held} {files = files} {result = Err stop} n a checks =
    let (ending, cause, is) = checks n a in
    let stops : StopsBy (checked_maxval n (held.bytes ++ [])) (Says ending) held
    = (false, is (held.bytes ++ []), λ e. absurd (not_true e)) in
    record {
      more = [];
      moves = stand held.ended files;
      needed = needs_none (λ bytes. checked_maxval n (held.bytes ++ bytes));
      gives = subst (λ why. StopsBy (checked_maxval n (held.bytes ++ [])) why held) (sym cause) stops;
    }

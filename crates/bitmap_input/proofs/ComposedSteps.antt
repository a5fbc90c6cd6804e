-- Two steps of the reader, one after another, make one step, and what stops the first one stops both.
use Rattle.std.proofs.Common.{◌≡◌, refl, ℕ, ◌+◌, Bool, true, false, ◌||◌, inl, inr, List, [], ◌∷◌, ◌++◌, length, take, drop, ap, sym, ◌∙◌, subst, Option, Some, None, IfSome, option_map, Result, Ok, Err, append_assoc, append-nil}
use Rattle.std.proofs.lemmas.List.{length-append, drop-drop}
use Rattle.std.proofs.Math.Seq.{take-add}
use Rattle.pt_core.specs.Files.{Files, Opened, taken_of, with_read, unread_of, unread}
use Rattle.bitmap_input.specs.declared.stop.Stop.{Stop}
use Rattle.bitmap_input.specs.declared.stop.Stop.TheVariants as stop
use Rattle.bitmap_input.specs.declared.fault.InFault.TheVariants as fault
use Rattle.bitmap_input.specs.Cut.{FileEnd, Cut, is_by_end, after, ◌>>=◌}
use Rattle.bitmap_input.proofs.AddedBytes.{with_more}
use Rattle.bitmap_input.specs.Cut.Cut.{Takes, Stops}
use Rattle.bitmap_input.specs.Reading.{Buffered, AtEnd, Moves, Cause}
use Rattle.bitmap_input.specs.Inner.Reading.{cause_of, StopsBy, Gives, Reads}
use Rattle.bitmap_input.specs.Reading.Cause.{Says, Device, Memory}
use Rattle.bitmap_input.specs.Inner.Buffer.{ReadsOn}
use Rattle.bitmap_input.proofs.AddedBytes.{Stays, is_by_end-after}
use Rattle.bitmap_input.proofs.NeededBytes.{needs_none, needs_as, needs_behind, needs_first, by_end-bind, front_of_none}

-- Two reads, one after another, read the bytes of both.

taken-taken : (m n : ℕ) (file : Option Opened) →
    option_map (taken_of n) (option_map (taken_of m) file) ≡ option_map (taken_of (m + n)) file
taken-taken m n None = refl
taken-taken m n (Some file) = ap (λ (rest : List ℕ). Some (record file { rest = rest })) (drop-drop n m file.rest)

with_read-with_read : (m n : ℕ) (told : Option Files) → with_read (with_read told m) n ≡ with_read told (m + n)
with_read-with_read m n None = refl
with_read-with_read m n (Some files) =
    ap (λ (file : Option Opened). Some (record files { opened = file })) (taken-taken m n files.opened)

taken-none : (file : Option Opened) → option_map (taken_of 0) file ≡ file
taken-none None = refl
taken-none (Some file) = refl

pub with_read-none : (told : Option Files) → with_read told 0 ≡ told
with_read-none None = refl
with_read-none (Some files) =
    ap (λ (file : Option Opened). Some (record files { opened = file })) (taken-none files.opened)

two_fronts : (rest more more2 : List ℕ) → more ≡ take (length more) rest →
    more2 ≡ take (length more2) (drop (length more) rest) → more ++ more2 ≡ take (length (more ++ more2)) rest
two_fronts rest more more2 a b =
    let e : length (more ++ more2) ≡ length more + length more2 = length-append more more2 in
    rw (e, take-add (length more) (length more2) rest, ← a, ← b) refl

told_opened : (file : Option Opened) (more more2 : List ℕ) →
    IfSome (option_map unread_of file) (λ rest. more ≡ take (length more) rest) →
    IfSome (option_map unread_of (option_map (taken_of (length more)) file)) (λ rest. more2 ≡ take (length more2) rest) →
    IfSome (option_map unread_of file) (λ rest. more ++ more2 ≡ take (length (more ++ more2)) rest)
told_opened None more more2 a b = tt
told_opened (Some file) more more2 a b = two_fronts file.rest more more2 a b

told_both : (before : Option Files) (more more2 : List ℕ) →
    IfSome (unread before) (λ rest. more ≡ take (length more) rest) →
    IfSome (unread (with_read before (length more))) (λ rest. more2 ≡ take (length more2) rest) →
    IfSome (unread before) (λ rest. more ++ more2 ≡ take (length (more ++ more2)) rest)
told_both None more more2 a b = tt
told_both (Some files) more more2 a b = told_opened files.opened more more2 a b

told_none : (before : Option Files) → IfSome (unread before) (λ rest. [] ≡ take 0 rest)
told_none before = elim (unread before) as (λ told. IfSome told (λ rest. [] ≡ take 0 rest)) [ None ↦ tt | Some rest ↦ refl ]

-- nothing was read
pub stand : (ended : Bool) (files : Option Files) → Moves ended files ended files []
stand ended files = record {
  files = sym (with_read-none files);
  told = told_none files;
  stopped = λ h. (refl, h);
  end = λ h. inl h;
}

-- what was read, and then what was read after it
pub move_on : {e e2 e3 : Bool} {f f2 f3 : Option Files} {more more2 : List ℕ} →
    Moves e f e2 f2 more → Moves e2 f2 e3 f3 more2 → Moves e f e3 f3 (more ++ more2)
move_on {e} {e2} {e3} {f} {f2} {f3} {more} {more2} a b =
    let both : f3 ≡ with_read f (length more + length more2)
    = b.files ∙ ap (λ g. with_read g (length more2)) a.files ∙ with_read-with_read (length more) (length more2) f in
    record {
      files = rw length-append both;
      told = told_both f more more2 a.told (rw a.files at b.told);
      stopped = λ h. let s = a.stopped h in let t = b.stopped s.1 in (rw (s.0, t.0) refl, t.1);
      end = λ h. elim (b.end h) [
        | inl mid ↦ elim (a.end mid) [
          | inl old ↦ inl old
          | inr at_end ↦ inr (let none = (b.stopped mid).0 in
              let same : f3 ≡ f2 = b.files ∙ ap (λ (m : List ℕ). with_read f2 (length m)) none ∙ with_read-none f2 in
              subst AtEnd (sym same) at_end)
        ]
        | inr at_end ↦ inr at_end
      ];
    }

-- The cut of a second part, if the first part was by the end of the list or not.

pub not_true : false ≡ true → ⊥
not_true h = cc

or_false : (d : Bool) → (d || false) ≡ true → d ≡ true
or_false true h = h
or_false false h = h

or_true : (d : Bool) → (d || true) ≡ true
or_true true = refl
or_true false = refl

after_stops : {A : Type 0} (d : Bool) (cut : Cut A) (cause : Cause) (held : Buffered) →
    (d ≡ true → held.ended ≡ true) → StopsBy cut cause held → StopsBy (after d cut) cause held
after_stops true cut (Says ending) held ended (e, is, settled) = (true, ap (after true) is, ended)
after_stops false cut (Says ending) held ended (e, is, settled) = (e, ap (after false) is, settled)
after_stops d cut Device held ended (end, going_on) =
    (is_by_end-after d cut ∙ ap (λ t. d || t) end ∙ or_true d, going_on)
after_stops d cut Memory held ended stops = tt

after_gives : {A X : Type 0} (is : X → A → Type 0) (d : Bool) (cut : Cut A) (result : Result X Stop) (held : Buffered) →
    (d ≡ true → held.ended ≡ true) → Gives is cut result held → Gives is (after d cut) result held
after_gives is true cut (Ok x) held ended (e, a, same, takes, settled) = (true, a, same, ap (after true) takes, ended)
after_gives is false cut (Ok x) held ended (e, a, same, takes, settled) = (e, a, same, ap (after false) takes, settled)
after_gives is d cut (Err s) held ended stops = after_stops d cut (cause_of s) held ended stops

-- the first part stays the same with the bytes that come later
first_stays : {A : Type 0} (part : List ℕ → Cut A) (e : Bool) (a : A) (bytes rest more : List ℕ) → Stays part →
    part bytes ≡ Takes e a rest → (e ≡ true → more ≡ []) → part (bytes ++ more) ≡ Takes e a (rest ++ more)
first_stays part true a bytes rest more stays is none =
    let h = none refl in rw (h, append-nil, append-nil) is
first_stays part false a bytes rest more stays is none =
    let open_end : is_by_end (part bytes) ≡ false = ap is_by_end is in
    stays bytes more open_end ∙ ap (with_more more) is

-- one step after another
pub reads_on : {A B X Y : Type 0} {is : X → A → Type 0} {js : Y → B → Type 0} {part : List ℕ → Cut A}
    {next : A → List ℕ → Cut B} {old mid new : Buffered} {files fmid now : Option Files} {x : X} {result : Result Y Stop} →
    Stays part → Reads is part old files (Ok x) mid fmid →
    ((a : A) → is x a → Reads js (next a) mid fmid result new now) →
    Reads js (λ bytes. part bytes >>= next) old files result new now
reads_on {js = js} {part = part} {next = next} {old = old} {mid = mid} {new = new} {result = result} stays r then =
    let (e, a, same, takes, settled) = r.gives in
    let t = then a same in
    let none : e ≡ true → t.more ≡ [] = λ h. (t.moves.stopped (settled h)).0 in
    let ended : e ≡ true → new.ended ≡ true = λ h. (t.moves.stopped (settled h)).1 in
    let first = first_stays part e a (old.bytes ++ r.more) mid.bytes t.more stays takes none in
    let whole : part (old.bytes ++ (r.more ++ t.more)) ≡ Takes e a (mid.bytes ++ t.more)
    = ap part (sym (append_assoc old.bytes r.more t.more)) ∙ first in
    record {
      more = r.more ++ t.more;
      moves = move_on r.moves t.moves;
      needed = needs_behind (λ bytes. part (old.bytes ++ bytes) >>= next) (λ bytes. next a (mid.bytes ++ bytes)) r.more t.more
          (needs_as (λ bytes. part (old.bytes ++ bytes) >>= next) (λ bytes. by_end-bind (part (old.bytes ++ bytes)) next) r.needed) t.needed (λ still.
          let front_none : e ≡ true → t.needed.before ≡ [] = λ h. front_of_none t.needed.before t.needed.block (sym t.needed.split ∙ none h) in
          let early : part (old.bytes ++ (r.more ++ t.needed.before)) ≡ Takes e a (mid.bytes ++ t.needed.before)
          = ap part (sym (append_assoc old.bytes r.more t.needed.before)) ∙
          first_stays part e a (old.bytes ++ r.more) mid.bytes t.needed.before stays takes front_none in
          rw early (is_by_end-after e (next a (mid.bytes ++ t.needed.before)) ∙ ap (λ t. e || t) still ∙ or_true e));
      gives = rw whole (after_gives js e (next a (mid.bytes ++ t.more)) result new ended t.gives);
    }

stops_bind : {A B : Type 0} (cut : Cut A) (next : A → List ℕ → Cut B) (cause : Cause) (held : Buffered) →
    StopsBy cut cause held → StopsBy (cut >>= next) cause held
stops_bind cut next (Says ending) held (e, is, settled) = (e, ap (λ c. c >>= next) is, settled)
stops_bind (Takes true x rest) next Device held (end, going_on) = (is_by_end-after true (next x rest), going_on)
stops_bind (Takes false x rest) next Device held (end, going_on) = cc
stops_bind (Stops e ending) next Device held (end, going_on) = (end, going_on)
stops_bind cut next Memory held stops = tt

-- what stops the first step stops both
pub reads_stop : {A B X Y : Type 0} {is : X → A → Type 0} {js : Y → B → Type 0} {part : List ℕ → Cut A}
    {old new : Buffered} {files now : Option Files} {s : Stop} (next : A → List ℕ → Cut B) →
    Reads is part old files (Err s) new now → Reads js (λ bytes. part bytes >>= next) old files (Err s) new now
reads_stop {part = part} {old = old} {new = new} {s = s} next r = record {
  more = r.more;
  moves = r.moves;
  needed = needs_as (λ bytes. part (old.bytes ++ bytes) >>= next) (λ bytes. by_end-bind (part (old.bytes ++ bytes)) next) r.needed;
  gives = stops_bind (part (old.bytes ++ r.more)) next (cause_of s) new r.gives;
}

-- a value without a read
pub reads_value : {B Y : Type 0} {js : Y → B → Type 0} {y : Y} {b : B} {held : Buffered} {files : Option Files} →
    js y b → Reads js (λ bytes. Takes false b bytes) held files (Ok y) held files
reads_value {b = b} {held = held} {files = files} same = record {
  more = [];
  moves = stand held.ended files;
  needed = needs_none (λ bytes. Takes false b (held.bytes ++ bytes));
  gives = (false, b, same, ap (Takes false b) (append-nil held.bytes), λ h. absurd (not_true h));
}

-- a step with a weaker statement about its value
pub reads_weaken : {A X : Type 0} {is js : X → A → Type 0} {part : List ℕ → Cut A} {old new : Buffered} {files now : Option Files}
    {result : Result X Stop} → ((x : X) (a : A) → is x a → js x a) → Reads is part old files result new now →
    Reads js part old files result new now
reads_weaken {result = Ok x} less r =
    let (e, a, same, takes, settled) = r.gives in
    record { more = r.more; moves = r.moves; needed = r.needed; gives = (e, a, less x a same, takes, settled) }
reads_weaken {result = Err s} less r = record { more = r.more; moves = r.moves; needed = r.needed; gives = r.gives }

-- a step that stopped, for any kind of value
pub reads_failed : {A X Y : Type 0} {is : X → A → Type 0} {js : Y → A → Type 0} {part : List ℕ → Cut A} {old new : Buffered} {files now : Option Files}
    {s : Stop} → Reads is part old files (Err s) new now → Reads js part old files (Err s) new now
reads_failed r = record { more = r.more; moves = r.moves; needed = r.needed; gives = r.gives }

-- a step with a function applied to its value
pub reads_map : {A B X : Type 0} {is : X → A → Type 0} {js : X → B → Type 0} {part : List ℕ → Cut A}
    {old new : Buffered} {files now : Option Files} {result : Result X Stop} (f : A → B) →
    ((x : X) (a : A) → is x a → js x (f a)) → Reads is part old files result new now →
    Reads js (λ bytes. part bytes >>= λ a rest. Takes false (f a) rest) old files result new now
reads_map {part = part} {old = old} {result = Ok x} f same r =
    let (e, a, is_x, takes, settled) = r.gives in
    record {
      more = r.more;
      moves = r.moves;
      needed = needs_as (λ bytes. part (old.bytes ++ bytes) >>= λ a rest. Takes false (f a) rest)
          (λ bytes. by_end-bind (part (old.bytes ++ bytes)) (λ a rest. Takes false (f a) rest)) r.needed;
      gives = (e || false, f a, same x a is_x, ap (λ c. c >>= λ a rest. Takes false (f a) rest) takes, λ h. settled (or_false e h));
    }
reads_map {result = Err s} f same r = reads_stop (λ a rest. Takes false (f a) rest) r

-- a step that begins after some bytes were read, if an empty list doesn't decide its part
pub reads_after : {A X : Type 0} {is : X → A → Type 0} {part : List ℕ → Cut A} {old mid new : Buffered}
    {files fmid now : Option Files} {result : Result X Stop} → is_by_end (part []) ≡ true → ReadsOn old files mid fmid →
    Reads is part mid fmid result new now → Reads is part old files result new now
reads_after {is = is} {part = part} {old = old} {mid = mid} {new = new} {result = result} by_end on r = record {
  more = on.more ++ r.more;
  moves = move_on on.moves r.moves;
  needed = needs_behind (λ bytes. part (old.bytes ++ bytes)) (λ bytes. part (mid.bytes ++ bytes)) on.more r.more
      (needs_first part on by_end) r.needed (λ still. rw (← append_assoc old.bytes on.more r.needed.before, ← on.bytes) still);
  gives = rw (← append_assoc old.bytes on.more r.more, ← on.bytes) r.gives;
}

-- a step for another part that is the same on the bytes held, whatever comes after them
pub reads_as : {A X : Type 0} {is : X → A → Type 0} {part other : List ℕ → Cut A} {old new : Buffered} {files now : Option Files}
    {result : Result X Stop} → ((more : List ℕ) → part (old.bytes ++ more) ≡ other (old.bytes ++ more)) →
    Reads is other old files result new now → Reads is part old files result new now
reads_as {part = part} {old = old} same r = record {
  more = r.more;
  moves = r.moves;
  needed = needs_as (λ bytes. part (old.bytes ++ bytes)) (λ bytes still. ap is_by_end (same bytes) ∙ still) r.needed;
  gives = rw same r.gives;
}

-- a step that looks at a byte, and goes on as another part does at that byte
pub reads_look : {A X : Type 0} {is : X → A → Type 0} {part other : List ℕ → Cut A} {old mid new : Buffered}
    {files fmid now : Option Files} {result : Result X Stop} {b : ℕ} → is_by_end (part []) ≡ true →
    (look : (bs : List ℕ) × (mid.bytes ≡ b ∷ bs)) → ReadsOn old files mid fmid → ((xs : List ℕ) → part (b ∷ xs) ≡ other (b ∷ xs)) →
    Reads is other mid fmid result new now → Reads is part old files result new now
reads_look {part = part} {other = other} by_end (bs, here) on same r =
    reads_after by_end on (reads_as (λ xs. rw here (same (bs ++ xs))) r)

-- a step that uses a byte, and goes on as another part does after that byte
pub reads_pass : {A X : Type 0} {is : X → A → Type 0} {part other : List ℕ → Cut A} {old mid passed new : Buffered}
    {files fmid now : Option Files} {result : Result X Stop} {b : ℕ} → is_by_end (part []) ≡ true →
    (look : (bs : List ℕ) × (mid.bytes ≡ b ∷ bs)) → ReadsOn old files mid fmid → passed.bytes ≡ drop 1 mid.bytes → passed.ended ≡ mid.ended →
    ((xs : List ℕ) → part (b ∷ xs) ≡ other xs) →
    Reads is other passed fmid result new now → Reads is part old files result new now
reads_pass {is = is} {part = part} {other = other} {mid = mid} {passed = passed} {new = new} {result = result} by_end (bs, here) on bytes ended same r =
    let left : passed.bytes ≡ bs = bytes ∙ ap (drop 1) here in
    let whole : (xs : List ℕ) → part (mid.bytes ++ xs) ≡ other (passed.bytes ++ xs) = λ xs. rw (here, left) (same (bs ++ xs)) in
    reads_after by_end on record {
      more = r.more;
      moves = rw (← ended) r.moves;
      needed = needs_as (λ xs. part (mid.bytes ++ xs)) (λ xs still. ap is_by_end (whole xs) ∙ still) r.needed;
      gives = rw (whole r.more) r.gives;
    }

-- a step that turns the value that it read into another one
pub reads_made : {A B X Y : Type 0} {is : X → A → Type 0} {js : Y → B → Type 0} {part : List ℕ → Cut A}
    {old new : Buffered} {files now : Option Files} {x : X} (f : A → B) (y : Y) → ((a : A) → is x a → js y (f a)) →
    Reads is part old files (Ok x) new now → Reads js (λ bytes. part bytes >>= λ a rest. Takes false (f a) rest) old files (Ok y) new now
reads_made {part = part} {old = old} f y same r =
    let (e, a, is_x, takes, settled) = r.gives in
    record {
      more = r.more;
      moves = r.moves;
      needed = needs_as (λ bytes. part (old.bytes ++ bytes) >>= λ a rest. Takes false (f a) rest)
          (λ bytes. by_end-bind (part (old.bytes ++ bytes)) (λ a rest. Takes false (f a) rest)) r.needed;
      gives = (e || false, f a, same a is_x, ap (λ c. c >>= λ a rest. Takes false (f a) rest) takes, λ h. settled (or_false e h));
    }

-- memory ran out, and nothing was read
pub reads_memory : {A X : Type 0} (is : X → A → Type 0) (part : List ℕ → Cut A) (held : Buffered) (files : Option Files) →
    Reads is part held files (Err (stop.Fault fault.NoMemory)) held files
reads_memory is part held files =
    record { more = []; moves = stand held.ended files; needed = needs_none (λ bytes. part (held.bytes ++ bytes)); gives = tt }

-- a read failed when no byte was left, and an empty list doesn't decide the part
pub reads_fault : {A X : Type 0} {is : X → A → Type 0} {part : List ℕ → Cut A} {old new : Buffered} {files now : Option Files} →
    is_by_end (part []) ≡ true → new ≡ old → now ≡ files → old.bytes ≡ [] → old.ended ≡ false →
    Reads is part old files (Err (stop.Fault fault.ReadFault)) new now
reads_fault {part = part} {old = old} {files = files} by_end same same_files none going_on =
    rw (same, same_files) record {
      more = [];
      moves = stand old.ended files;
      needed = needs_none (λ bytes. part (old.bytes ++ bytes));
      gives = (ap (λ bytes. is_by_end (part (bytes ++ []))) none ∙ by_end, going_on);
    }

-- a part stops at the bytes held
pub reads_nothing : {A X : Type 0} {is : X → A → Type 0} {part : List ℕ → Cut A} {held : Buffered} {files : Option Files} {s : Stop} (e : Bool) (ending : FileEnd) →
    part (held.bytes ++ []) ≡ Stops e ending → cause_of s ≡ Says ending → (e ≡ true → held.ended ≡ true) → Reads is part held files (Err s) held files
reads_nothing {part = part} {held = held} {files = files} e ending stops cause settled =
    let here : StopsBy (part (held.bytes ++ [])) (Says ending) held = (e, stops, settled) in
    record {
      more = [];
      moves = stand held.ended files;
      needed = needs_none (λ bytes. part (held.bytes ++ bytes));
      gives = subst (λ why. StopsBy (part (held.bytes ++ [])) why held) (sym cause) here;
    }

-- there are no more bytes, and one is required
pub reads_end : {A X : Type 0} {is : X → A → Type 0} {part : List ℕ → Cut A} {old new : Buffered} {files now : Option Files} {s : Stop} (ending : FileEnd) →
    part [] ≡ Stops true ending → cause_of s ≡ Says ending → ReadsOn old files new now → new.bytes ≡ [] → new.ended ≡ true →
    Reads is part old files (Err s) new now
reads_end {part = part} ending stops cause on none ended =
    reads_after (ap is_by_end stops) on (reads_nothing true ending (ap (λ bytes. part (bytes ++ [])) none ∙ stops) cause (λ _. ended))

-- the part stops at the byte that comes next
pub reads_refused : {A X : Type 0} {is : X → A → Type 0} {part : List ℕ → Cut A} {old mid : Buffered} {files fmid : Option Files} {s : Stop} {b : ℕ} (ending : FileEnd) →
    is_by_end (part []) ≡ true → (look : (bs : List ℕ) × (mid.bytes ≡ b ∷ bs)) → ReadsOn old files mid fmid →
    ((xs : List ℕ) → part (b ∷ xs) ≡ Stops false ending) → cause_of s ≡ Says ending → Reads is part old files (Err s) mid fmid
reads_refused ending by_end (bs, here) on stops cause =
    reads_after by_end on (reads_nothing false ending (rw here (stops (bs ++ []))) cause (λ h. absurd (not_true h)))

-- the part stops after a byte
pub reads_behind : {A X : Type 0} {is : X → A → Type 0} {part : List ℕ → Cut A} {old mid passed : Buffered} {files fmid : Option Files} {s : Stop} {b : ℕ} (ending : FileEnd) →
    is_by_end (part []) ≡ true → (look : (bs : List ℕ) × (mid.bytes ≡ b ∷ bs)) → ReadsOn old files mid fmid → passed.bytes ≡ drop 1 mid.bytes → passed.ended ≡ mid.ended →
    ((xs : List ℕ) → part (b ∷ xs) ≡ Stops false ending) → cause_of s ≡ Says ending → Reads is part old files (Err s) passed fmid
reads_behind ending by_end look on bytes ended stops cause =
    reads_pass {other = λ _. Stops false ending} by_end look on bytes ended stops (reads_nothing false ending refl cause (λ h. absurd (not_true h)))

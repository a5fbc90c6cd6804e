-- The bytes that a read puts into the buffer are the next ones of the file.
use Rattle.std.proofs.Common.{◌≡◌, refl, ℕ, ◌-◌, ◌≤◌, ◌<◌, true, false, inr, List, [], ◌++◌, length, take, drop, arith, ap, sym, ◌∙◌, subst, Option, IfSome}
use Rattle.std.specs.Prelude.{nat_eq}
use Rattle.std.proofs.lemmas.List.{length-take, length-take-le, length-drop, take-take, take-append-le}
use Rattle.std.proofs.lemmas.Option.{IfSome_then}
use Rattle.std.proofs.lemmas.Bool.{eqb-true, eqb-false}
use Rattle.pt_core.specs.Files.{Files, IsFront, with_read, unread}
use Rattle.bitmap_input.specs.Reading.{AtEnd, Moves}
use Rattle.bitmap_input.proofs.ComposedSteps.{not_true, with_read-none}

-- the first n bytes of a buffer that was filled from its beginning
first_of_filled : (n len : ℕ) (filled items : List ℕ) → n ≤ length filled → length filled ≡ len →
    take (n - 0) (take len (filled ++ drop (length filled) items)) ≡ take n filled
first_of_filled n len filled items within whole =
    let same : n - 0 ≡ n = omega arith in
    let fits : n ≤ len = omega arith in
    rw (same, take-take n len (filled ++ drop (length filled) items) fits, take-append-le n filled (drop (length filled) items) within) refl

-- a read of n bytes into the empty buffer
pub read_moves : (before now : Option Files) (n len : ℕ) (filled items : List ℕ) → n ≤ length filled → length filled ≡ len → 0 < len →
    IfSome (unread before) (λ rest. IsFront rest n filled) → now ≡ with_read before n →
    Moves false before (nat_eq n 0) now (take (n - 0) (take len (filled ++ drop (length filled) items)))
read_moves before now n len filled items within whole some front taken =
    let count : length (take n filled) ≡ n = length-take-le n filled within in
    rw (first_of_filled n len filled items within whole) record {
      files = rw count taken;
      told = rw count (IfSome_then (unread before) front (λ rest is. is.same));
      stopped = λ h. absurd (not_true h);
      end = λ h.
          let none : n ≡ 0 = eqb-true n 0 h in
          let same : now ≡ before = taken ∙ ap (with_read before) none ∙ with_read-none before in
          inr (subst AtEnd (sym same) (IfSome_then (unread before) front (λ rest is. is.ended (omega arith) none)));
    }

-- an empty range of a buffer is empty, whatever the buffer contains
pub none_held : (start stop : ℕ) (items other : List ℕ) → stop ≤ length items → take (stop - start) (drop start items) ≡ [] → take (stop - start) (drop start other) ≡ []
none_held start stop items other within none =
    let count : length (take (stop - start) (drop start items)) ≡ 0 = ap length none in
    let gap : stop - start ≡ 0 = omega (arith, count, length-take (stop - start) (drop start items), length-drop start items) in rw gap refl

-- the bytes that a read of n bytes puts into the buffer
module _ (n len : ℕ) (filled items : List ℕ) (within : n ≤ length filled) (whole : length filled ≡ len) where
  abbrev held : List ℕ
  held = take (n - 0) (take len (filled ++ drop (length filled) items))

  count : length held ≡ n
  count = ap length (first_of_filled n len filled items within whole) ∙ length-take-le n filled within

  pub some_filled : nat_eq n 0 ≡ false → 0 < length held
  some_filled test = let some : n ≡ 0 → ⊥ = eqb-false n 0 test in rw count (omega (arith, some))

  pub none_filled : nat_eq n 0 ≡ true → held ≡ []
  none_filled test = first_of_filled n len filled items within whole ∙ ap (λ m. take m filled) (eqb-true n 0 test)

  pub filled_within : len ≤ 65536 → length held ≤ 65536
  filled_within most = rw count (omega (arith, within, whole, most))

-- The bytes between two indices of a buffer.
use Rattle.std.proofs.Common.{◌≡◌, refl, ℕ, suc, ◌+◌, ◌-◌, ◌≤◌, ◌<◌, List, ◌∷◌, length, take, drop, get_or, arith, drop-cons}
use Rattle.std.proofs.lemmas.List.{drop-take, drop-drop, length-take}

-- if the first index moves on by k, the first k bytes are gone
pub taken_off : (start stop k : ℕ) (buf : List ℕ) → k ≤ stop - start →
    take (stop - (start + k)) (drop (start + k) buf) ≡ drop k (take (stop - start) (drop start buf))
taken_off start stop k buf within =
    let n : stop - start ≡ k + (stop - (start + k)) = omega arith in
    rw (n, drop-take, drop-drop) refl

-- if there is a byte between two indices, they differ
pub some_between : (start stop : ℕ) (buf : List ℕ) → 0 < length (take (stop - start) (drop start buf)) → 1 ≤ stop - start
some_between start stop buf some = let h = rw length-take at some in omega arith

-- the first byte of n bytes from an index on
first_from : (n m start : ℕ) (buf : List ℕ) (byte : ℕ) → n ≡ suc m → start < length buf → byte ≡ get_or buf start byte →
    (bs : List ℕ) × (take n (drop start buf) ≡ byte ∷ bs)
first_from n m start buf byte some within is =
    (take m (drop (suc start) buf), rw (some, drop-cons buf start byte within, ← is) refl)

-- the first byte between two indices
pub first_of : (start stop : ℕ) (buf : List ℕ) (byte : ℕ) → start < stop → stop ≤ length buf →
    byte ≡ get_or buf start byte → (bs : List ℕ) × (take (stop - start) (drop start buf) ≡ byte ∷ bs)
first_of start stop buf byte some within is =
    first_from (stop - start) (stop - start - 1) start buf byte (omega arith) (omega arith) is

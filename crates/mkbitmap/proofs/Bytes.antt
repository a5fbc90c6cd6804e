-- A byte of eight pixels fits in 8 bits and is the byte of the page's text.
use Rattle.std.proofs.Common.{◌≡◌, ℕ, zero, suc, ◌+◌, ◌-◌, ◌*◌, ◌/◌, ◌^◌, ◌<◌, ◌≤◌, Bool, true, false, List, map, length, get_or, refl, arith, ap, ◌∙◌}
use Rattle.std.proofs.lemmas.List.FromFn.{fill_by_all, length-map-range_with_len}
use Rattle.std.proofs.Math.Nat.{pow-le-pow_right}
use Rattle.std.specs.Prelude.{cond}
use Rattle.std.specs.List.{range_with_len}
use Rattle.std.proofs.Math.Path.{fun_ext}
use Rattle.bit_image.specs.PbmText.{byte_from, row_text}
use Rattle.mkbitmap.specs.Inner.Packing.{bit, bits_value, byte_of}
use Rattle.mkbitmap.specs.Packing.{padded}

bit-most : (b : Bool) → bit b ≤ 1
bit-most true = omega arith
bit-most false = omega arith

-- a number of n binary digits is below 2^n
bits-most : (black : ℕ → Bool) (x n : ℕ) → bits_value black x n + 1 ≤ 2 ^ n
bits-most black x zero = omega arith
bits-most black x (suc n) =
    let others : bits_value black x n + 1 ≤ 2 ^ n = bits-most black x n in
    let one : bit (black (x + n)) ≤ 1 = bit-most (black (x + n)) in
    omega (arith, others, one)

pub bits-small : (black : ℕ → Bool) (x n : ℕ) → n ≤ 8 → bits_value black x n < 256
bits-small black x n h =
    let digits : bits_value black x n + 1 ≤ 2 ^ n = bits-most black x n in
    let byte : 2 ^ n ≤ 2 ^ 8 = pow-le-pow_right {n = 2} (omega arith) h in
    omega (arith, digits, byte)

pub bits-next : (black : ℕ → Bool) (x at y v w : ℕ) → x ≤ at → y ≡ at + 1 → v ≡ bits_value black x (at - x) → w ≡ bit (black at)
    → 2 * v + w ≡ bits_value black x (y - x)
bits-next black x at y v w h g e f =
    let n : y - x ≡ suc (at - x) = omega arith in
    let here : x + (at - x) ≡ at = omega arith in
    rw n (omega (arith, e, f, ap (λ k. bit (black k)) here))

bit_cond : (b : Bool) → bit b ≡ cond b 1 0
bit_cond true = refl
bit_cond false = refl

zero_added : (x : ℕ) → x + 0 ≡ x
zero_added x = omega arith

-- the byte is the one of the text
byte_of-is : (black : ℕ → Bool) (x : ℕ) → byte_of black x ≡ byte_from black x
unfolding byte_of
byte_of-is black x =
    omega (arith, ap (λ k. bit (black k)) (zero_added x), bit_cond (black x), bit_cond (black (x + 1)), bit_cond (black (x + 2)), bit_cond (black (x + 3)), bit_cond (black (x + 4)), bit_cond (black (x + 5)), bit_cond (black (x + 6)), bit_cond (black (x + 7)))

pub length-row_text : (width : ℕ) (row : ℕ → Bool) → length (row_text width row) ≡ (width + 7) / 8
length-row_text width row = length-map-range_with_len (λ k. byte_from row (8 * k)) 0 ((width + 7) / 8)

pub packed : (black : ℕ → Bool) (width : ℕ) (row : List ℕ) → length row ≡ (width + 7) / 8
    → ((k : ℕ) → k < (width + 7) / 8 → get_or row k 0 ≡ byte_of (padded width black) (8 * k)) → row ≡ row_text width (padded width black)
packed black width row len values =
    fill_by_all (λ k. byte_of (padded width black) (8 * k)) row ((width + 7) / 8) 0 len values
    ∙ ap (λ (f : ℕ → ℕ). map f (range_with_len 0 ((width + 7) / 8))) (fun_ext (λ k. byte_of-is (padded width black) (8 * k)))

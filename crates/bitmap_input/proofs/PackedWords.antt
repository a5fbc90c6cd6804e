-- A product packs eight pixels of one byte each into one byte, and eight such bytes make a word.
use Rattle.std.proofs.Common.{◌≡◌, refl, ℕ, zero, suc, ◌+◌, ◌-◌, ◌*◌, ◌/◌, ◌%◌, ◌^◌, ◌≤◌, ◌<◌, inl, inr, Bool, true, false, ◌&&◌, ◌||◌, List, [], ◌∷◌, length, map, get_or, set, arith, ap, sym, ◌∙◌, w64}
use Rattle.std.specs.Prelude.{nat_eq, nat_lt, nat_le, min, not}
use Rattle.std.specs.Int.{bit_at, from_le_bytes}
use Rattle.std.specs.Int.RustNames.{bit_or, bit_xor}
use mir.Val.{bool_byte}
use Rattle.std.proofs.lemmas.Bool.{eqb-true, and_parts, lt-ltb, le-ltb, lt-leb, le-leb, cases_lt, cases_eq}
use Rattle.std.proofs.lemmas.Nat.Bits.{bit_at_cat_low, bit_at_cat_high}
use Rattle.bit_image.specs.Words.{is_one}
use Rattle.std.proofs.lemmas.Nat.{column_fits}
use Rattle.std.proofs.lemmas.Grind.{get_or-set_at}
use Rattle.std.proofs.lemmas.List.{get_or-set_other, get_or_past}
use Rattle.bit_image.proofs.Bits.{is_one-zero, is_one-xor, is_one-mask, within-inside, differ-true}
use Rattle.bit_image.proofs.Turned.{is_one-or, is_one-shl, is_one-shl_below}

-- the number that has these bits, the least significant one first
abbrev number_of : List Bool → ℕ
number_of [] = 0
number_of (b ∷ bs) = number_of bs * 2 ^ 1 + bool_byte b

-- the product of eight bytes that are 0 or 1
abbrev gathered : List ℕ → ℕ
gathered bytes = from_le_bytes w64 bytes * 72624976668147840 % 2 ^ 64 / 2 ^ 56

-- all lists of n pixels pass a test
abbrev every : ℕ → (List Bool → Bool) → Bool
every zero f = f []
every (suc n) f = every n (λ bs. f (true ∷ bs)) && every n (λ bs. f (false ∷ bs))

met : (n : ℕ) (f : List Bool → Bool) → every n f ≡ true → (bs : List Bool) → length bs ≡ n → f bs ≡ true
met zero f all [] len = all
met zero f all (b ∷ bs) len = absurd (omega arith)
met (suc n) f all [] len = absurd (omega arith)
met (suc n) f all (true ∷ bs) len = met n (λ bs. f (true ∷ bs)) (and_parts _ _ all).0 bs (omega arith)
met (suc n) f all (false ∷ bs) len = met n (λ bs. f (false ∷ bs)) (and_parts _ _ all).1 bs (omega arith)

pub gathered-number : (bs : List Bool) → length bs ≡ 8 → gathered (map bool_byte bs) ≡ number_of bs
gathered-number bs len = eqb-true _ _ (met 8 (λ bs. nat_eq (gathered (map bool_byte bs)) (number_of bs)) refl bs len)

bit_of : (b : Bool) → nat_eq (bit_at (bool_byte b) 0) 1 ≡ b
bit_of true = refl
bit_of false = refl

small : (b : Bool) → bool_byte b < 2 ^ 1
small true = omega arith
small false = omega arith

pub is_one-number : (bs : List Bool) (k : ℕ) → is_one (number_of bs) k ≡ get_or bs k false
unfolding is_one
is_one-number [] k = is_one-zero k ∙ sym (get_or_past [] k false (omega arith))
is_one-number (b ∷ bs) zero = ap (λ n. nat_eq n 1) (bit_at_cat_low (number_of bs) 1 (bool_byte b) 0 (omega arith)) ∙ bit_of b
is_one-number (b ∷ bs) (suc k) =
    let behind : suc k - 1 ≡ k = omega arith in
    ap (λ n. nat_eq n 1) (bit_at_cat_high (number_of bs) 1 (bool_byte b) (suc k) (small b) (omega arith) ∙ ap (bit_at (number_of bs)) behind) ∙
    is_one-number bs k

-- the eight pixels from an index on, and none after them
pub eight_at : (pixels : List Bool) (at k : ℕ) →
    get_or (get_or pixels at false ∷ get_or pixels (at + 1) false ∷ get_or pixels (at + 2) false ∷ get_or pixels (at + 3) false
    ∷ get_or pixels (at + 4) false ∷ get_or pixels (at + 5) false ∷ get_or pixels (at + 6) false ∷ get_or pixels (at + 7) false ∷ []) k false
    ≡ nat_lt k 8 && get_or pixels (at + k) false
eight_at pixels at zero = let here : at ≡ at + 0 = omega arith in ap (λ n. get_or pixels n false) here
eight_at pixels at (suc zero) = refl
eight_at pixels at (suc (suc zero)) = refl
eight_at pixels at (suc (suc (suc zero))) = refl
eight_at pixels at (suc (suc (suc (suc zero)))) = refl
eight_at pixels at (suc (suc (suc (suc (suc zero))))) = refl
eight_at pixels at (suc (suc (suc (suc (suc (suc zero)))))) = refl
eight_at pixels at (suc (suc (suc (suc (suc (suc (suc zero))))))) = refl
eight_at pixels at (suc (suc (suc (suc (suc (suc (suc (suc k)))))))) =
    get_or_past [] k false (omega arith) ∙ sym (ap (λ t. t && get_or pixels (at + suc (suc (suc (suc (suc (suc (suc (suc k)))))))) false)
    (le-ltb (suc (suc (suc (suc (suc (suc (suc (suc k)))))))) 8 (omega arith)))

or_false : (b : Bool) → b || false ≡ b
or_false true = refl
or_false false = refl

nearer : (k n : ℕ) → n ≤ k → nat_lt (k - n) 8 ≡ nat_lt k (n + 8)
nearer k n h = elim (cases_lt k (n + 8)) [
  | inl less ↦ lt-ltb (k - n) 8 (omega arith) ∙ sym (lt-ltb k (n + 8) less)
  | inr more ↦ le-ltb (k - n) 8 (omega arith) ∙ sym (le-ltb k (n + 8) more)
]

-- the first n pixels of a word
abbrev pub HasFirst : (ℕ → Bool) → ℕ → ℕ → Type 0
HasFirst f word n = (k : ℕ) → k < 64 → is_one word k ≡ nat_lt k n && f k

-- eight more pixels of a word
pub eight_more : (f : ℕ → Bool) (word byte n : ℕ) → HasFirst f word n → ((k : ℕ) → is_one byte k ≡ nat_lt k 8 && f (n + k)) →
    HasFirst f (bit_or word (byte * 2 ^ n % 2 ^ 64)) (n + 8)
eight_more f word byte n first eight = λ k h. is_one-or word (byte * 2 ^ n % 2 ^ 64) k ∙ elim (cases_lt k n) [
  | inl less ↦
      ap (λ t. is_one word k || t) (is_one-shl_below byte n k h less) ∙ or_false (is_one word k) ∙ first k h ∙
      ap (λ t. t && f k) (lt-ltb k n less ∙ sym (lt-ltb k (n + 8) (omega arith)))
  | inr more ↦
      let place : n + (k - n) ≡ k = omega arith in
      ap (λ t. t || is_one (byte * 2 ^ n % 2 ^ 64) k) (first k h ∙ ap (λ t. t && f k) (le-ltb k n more)) ∙
      is_one-shl byte n k h more ∙ eight (k - n) ∙ ap (λ u. nat_lt (k - n) 8 && f u) place ∙ ap (λ t. t && f k) (nearer k n more)
]

-- all pixels of a word, inverted
pub flipped : (word k : ℕ) → k < 64 → is_one (bit_xor word (2 ^ 64 - 1)) k ≡ not (is_one word k)
flipped word k h =
    is_one-xor word (2 ^ 64 - 1) k ∙ differ-true (is_one word k) _ (is_one-mask 0 64 k ∙ within-inside 0 64 k (omega arith) h)

-- a list that is filled one index after another
pub filled_more : {X : Type 0} (d : X) (xs : List X) (i : ℕ) (v : X) (f : ℕ → X) → i < length xs → ((k : ℕ) → k < i → get_or xs k d ≡ f k) → v ≡ f i →
    (k : ℕ) → k < i + 1 → get_or (set xs i v) k d ≡ f k
filled_more d xs i v f within so_far same k h = elim (cases_eq k i) [
  | inl e ↦ get_or-set_at xs i k v d e within ∙ same ∙ ap f (sym e)
  | inr e ↦ get_or-set_other xs i k v d e ∙ so_far k (omega arith)
]

-- a limit above the greatest number can be lowered to it
pub capped : (v limit most : ℕ) → v ≤ most → nat_le v (min limit most) ≡ nat_le v limit
capped v limit most h = elim (cases_lt limit v) [
  | inl less ↦ lt-leb v (min limit most) (omega arith) ∙ sym (lt-leb v limit less)
  | inr more ↦ le-leb v (min limit most) (omega arith) ∙ sym (le-leb v limit more)
]

-- the three bytes of one of 64 colours
pub place_within : (step i : ℕ) → i < 64 → 3 ≤ step → step * i + 3 ≤ step * 64
place_within step i h least = omega (arith, column_fits step i step 64 h (omega arith))

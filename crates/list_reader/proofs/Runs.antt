-- A text begins with exactly one run of digits, and with at most one number.
use Rattle.std.proofs.Common.{◌≡◌, ℕ, zero, suc, ◌+◌, ◌-◌, ◌*◌, ◌^◌, ◌<◌, ◌≤◌, List, [], ◌∷◌, ◌++◌, length, take, drop, get_or, refl, ap, sym, ◌∙◌, subst, arith, rules, length-drop}
use Rattle.std.proofs.lemmas.List.{take-append-drop, get_or-take, get_or-drop, length-take, drop-drop}
use Rattle.std.proofs.Math.Nat.{pow-le-pow_right}
use Rattle.std.specs.Prelude.{decimal, slice_index}
use Rattle.std.specs.List.{All}
use Rattle.std.proofs.lemmas.List.Elements.{All-head, All-tail, All-nil, All-cons, All-from_get_or}
use Rattle.std.proofs.lemmas.Fmt.{decimal_nonempty, length-decimal-le, first_decimal, decimal-digits_value, digits_value-decimal, digits_decimal, decimal_injective, decimal_digit}
use Rattle.std.proofs.lemmas.Str.Parse.{IsNumeralModel, IsDigitsTest, numerals_by_fold}
use Rattle.pt_base.specs.Whole.{IsDigit, value_after}
use Rattle.list_reader.specs.Inner.Numerals.{EndsDigits, IsNumeral, IsPlain}

-- the value of digits is as the library defines it
by_index : IsDigitsTest (All IsDigit)
by_index = record {
  empty = All-nil IsDigit;
  parts = λ c cs all. (All-head IsDigit c cs all, All-tail IsDigit c cs all);
  more = λ c cs here later. All-cons IsDigit c cs here later;
}

own : IsNumeralModel (All IsDigit) (value_after 0)
own = numerals_by_fold (All IsDigit) by_index value_after (search rules)

pub digits_of_decimal : (n : ℕ) → n < 2 ^ 64 → All IsDigit (decimal n)
digits_of_decimal n small = digits_decimal own n small

pub value_of_decimal : (n : ℕ) → n < 2 ^ 64 → value_after 0 (decimal n) ≡ n
value_of_decimal n small = digits_value-decimal own n small

pub decimal_of_value : (ds : List ℕ) → All IsDigit ds → 0 < length ds → (get_or ds 0 0 ≡ 48 → length ds ≡ 1) → value_after 0 ds < 2 ^ 64 → decimal (value_after 0 ds) ≡ ds
decimal_of_value ds all some plain small = decimal-digits_value own ds all some plain small

-- a text begins with exactly one run of digits
pub one_run : (ds es r s : List ℕ) → All IsDigit ds → All IsDigit es → EndsDigits r → EndsDigits s → ds ++ r ≡ es ++ s → (ds ≡ es) × (r ≡ s)
one_run [] [] r s d e r_ends s_ends same = (refl, same)
one_run [] (y ∷ es) r s d e r_ends s_ends same =
    absurd (r_ends (subst (λ bytes. IsDigit (slice_index bytes 0)) (sym same) (All-head IsDigit y es e)))
one_run (x ∷ ds) [] r s d e r_ends s_ends same =
    absurd (s_ends (subst (λ bytes. IsDigit (slice_index bytes 0)) same (All-head IsDigit x ds d)))
one_run (x ∷ ds) (y ∷ es) r s d e r_ends s_ends same =
    let first : x ≡ y = cc in
    let others : ds ++ r ≡ es ++ s = cc in
    let rest = one_run ds es r s (All-tail IsDigit x ds d) (All-tail IsDigit y es e) r_ends s_ends others in
    let tail = rest.0 in
    (cc, rest.1)

-- a text begins with at most one number
pub one_number : (most : ℕ) (bytes : List ℕ) (n m : ℕ) (r s : List ℕ) → most < 2 ^ 64 → IsNumeral most bytes n r → IsNumeral most bytes m s → (n ≡ m) × (r ≡ s)
one_number most bytes n m r s small a b =
    let n_few = a.few in
    let m_few = b.few in
    let one = one_run (decimal n) (decimal m) r s (digits_of_decimal n (omega arith)) (digits_of_decimal m (omega arith)) a.ends b.ends (sym a.text ∙ b.text) in
    (decimal_injective n m (omega arith) (omega arith) one.0, one.1)

-- one more digit still fits 128 bits
pub digits_fit : (value i : ℕ) → i < 20 → value < 10 ^ i → 10 * value + 9 < 2 ^ 128
digits_fit value i few below =
    let most : 10 ^ i ≤ 10 ^ 19 = pow-le-pow_right {n = 10} (omega arith) {i = i} {j = 19} (omega arith) in omega arith

-- a part of a text, followed by the rest, is the text
pub part_and_rest : (text : List ℕ) (at end : ℕ) → at ≤ end → drop at text ≡ take (end - at) (drop at text) ++ drop end text
part_and_rest text at end onwards =
    let whole = take-append-drop (end - at) (drop at text) in
    let rest : drop (end - at) (drop at text) ≡ drop end text = drop-drop (end - at) at text ∙ ap (λ k. drop k text) (let e : at + (end - at) ≡ end = omega arith in e) in
    sym (ap (λ r. take (end - at) (drop at text) ++ r) (sym rest) ∙ whole)

-- the bytes of a part are those of the text
pub part_digits : (text : List ℕ) (at end : ℕ) → at ≤ end → end ≤ length text → ((k : ℕ) → at ≤ k → k < end → IsDigit (get_or text k 0))
    → All IsDigit (take (end - at) (drop at text))
part_digits text at end onwards within digits =
    let part = take (end - at) (drop at text) in
    let len : length part ≡ end - at = simp (length-take, length-drop) (omega arith) in
    All-from_get_or IsDigit part 0 (λ i below.
    let inside : i < end - at = omega arith in
    let e : get_or part i 0 ≡ get_or text (at + i) 0 = get_or-take (end - at) (drop at text) i 0 inside ∙ get_or-drop at text i 0 in
    subst IsDigit (sym e) (digits (at + i) (omega arith) (omega arith)))

-- after the run of digits, the rest doesn't begin with a digit
pub stops_there : (text : List ℕ) (end : ℕ) → ¬ IsDigit (get_or text end 0) → EndsDigits (drop end text)
stops_there text end stops digit =
    let e : get_or (drop end text) 0 0 ≡ get_or text end 0 = get_or-drop end text 0 0 ∙ ap (λ k. get_or text k 0) (omega arith) in
    stops (subst IsDigit e digit)

-- the text of a number has no needless zero
pub plain_decimal : (n : ℕ) → n < 2 ^ 64 → IsPlain (decimal n)
plain_decimal zero small = let one = decimal_digit 0 (omega arith) in rw one (omega arith, omega arith, λ e. refl)
plain_decimal (suc n) small = (
  decimal_nonempty (suc n) small,
  length-decimal-le 20 (suc n) (omega arith) (omega arith) small,
  λ zero_first. absurd (omega (arith, first_decimal (suc n) (omega arith) small)),
)

-- the digits at the beginning of a text are those of its number
pub digits_are : (most : ℕ) (text digits rest : List ℕ) (n : ℕ) (r : List ℕ) → most < 2 ^ 64 → text ≡ digits ++ rest → All IsDigit digits → EndsDigits rest
    → IsNumeral most text n r → (digits ≡ decimal n) × (rest ≡ r)
digits_are most text digits rest n r small is all ends number =
    let few = number.few in
    one_run digits (decimal n) rest r all (digits_of_decimal n (omega arith)) ends number.ends (sym is ∙ number.text)

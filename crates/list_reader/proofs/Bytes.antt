-- The byte at an index of a text is the first byte of the rest from there on.
use Rattle.std.proofs.Common.{◌≡◌, ℕ, ◌+◌, ◌<◌, inl, inr, drop, List, ◌∷◌, length, length-drop, get_or, ap, sym, ◌∙◌, arith}
use Rattle.std.proofs.lemmas.List.{get_or-drop, get_or_past, drop_more}
use Rattle.std.proofs.lemmas.Bool.{cases_lt}

-- the first byte of the rest from `here` on is the text's byte at `here`
pub front : (text : List ℕ) (here : ℕ) → get_or (drop here text) 0 0 ≡ get_or text here 0
front text here = get_or-drop here text 0 0 ∙ ap (λ k. get_or text k 0) (let e : here + 0 ≡ here = omega arith in e)

pub not_byte : (text : List ℕ) (here byte : ℕ) → 0 < byte → ¬ ((here < length text) × (get_or text here 0 ≡ byte)) → ¬ (get_or (drop here text) 0 0 ≡ byte)
not_byte text here byte some none same =
    elim (cases_lt here (length text)) [
      | inl inside ↦ none (inside, sym (front text here) ∙ same)
      | inr past ↦ let zero_there = get_or_past text here 0 past in omega (arith, front text here)
    ]

pub is_byte : (text : List ℕ) (here byte : ℕ) → (here < length text) × (get_or text here 0 ≡ byte) → drop here text ≡ byte ∷ drop (here + 1) text
is_byte text here byte there = drop_more text here 0 there.0 ∙ ap (λ b. b ∷ drop (here + 1) text) there.1

-- if the rest from `here` on begins with a byte, that is the text's byte at `here`
pub byte_there : (text : List ℕ) (here byte : ℕ) (rest : List ℕ) → drop here text ≡ byte ∷ rest → (here < length text) × (get_or text here 0 ≡ byte)
byte_there text here byte rest is =
    (omega (arith, ap length is, length-drop here text), sym (front text here) ∙ ap (λ l. get_or l 0 0) is)

-- That one of two holds and not both: the laws of `differ`.
use Rattle.std.proofs.Common.{◌≡◌, ℕ, Bool, true, false, not, refl, ap, sym, ◌∙◌, inl, inr}
use Rattle.std.proofs.lemmas.Bool.{cases_Bool}
use mathlib.Core.Bool.{beq}
use Rattle.bit_image.specs.Image.{Image, Fits, differ}

pub differ-false : (a : Bool) → differ a false ≡ a
differ-false true = refl
differ-false false = refl

pub differ_same : (a : Bool) → differ a a ≡ false
differ_same true = refl
differ_same false = refl

pub differ_assoc : (a b c : Bool) → differ (differ a b) c ≡ differ a (differ b c)
differ_assoc true true true = refl
differ_assoc true true false = refl
differ_assoc true false c = refl
differ_assoc false b c = refl

-- what differs between a and b, and between b and c, is what differs between a and c
pub differ_link : (a b c : Bool) → differ (differ a b) (differ b c) ≡ differ a c
differ_link true true c = refl
differ_link true false c = refl
differ_link false true true = refl
differ_link false true false = refl
differ_link false false c = refl

-- two pairs of differences, taken the other way
pub differ_swap : (a b c d : Bool) → differ (differ a b) (differ c d) ≡ differ (differ a c) (differ b d)
differ_swap true true true d = refl
differ_swap true true false true = refl
differ_swap true true false false = refl
differ_swap true false true true = refl
differ_swap true false true false = refl
differ_swap true false false d = refl
differ_swap false true true true = refl
differ_swap false true true false = refl
differ_swap false true false d = refl
differ_swap false false c d = refl

pub differ_solve : (a b c : Bool) → differ a (differ b c) ≡ false → differ b a ≡ c
differ_solve true true true e = cc
differ_solve true true false e = refl
differ_solve true false true e = refl
differ_solve true false false e = cc
differ_solve false true true e = refl
differ_solve false true false e = cc
differ_solve false false true e = cc
differ_solve false false false e = refl

pub differ_back : (a b c : Bool) → differ a b ≡ c → a ≡ differ b c
differ_back true true true e = cc
differ_back true true false e = refl
differ_back true false true e = refl
differ_back true false false e = cc
differ_back false true true e = refl
differ_back false true false e = cc
differ_back false false true e = cc
differ_back false false false e = refl

-- the code's way to say it
pub not-beq : (a b : Bool) → not (beq a b) ≡ differ a b
not-beq true true = refl
not-beq true false = refl
not-beq false true = refl
not-beq false false = refl

-- where two images differ lies on each page that both fit
pub fits_differ : (b c : Image) (width height : ℕ) → Fits b width height → Fits c width height → Fits (λ x y. differ (b x y) (c x y)) width height
fits_differ b c width height fb fc = λ x y black.
    elim (cases_Bool (b x y)) [ inl here ↦ fb x y here | inr white ↦ fc x y (sym (ap (λ p. differ p (c x y)) white) ∙ black) ]

-- A text begins with at most one sign and area.
use Rattle.std.proofs.Common.{◌≡◌, ℕ, ◌-◌, ◌<◌, ◌^◌, List, ◌∷◌, ◌++◌, length, drop, get_or, refl, sym, ◌∙◌, arith}
use Rattle.std.specs.Prelude.{decimal}
use Rattle.pt_base.specs.PointsText.{sign_text}
use Rattle.pt_core.specs.declared.path.Sign.{Sign}
use Rattle.pt_core.specs.declared.path.Sign.TheVariants.{Plus, Minus}
use Rattle.list_reader.specs.Inner.Numerals.{IsNumeral}
use Rattle.list_reader.specs.Inner.SignedAreas.{IsSignedArea}
use Rattle.list_reader.proofs.Bytes.{byte_there}
use Rattle.list_reader.proofs.NumberPairs.{behind}
use Rattle.list_reader.proofs.Runs.{one_number}

apart : {A : Type 0} (a b : ℕ) (s t : List ℕ) → a < b → a ∷ s ≡ b ∷ t → A
apart a b s t less e = let same : a ≡ b = cc in absurd (omega arith)

-- a text begins with at most one sign
pub one_sign : (a b : Sign) (s t : List ℕ) → sign_text a ++ s ≡ sign_text b ++ t → (a ≡ b) × (s ≡ t)
one_sign Plus Plus s t e = (refl, behind 43 s t e)
one_sign Minus Minus s t e = (refl, behind 45 s t e)
one_sign Plus Minus s t e = apart 43 45 s t (omega arith) e
one_sign Minus Plus s t e = apart 43 45 t s (omega arith) (sym e)

-- if the byte is neither `+` nor `-`, there is no sign
pub no_sign : (text : List ℕ) (at : ℕ) → ¬ ((at < length text) × (get_or text at 0 ≡ 43)) → ¬ ((at < length text) × (get_or text at 0 ≡ 45))
    → (sign : Sign) (rest : List ℕ) → drop at text ≡ sign_text sign ++ rest → ⊥
no_sign text at plus minus Plus rest is = plus (byte_there text at 43 rest is)
no_sign text at plus minus Minus rest is = minus (byte_there text at 45 rest is)

module _ (bytes : List ℕ) (sign : Sign) (area : ℕ) (rest : List ℕ) (signed : IsSignedArea bytes sign area rest) (read : Sign) (b1 : List ℕ) (at_b1 : bytes ≡ sign_text read ++ b1) where
  -- a space and the area follow the sign
  pub behind_sign : (read ≡ sign) × (b1 ≡ 32 ∷ (decimal area ++ rest))
  behind_sign = one_sign read sign b1 (32 ∷ (decimal area ++ rest)) (sym at_b1 ∙ signed.is)

  -- the area follows the space
  pub area_there : (b2 : List ℕ) → b1 ≡ 32 ∷ b2 → IsNumeral (2 ^ 64 - 1) b2 area rest
  area_there b2 is =
      let few = signed.few in
      record { text = behind 32 b2 (decimal area ++ rest) (sym is ∙ behind_sign.1); few = omega arith; ends = signed.ends }

-- a text begins with at most one sign and area
pub one_signed_area : (bytes : List ℕ) (a b : Sign) (n m : ℕ) (r s : List ℕ) → IsSignedArea bytes a n r → IsSignedArea bytes b m s → (a ≡ b) × (n ≡ m) × (r ≡ s)
one_signed_area bytes a b n m r s this that =
    let few = this.few in
    let sign = behind_sign bytes b m s that a (32 ∷ (decimal n ++ r)) this.is in
    let area = one_number (2 ^ 64 - 1) (decimal n ++ r) n m r s (omega arith) (record { text = refl; few = omega arith; ends = this.ends })
    (area_there bytes b m s that a (32 ∷ (decimal n ++ r)) this.is (decimal n ++ r) refl) in
    (sign.0, area.0, area.1)

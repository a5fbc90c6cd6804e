-- The definitions, checked on the text `42,7`.
use Rattle.std.proofs.Common.{◌≡◌, [], ◌∷◌, ◌++◌, codes, refl, ap, sym, arith}
use Rattle.std.proofs.lemmas.List.Elements.{All-nil, All-cons}
use Rattle.std.specs.Prelude.{decimal}
use Rattle.pt_base.specs.Whole.{IsDigit}
use Rattle.list_reader.specs.Inner.Numerals.{IsNumeral, IsPlain}
use Rattle.list_reader.proofs.Runs.{decimal_of_value}

forty_two : decimal 42 ≡ codes "42"
forty_two =
    decimal_of_value (codes "42") (All-cons IsDigit 52 (50 ∷ []) (omega arith, omega arith) (All-cons IsDigit 50 [] (omega arith, omega arith) (All-nil IsDigit)))
    (omega arith) (λ zero_first. absurd (omega arith)) (omega arith)

-- the text begins with the number 42
first : IsNumeral 99 (codes "42,7") 42 (codes ",7")
first = record { text = ap (λ digits. digits ++ codes ",7") (sym forty_two); few = omega arith; ends = λ digit. omega arith }

-- it doesn't begin with the number 4, since a digit follows the 4
not_four : IsNumeral 99 (codes "42,7") 4 (codes "2,7") → ⊥
not_four number = number.ends (omega arith, omega arith)

-- it doesn't begin with a number of at most 41
too_great : IsNumeral 41 (codes "42,7") 42 (codes ",7") → ⊥
too_great number = let few = number.few in omega arith

-- 007 has needless zeros
needless : IsPlain (codes "007") → ⊥
needless plain = let one = plain.2 refl in omega arith

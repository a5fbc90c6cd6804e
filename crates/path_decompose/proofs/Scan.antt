-- From each start the search goes on to later places of the page.
use Rattle.std.proofs.Common.{◌≡◌, ℕ, suc, ◌+◌, ◌-◌, ◌*◌, ◌<◌, ◌≤◌, Option, Some, None, ◌↔◌, IsNone, IfSome, refl, ap, sym, ◌∙◌, inl, inr, arith}
use Rattle.std.proofs.lemmas.Bool.{cases_order, false≢true, cases_lt, false_from_ne_true}
use Rattle.std.proofs.lemmas.Nat.{mul-le}
use Rattle.bit_image.specs.Image.{Image, Fits, IsWhiteTo}
use Rattle.bit_image.specs.FirstBlack.{IsFirstBlack, IsFirstBlackFrom}
use Rattle.path_decompose.specs.Inner.Start.{IsWhiteThrough, IsStart}

-- how many places of a page of this width a search has to look at, from the start of a path on
abbrev pub places_left : ℕ → Option (ℕ × ℕ) → ℕ
places_left width None = 0
places_left width (Some place) = place.1 * width + (width - place.0)

-- a first black pixel that comes after pixel (x, y)
later : (b : Image) (width height x y u v : ℕ) → Fits b width height → x < width → IsWhiteThrough b width x y → IsFirstBlack b u v → v * width + (width - u) < y * width + (width - x)
later b width height x y u v fits on_page white first =
    let at = fits u v first.black in
    elim (cases_order y v) [
      | inl same ↦ elim (cases_lt x u) [
        | inl right ↦ let rows : v * width ≡ y * width = ap (λ r. r * width) (sym same) in omega arith
        | inr left ↦ absurd (false≢true (sym (white.left u left) ∙ ap (b u) same ∙ first.black))
      ]
      | inr (inl above) ↦ absurd (false≢true (sym (white.above u v at.0 above) ∙ first.black))
      | inr (inr below) ↦ let rows : suc v * width ≤ y * width = mul-le (suc v) width y width below (omega arith) in omega arith
    ]

pub places_left_fall : (b : Image) (width height x y : ℕ) (start : Option (ℕ × ℕ)) → Fits b width height → x < width → IsWhiteThrough b width x y → IsStart b start → places_left width start < y * width + (width - x)
places_left_fall b width height x y None fits on_page white start = omega arith
places_left_fall b width height x y (Some place) fits on_page white start = later b width height x y place.0 place.1 fits on_page white start

-- from the start on there are at most as many places as the page has
pub places_left_le : (b : Image) (width height : ℕ) (start : Option (ℕ × ℕ)) → Fits b width height → IsStart b start → places_left width start ≤ width * height
places_left_le b width height None fits white = omega arith
places_left_le b width height (Some place) fits first =
    let at = fits place.0 place.1 first.black in
    let rows : suc place.1 * width ≤ height * width = mul-le (suc place.1) width height width at.1 (omega arith) in
    omega arith

-- what the search from the top row down finds is the start
pub start_from : (b : Image) (width height from : ℕ) (start : Option (ℕ × ℕ)) → Fits b width height → height ≤ suc from → (IsNone start ↔ IsWhiteTo b from)
    → IfSome start (λ place. IsFirstBlackFrom b from place.0 place.1) → IsStart b start
start_from b width height from None fits top none first = λ x y. elim (cases_lt from y) [
  | inl above ↦ false_from_ne_true (b x y) (λ black. let at = fits x y black in absurd (omega arith))
  | inr below ↦ none.0 refl x y below
]
start_from b width height from (Some place) fits top none first = record {
  black = first.black;
  above = λ u v higher. elim (cases_lt from v) [
    | inl above ↦ false_from_ne_true (b u v) (λ black. let at = fits u v black in absurd (omega arith))
    | inr below ↦ first.above u v higher below
  ];
  left = first.left;
}

-- Pixels written to a row one after another, and rows written one below another.
use Rattle.std.proofs.Common.{◌≡◌, refl, ℕ, zero, suc, ◌+◌, ◌*◌, ◌≤◌, ◌<◌, inl, inr, Bool, true, false, List, [], ◌∷◌, length, get_or, arith, ◌∙◌}
use Rattle.std.specs.Prelude.{nat_eq}
use Rattle.std.proofs.lemmas.List.{length-append}
use Rattle.std.proofs.lemmas.Bool.{eq-eqb, ne_eqb, cases_eq}
use Rattle.bit_image.specs.Image.{Image, with_pixel}
use Rattle.bitmap_input.specs.Raw.{bits_of, unpacked}
use Rattle.bitmap_input.specs.Inner.Raster.{with_pixels, with_row, with_rows}

-- a pixel that isn't written
with_pixel-other : (b : Image) (x y u v : ℕ) (p : Bool) → (x ≡ u → y ≡ v → ⊥) → with_pixel b x y p u v ≡ b u v
with_pixel-other b x y u v p other = elim (cases_eq x u) [
  | inl e ↦
      let f : nat_eq x u ≡ true = eq-eqb x u e in
      let g : nat_eq y v ≡ false = ne_eqb y v (other e) in
      rw (f, g) refl
  | inr e ↦ let f : nat_eq x u ≡ false = ne_eqb x u e in rw f refl
]

pub with_pixels-other : (b : Image) (y x u v : ℕ) (ps : List Bool) → (y ≡ v → x ≤ u → u < x + length ps → ⊥) →
    with_pixels b y x ps u v ≡ b u v
with_pixels-other b y x u v [] other = refl
with_pixels-other b y x u v (p ∷ ps) other =
    with_pixels-other (with_pixel b x y p) y (suc x) u v ps (λ e f g. other e (omega arith) (omega arith)) ∙
    with_pixel-other b x y u v p (λ e f. other f (omega arith) (omega arith))

-- a pixel that is written
pub with_pixels-at : (b : Image) (y x u k : ℕ) (ps : List Bool) → u ≡ x + k → k < length ps →
    with_pixels b y x ps u y ≡ get_or ps k false
with_pixels-at b y x u k [] at within = absurd (omega arith)
with_pixels-at b y x u zero (p ∷ ps) at within =
    let same : x ≡ u = omega arith in
    let e : nat_eq x u ≡ true = eq-eqb x u same in
    let f : nat_eq y y ≡ true = eq-eqb y y refl in
    let here : with_pixel b x y p u y ≡ p = rw (e, f) refl in
    with_pixels-other (with_pixel b x y p) y (suc x) u y ps (λ _ g h. omega arith) ∙ here
with_pixels-at b y x u (suc k) (p ∷ ps) at within =
    with_pixels-at (with_pixel b x y p) y (suc x) u k ps (omega arith) (omega arith)

pub length-unpacked : (xs : List ℕ) → length (unpacked xs) ≡ 8 * length xs
length-unpacked [] = refl
length-unpacked (x ∷ xs) = omega (arith, length-append (bits_of x) (unpacked xs), length-unpacked xs)

-- the next row below
pub row_painted : (c d : Image) (y below : ℕ) (r : List Bool) → y ≡ suc below → d ≡ with_row c below r → (rs : List (List Bool)) →
    with_rows d below rs ≡ with_rows c y (r ∷ rs)
row_painted c d y below r next painted rs = rw (next, painted) refl

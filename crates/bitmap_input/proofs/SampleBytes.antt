-- How a row of bytes holds samples, and why capped numbers give the same pixels as the whole ones.
use Rattle.std.proofs.Common.{◌≡◌, refl, ℕ, zero, suc, ◌+◌, ◌*◌, ◌≤◌, ◌<◌, inl, inr, Bool, true, false, List, [], ◌∷◌, length, map, get_or, arith, ap, sym, ◌∙◌, Option, Ok, Fits, w16}
use Rattle.std.specs.Prelude.{if◌then◌else◌, nat_le}
use Rattle.std.proofs.lemmas.Bool.{lt-leb, le-leb, cases_lt}
use Rattle.std.proofs.lemmas.List.{get_or-map}
use Rattle.pt_core.specs.Files.{Files}
use Rattle.bit_image.specs.Image.{differ}
use Rattle.bitmap_input.specs.Cut.{Cut}
use Rattle.bitmap_input.specs.Samples.{PixelSamples, samples_in, samples, grouped}
use Rattle.bitmap_input.specs.Inner.Shading.{brightness, brightness_at, IsCappedBrightness, is_black_at, black_of}
use Rattle.bitmap_input.specs.GrayRows.{lowered}
use Rattle.bitmap_input.specs.Inner.ByteRuns.{cap, IsCapped}
use Rattle.bitmap_input.specs.Reading.{Buffered}
use Rattle.bitmap_input.specs.Inner.Reading.{Reads}
use Rattle.bitmap_input.specs.declared.channels.Channels.{Channels}
use Rattle.bitmap_input.specs.declared.channels.Channels.TheVariants.{Gray, Color}
use Rattle.bitmap_input.specs.declared.shading.Shading.{Shading}

-- Two bytes hold a wide sample.

wide_samples-length : (n : ℕ) (bytes : List ℕ) → length bytes ≡ 2 * n → length (samples true bytes) ≡ n
wide_samples-length zero [] h = refl
wide_samples-length zero (a ∷ bytes) h = absurd (omega arith)
wide_samples-length (suc n) [] h = absurd (omega arith)
wide_samples-length (suc n) (a ∷ []) h = absurd (omega arith)
wide_samples-length (suc n) (a ∷ b ∷ bytes) h = ap suc (wide_samples-length n bytes (omega arith))

pub samples-length : (wide : Bool) (n : ℕ) (bytes : List ℕ) → length bytes ≡ (if wide then 2 * n else n) → length (samples wide bytes) ≡ n
samples-length true n bytes h = wide_samples-length n bytes h
samples-length false n bytes h = h

pub wide_within : (i : ℕ) (bytes : List ℕ) → i < length (samples true bytes) → 2 * i + 1 < length bytes
wide_within i [] h = absurd (omega arith)
wide_within i (a ∷ []) h = absurd (omega arith)
wide_within zero (a ∷ b ∷ bytes) h = omega arith
wide_within (suc i) (a ∷ b ∷ bytes) h = omega (arith, wide_within i bytes (omega arith))

pub wide_sample : (i : ℕ) (bytes : List ℕ) → i < length (samples true bytes) →
    get_or (samples true bytes) i 0 ≡ 256 * get_or bytes (2 * i) 0 + get_or bytes (2 * i + 1) 0
wide_sample i [] h = absurd (omega arith)
wide_sample i (a ∷ []) h = absurd (omega arith)
wide_sample zero (a ∷ b ∷ bytes) h = refl
wide_sample (suc i) (a ∷ b ∷ bytes) h =
    let first : 2 * suc i ≡ suc (suc (2 * i)) = omega arith in
    let second : 2 * suc i + 1 ≡ suc (suc (2 * i + 1)) = omega arith in
    rw (second, first) (wide_sample i bytes (omega arith))

-- samples of two bytes aren't lowered
pub lowered_row : (row : List ℕ) → ((i : ℕ) → Fits w16 (get_or row i 0)) → map lowered row ≡ row
lowered_row [] within = refl
lowered_row (x ∷ row) within =
    let first : lowered x ≡ x = omega (arith, within 0) in rw (first, lowered_row row (λ i. within (suc i))) refl

-- a sample has at least one byte
wide_samples-most : (bytes : List ℕ) → length (samples true bytes) ≤ length bytes
wide_samples-most [] = omega arith
wide_samples-most (a ∷ []) = omega arith
wide_samples-most (a ∷ b ∷ bytes) = omega (arith, wide_samples-most bytes)

pub samples-most : (wide : Bool) (bytes : List ℕ) → length (samples wide bytes) ≤ length bytes
samples-most true bytes = wide_samples-most bytes
samples-most false bytes = omega arith

-- A pixel has one sample or three.

-- fewer pixels don't have more samples
pub fewer_samples : (c : Channels) (m n most : ℕ) → m ≤ n → samples_in c * n ≤ most → samples_in c * m ≤ most
fewer_samples Gray m n most less h = omega arith
fewer_samples Color m n most less h = omega arith

color_pixels-length : (n : ℕ) (vs : List ℕ) → length vs ≡ 3 * n → length (grouped Color vs) ≡ n
color_pixels-length zero [] h = refl
color_pixels-length zero (r ∷ vs) h = absurd (omega arith)
color_pixels-length (suc n) [] h = absurd (omega arith)
color_pixels-length (suc n) (r ∷ []) h = absurd (omega arith)
color_pixels-length (suc n) (r ∷ g ∷ []) h = absurd (omega arith)
color_pixels-length (suc n) (r ∷ g ∷ b ∷ vs) h = ap suc (color_pixels-length n vs (omega arith))

pub grouped-length : (c : Channels) (n : ℕ) (vs : List ℕ) → length vs ≡ samples_in c * n → length (grouped c vs) ≡ n
grouped-length Gray n vs h = omega arith
grouped-length Color n vs h = color_pixels-length n vs h

color_shaded : (f : ℕ → Bool) (x : ℕ) (vs : List ℕ) → x < length (grouped Color vs) →
    f (brightness_at Color vs x) ≡ get_or (map (λ a. f (brightness Color a)) (grouped Color vs)) x false
color_shaded f x [] h = absurd (omega arith)
color_shaded f x (r ∷ []) h = absurd (omega arith)
color_shaded f x (r ∷ g ∷ []) h = absurd (omega arith)
color_shaded f zero (r ∷ g ∷ b ∷ vs) h = refl
color_shaded f (suc x) (r ∷ g ∷ b ∷ vs) h =
    let first : 3 * suc x ≡ suc (suc (suc (3 * x))) = omega arith in
    let second : 3 * suc x + 1 ≡ suc (suc (suc (3 * x + 1))) = omega arith in
    let third : 3 * suc x + 2 ≡ suc (suc (suc (3 * x + 2))) = omega arith in
    rw (third, second, first) (color_shaded f x vs (omega arith))

-- a function of a pixel's brightness, applied in the row, gives the row's value in the pixel's column
pub shaded : (c : Channels) (f : ℕ → Bool) (x : ℕ) (vs : List ℕ) → x < length (grouped c vs) →
    f (brightness_at c vs x) ≡ get_or (map (λ a. f (brightness c a)) (grouped c vs)) x false
shaded Gray f x vs h = sym (get_or-map f vs x 0 _ h)
shaded Color f x vs h = color_shaded f x vs h

-- A number that is capped is greater than the brightness of any black pixel.

pub least_cap : (c : Channels) (limit maxval : ℕ) → maxval ≤ 65535 → limit ≤ samples_in c * maxval → limit < cap
least_cap Gray limit maxval most less = omega arith
least_cap Color limit maxval most less = omega arith

pub capped_brightness : (c : Channels) (limit x : ℕ) (a : PixelSamples c) → limit < cap → IsCappedBrightness c x a →
    nat_le (brightness c a) limit ≡ nat_le x limit
capped_brightness Gray limit x v less capped = elim (cases_lt limit v) [
  | inl h ↦ lt-leb v limit h ∙ sym (lt-leb x limit (omega arith))
  | inr h ↦ le-leb v limit h ∙ sym (le-leb x limit (omega arith))
]
capped_brightness Color limit x (r, g, b) less capped = elim (cases_lt limit (r + g + b)) [
  | inl h ↦ lt-leb (r + g + b) limit h ∙ sym (lt-leb x limit (omega arith))
  | inr h ↦ le-leb (r + g + b) limit h ∙ sym (le-leb x limit (omega arith))
]

pub capped_black : (s : Shading) (x : ℕ) (a : PixelSamples s.channels) → IsCappedBrightness s.channels x a →
    black_of s a ≡ is_black_at s x
capped_black s x a capped =
    ap (differ s.invert) (capped_brightness s.channels s.limit x a (least_cap s.channels s.limit s.maxval s.most s.no_brighter) capped)

-- the sum of three capped numbers
pub capped_sum : (x y z r g b : ℕ) → IsCapped x r → IsCapped y g → IsCapped z b → IsCappedBrightness Color (x + y + z) (r, g, b)
capped_sum x y z r g b is_red is_green is_blue = omega (arith, is_red, is_green, is_blue)

-- a number that was read is at most the cap
pub read_within : {part : List ℕ → Cut ℕ} {old new : Buffered} {files now : Option Files} {x : ℕ} → Reads IsCapped part old files (Ok x) new now → x ≤ cap
read_within r = let (e, a, is, takes, settled) = r.gives in omega (arith, is)

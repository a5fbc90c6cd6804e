-- The attributes of a document of vector graphics.
use Rattle.std.proofs.Common.{◌≡◌, ℕ, ◌+◌, ◌-◌, ◌*◌, ◌^◌, ◌<◌, ℤ, pos, negsuc, ◌-ℤ◌, ◌+ℤ◌, ◌*ℤ◌, false, List, [], ◌∷◌, ◌++◌, codes, map, refl, ap, ◌∙◌, append_assoc, Some, arith}
use Rattle.std.proofs.lemmas.Int.{ints}
use Rattle.std.proofs.lemmas.List.Elements.{All-head, All-tail}
use Rattle.std.specs.Prelude.{decimal, All}
use Rattle.pt_base.specs.Whole.{IsDigit, value_after}
use Rattle.document_readings.specs.Drawn.{Place}
use Rattle.document_readings.specs.WholeNumbers.{nothing, digits, natural_of}
use Rattle.document_readings.specs.SvgReading.{length_from, view_in, view_of}
use Rattle.document_readings.specs.SvgPicture.{up_the_page}
use Rattle.document_readings.specs.TextLines.{spaced_words}
use Rattle.document_readings.specs.Transforms as transforms
use Rattle.document_readings.specs.Transforms.{transforms_of, transforms_from, transform_before, named_transform, image_by}
use Rattle.document_readings.proofs.Naturals.{last_word, natural_read, word_before_space}
use Rattle.document_readings.proofs.Digits.{by_first_digit, is_digit_true}

-- a length in points
points_pass : (ds : List ℕ) (value : ℕ) (rest : List ℕ) → All IsDigit ds → length_from (digits false value) (ds ++ rest) ≡ length_from (digits false (value_after value ds)) rest
points_pass [] value rest all = refl
points_pass (b ∷ ds) value rest all = rw (is_digit_true b (All-head IsDigit b ds all)) (points_pass ds (10 * value + (b - 48)) rest (All-tail IsDigit b ds all))

pub points_read : (n : ℕ) → n < 2 ^ 64 → length_from nothing (decimal n ++ codes "pt") ≡ Some n
points_read n small =
    by_first_digit (λ ds m. length_from nothing (ds ++ codes "pt") ≡ Some m)
    (λ b ds first others. rw (is_digit_true b first) (points_pass ds (0 + (b - 48)) (codes "pt") others)) n small

-- the view
pub view_read : (width height : ℕ) → width < 2 ^ 64 → height < 2 ^ 64
    → view_in (codes "0 0 " ++ decimal width ++ codes " " ++ decimal height) ≡ Some (record { x = 0; y = 0; width = width; height = height })
view_read width height wide high =
    let regrouped : codes "0 0 " ++ decimal width ++ codes " " ++ decimal height ≡ codes "0 0 " ++ (decimal width ++ 32 ∷ decimal height) = simp append_assoc in
    let words : spaced_words (decimal width ++ 32 ∷ decimal height) ≡ decimal width ∷ decimal height ∷ [] =
    word_before_space width (decimal height) wide ∙ ap (λ ws. decimal width ∷ ws) (last_word height high) in
    ap view_in regrouped
    ∙ ap (λ ws. view_of (map natural_of (codes "0" ∷ codes "0" ∷ ws))) words
    ∙ ap (λ w. view_of (Some 0 ∷ Some 0 ∷ w ∷ natural_of (decimal height) ∷ [])) (natural_read width wide)
    ∙ ap (λ h. view_of (Some 0 ∷ Some 0 ∷ Some width ∷ h ∷ [])) (natural_read height high)

-- the transformations
second_pass : (name : List ℕ) (x : ℤ) (ds : List ℕ) (value : ℕ) (rest : List ℕ) → All IsDigit ds
    → transforms_from (transforms.second name x (digits false value)) (ds ++ rest) ≡ transforms_from (transforms.second name x (digits false (value_after value ds))) rest
second_pass name x [] value rest all = refl
second_pass name x (b ∷ ds) value rest all = rw (is_digit_true b (All-head IsDigit b ds all)) (second_pass name x ds (10 * value + (b - 48)) rest (All-tail IsDigit b ds all))

second_read : (name : List ℕ) (x : ℤ) (n : ℕ) (rest : List ℕ) → n < 2 ^ 64
    → transforms_from (transforms.second name x nothing) (decimal n ++ 41 ∷ rest) ≡ transform_before (transforms_from transforms.behind rest) (named_transform name x (pos n))
second_read name x n rest small =
    by_first_digit (λ ds m. transforms_from (transforms.second name x nothing) (ds ++ 41 ∷ rest) ≡ transform_before (transforms_from transforms.behind rest) (named_transform name x (pos m)))
    (λ b ds first others. rw (is_digit_true b first) (second_pass name x ds (0 + (b - 48)) (41 ∷ rest) others)) n small

pub transforms_read : (height : ℕ) → height < 2 ^ 64 → transforms_of (codes "translate(0," ++ decimal height ++ codes ") scale(1,-1)") ≡ Some (up_the_page height)
transforms_read height small =
    let regrouped : codes "translate(0," ++ decimal height ++ codes ") scale(1,-1)" ≡ codes "translate(0," ++ (decimal height ++ 41 ∷ codes " scale(1,-1)") = simp append_assoc in
    ap transforms_of regrouped ∙ second_read (codes "translate") (pos 0) height (codes " scale(1,-1)") small

pub upwards_image : (height : ℕ) (p : Place) → image_by (up_the_page height) p ≡ record { x = p.x; y = pos height -ℤ p.y }
upwards_image height p =
    let x : pos 1 *ℤ p.x +ℤ pos 0 ≡ p.x = omega (arith, ints) in
    let y : negsuc 0 *ℤ p.y +ℤ pos height ≡ pos height -ℤ p.y = omega (arith, ints) in
    let F : ℤ → Place = λ z. record { x = z; y = negsuc 0 *ℤ p.y +ℤ pos height } in
    let G : ℤ → Place = λ z. record { x = p.x; y = z } in
    ap F x ∙ ap G y

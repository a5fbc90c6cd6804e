-- The definitions, computed for two pixels: a dark one and a bright one.
use Rattle.std.proofs.Common.{◌≡◌, [], ◌∷◌, refl}
use Rattle.bit_image.specs.PbmText.{row_text}
use Rattle.mkbitmap.specs.Box.{Gray, gray_of, box_sum}
use Rattle.mkbitmap.specs.Enlarged.{is_black, need}
use Rattle.mkbitmap.specs.Packing.{padded}

-- 0 1
abbrev pair : Gray
pair = gray_of 2 1 1 ((0 ∷ 1 ∷ []) ∷ [])

-- twice as large: two black and two white pixels in both rows
upper_row : row_text 4 (padded 4 (λ X. is_black pair 0 2 500000 X 0)) ≡ 192 ∷ []
upper_row = refl

lower_row : row_text 4 (padded 4 (λ X. is_black pair 0 2 500000 X 1)) ≡ 192 ∷ []
lower_row = refl

-- each box has both pixels
whole_box : box_sum pair 1 0 0 ≡ 1
whole_box = refl

-- in the same size, compared with the mean: the left pixel is black
sharper_row : row_text 2 (padded 2 (λ X. is_black pair 1 1 500000 X 0)) ≡ 128 ∷ []
sharper_row = refl

-- the second row of the larger page needs the only row of the page
needed : need 1 1 2 1 ≡ 0
needed = refl

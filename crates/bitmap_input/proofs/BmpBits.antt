-- If each bit of a BMP picture's row selects a black or a white colour, the row is its packed bytes, inverted
-- or not.
use Rattle.std.proofs.Common.{◌≡◌, refl, ℕ, zero, suc, ◌+◌, ◌-◌, ◌*◌, ◌/◌, ◌%◌, ◌≤◌, ◌<◌, Bool, true, false, not, List, length, take, map, get_or, arith, ap, sym, ◌∙◌}
use Rattle.std.specs.Prelude.{nat_eq}
use Rattle.std.specs.List.{range_with_len}
use Rattle.std.proofs.lemmas.List.{get_or-map, get_or-take, get_or_default, length-map, length-take-le}
use Rattle.std.proofs.lemmas.List.FromFn.{fill_by_all}
use Rattle.bit_image.specs.Image.{differ}
use Rattle.bit_image.specs.Words.{is_one, bit_in}
use Rattle.bitmap_input.specs.Raw.{unpacked, black}
use Rattle.bitmap_input.specs.Raw.Entry.{Color}
use Rattle.bitmap_input.specs.BmpRaster.{bit_at}
use Rattle.bitmap_input.specs.Inner.BmpHead.{shade_in}
use Rattle.bitmap_input.specs.declared.bmp.fields.Depth.TheVariants as depth
use Rattle.bitmap_input.proofs.PaintedRows.{length-unpacked}
use Rattle.bitmap_input.proofs.Rows.{get_or-unpacked}

differ-false_last : (b : Bool) → differ b false ≡ b
differ-false_last true = refl
differ-false_last false = refl

differ-true_last : (b : Bool) → differ b true ≡ not b
differ-true_last true = refl
differ-true_last false = refl

-- one of the first two colours of a table, selected by a bit
one_of_two : (n : ℕ) (table : List Bool) (d : Bool) → n < 2 → get_or table 1 d ≡ not (get_or table 0 d) →
    differ (get_or table 0 d) (nat_eq n 1) ≡ get_or table n d
one_of_two zero table d h apart = differ-false_last (get_or table 0 d)
one_of_two (suc zero) table d h apart = differ-true_last (get_or table 0 d) ∙ sym apart
one_of_two (suc (suc n)) table d h apart = absurd (omega arith)

-- a bit of the row's bytes
bit_is : (row : List ℕ) (x : ℕ) → bit_in row x ≡ nat_eq (bit_at row x) 1
unfolding bit_in is_one
bit_is row x = refl

-- a bit of the first bytes of the row
bit_of_front : (row : List ℕ) (n x : ℕ) → x < 8 * n → bit_in (take n row) x ≡ bit_in row x
unfolding bit_in
bit_of_front row n x h = ap (λ b. is_one b (7 - x % 8)) (get_or-take n row (x / 8) 0 (omega arith))

pub bits_shown : (level : ℕ) (invert : Bool) (table : List Bool) (row : List ℕ) (w n : ℕ) → n ≡ (w + 7) / 8 → n ≤ length row → length table ≡ 256 →
    get_or table 1 false ≡ not (get_or table 0 false) →
    map (differ (get_or table 0 false)) (take w (unpacked (take n row))) ≡ map (shade_in depth.One level invert table row) (range_with_len 0 w)
bits_shown level invert table row w n count within size apart =
    let zero_is : Bool = get_or table 0 false in
    let none : Bool = black level invert (Color 0 0 0) in
    let bytes : List ℕ = take n row in
    let bytes_len : length bytes ≡ n = length-take-le n row within in
    let pixels : List Bool = take w (unpacked bytes) in
    let len : length pixels ≡ w = length-take-le w (unpacked bytes) (omega (arith, length-unpacked bytes)) in
    fill_by_all (shade_in depth.One level invert table row) (map (differ zero_is) pixels) w false (length-map pixels (differ zero_is) ∙ len)
    (λ k h. let bit : bit_at row k < 2 = omega arith in
    let at : k < length pixels = omega arith in
    get_or-map (differ zero_is) pixels k false false at ∙
    ap (differ zero_is) (get_or-take w (unpacked bytes) k false h ∙ get_or-unpacked bytes k (omega arith) ∙ bit_of_front row n k (omega arith) ∙ bit_is row k) ∙
    one_of_two (bit_at row k) table false bit apart ∙ get_or_default table (bit_at row k) false none (omega arith))

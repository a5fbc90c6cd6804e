-- The document of a whole page is the raw PBM text of the result.
use Rattle.std.proofs.Common.{◌≡◌, ℕ, zero, suc, ◌+◌, ◌-◌, ◌*◌, ◌<◌, ◌≤◌, Bool, ◌&&◌, inl, inr, List, [], ◌∷◌, ◌++◌, flat_map, length, refl, ap, sym, ◌∙◌, subst, arith, append-nil}
use Rattle.std.specs.List.{range_with_len}
use Rattle.std.proofs.Math.Path.{fun_ext}
use Rattle.std.proofs.lemmas.Bool.{cases_lt, lt-ltb, le-ltb}
use Rattle.std.proofs.lemmas.Grind.{flat_map-append}
use Rattle.bit_image.specs.Page.{IsPage, image_of}
use Rattle.bit_image.specs.PbmText.{pbm_text, row_text}
use Rattle.bitmap_input.proofs.Shown.{front_of, raw_of, shown_is}
use Rattle.bit_image.proofs.Pages.{IsPage-page_of, image_of-page_of, image_of-page_of_right}
use Rattle.mkbitmap.specs.Box.{Gray}
use Rattle.mkbitmap.specs.Enlarged.{is_black}
use Rattle.mkbitmap.specs.Packing.{padded}
use Rattle.mkbitmap.proofs.Order.{need-ends}
use Rattle.run_output.specs.Told.{Sinks}
use Rattle.small_program.specs.ProgramRun.{Writes}
use Rattle.mkbitmap_words.specs.declared.setup.Setup.{Setup}
use Rattle.mkbitmap_run.specs.PageHeader.{PageHeader}
use Rattle.mkbitmap_run.specs.Result.{result_head, result_page, result_row, result_rows, result_text, scan_of}
use Rattle.mkbitmap_run.specs.FilterRun.{WritesResult, rows_behind}
use Rattle.mkbitmap_run.specs.Shown.{WritesPage, filtered_page}
use Rattle.mkbitmap_run.proofs.BrokenOff.{pos_of}
use Rattle.mkbitmap_run.proofs.ResultRows.{rows_next}
use Rattle.mkbitmap_run.proofs.HeaderEndings.{header_sided}
use Rattle.mkbitmap_run.proofs.PageWork.{fits_both}

range_more : (a n : ℕ) → range_with_len a (suc n) ≡ range_with_len a n ++ (a + n) ∷ []
range_more a zero = let e : a ≡ a + 0 = omega arith in ap (λ k. k ∷ []) e
range_more a (suc n) =
    let e : (a + 1) + n ≡ a + suc n = omega arith in
    ap (λ xs. a ∷ xs) (range_more (a + 1) n ∙ ap (λ k. range_with_len (a + 1) n ++ k ∷ []) e)

range_on : (n : ℕ) → range_with_len 0 (suc n) ≡ range_with_len 0 n ++ n ∷ []
range_on n = let e : 0 + n ≡ n = omega arith in range_more 0 n ∙ ap (λ k. range_with_len 0 n ++ k ∷ []) e

module _ (setup : Setup) (page : Gray) where
  abbrev wide : ℕ
  wide = setup.times * page.width

  abbrev high : ℕ
  high = setup.times * page.height

  -- row k of the result's text, counted from the top
  abbrev row_at : ℕ → List ℕ
  row_at k = row_text wide (λ x. image_of (result_page setup page) x (high - suc k))

  pixel_is : (k x : ℕ) → k < high → image_of (result_page setup page) x (high - suc k) ≡ padded wide (λ X. is_black page setup.radius setup.times setup.level X k) x
  pixel_is k x below = elim (cases_lt x wide) [
    | inl inside ↦
        let back : high - suc (high - suc k) ≡ k = omega (arith, below) in
        image_of-page_of wide high (λ X y. is_black page setup.radius setup.times setup.level X (high - suc y)) x (high - suc k) inside (omega (arith, below))
        ∙ ap (is_black page setup.radius setup.times setup.level x) back
        ∙ ap (λ (t : Bool). t && is_black page setup.radius setup.times setup.level x k) (sym (lt-ltb x wide inside))
    | inr outside ↦
        image_of-page_of_right wide high (λ X y. is_black page setup.radius setup.times setup.level X (high - suc y)) x (high - suc k) outside
        ∙ ap (λ (t : Bool). t && is_black page setup.radius setup.times setup.level x k) (sym (le-ltb x wide outside))
  ]

  row_is : (k : ℕ) → k < high → row_at k ≡ result_row setup page k
  row_is k below = ap (row_text wide) (fun_ext (λ x. pixel_is k x below))

  module _ (some : 1 ≤ setup.times) (tall : 1 ≤ page.height) where
    rows_are : (Y : ℕ) → Y ≤ high → result_rows setup page page.height Y ≡ flat_map row_at (range_with_len 0 Y)
    rows_are zero within = refl
    rows_are (suc Y) within =
        rows_next setup page some tall page.height Y (need-ends page.height setup.radius setup.times Y some tall)
        ∙ ap (λ (l : List ℕ). l ++ result_row setup page Y) (rows_are Y (omega (arith, within)))
        ∙ ap (λ (l : List ℕ). flat_map row_at (range_with_len 0 Y) ++ l) (sym (row_is Y (omega (arith, within))) ∙ sym (append-nil (row_at Y)))
        ∙ sym (flat_map-append row_at (range_with_len 0 Y) (Y ∷ []))
        ∙ ap (flat_map row_at) (sym (range_on Y))

  -- all rows, if there are any
  all_rows : result_rows setup page page.height high ≡ flat_map row_at (range_with_len 0 high)
  all_rows = by setup.times page.height refl refl
    where
      by : (t h : ℕ) → t ≡ setup.times → h ≡ page.height → result_rows setup page page.height high ≡ flat_map row_at (range_with_len 0 high)
      by zero h no_times is =
          let none : high ≡ 0 = ap (λ (n : ℕ). n * page.height) (sym no_times) ∙ omega arith in
          ap (result_rows setup page page.height) none ∙ ap (λ (n : ℕ). flat_map row_at (range_with_len 0 n)) (sym none)
      by (suc t) zero many flat =
          let none : high ≡ 0 = ap (λ (n : ℕ). setup.times * n) (sym flat) ∙ omega arith in
          ap (result_rows setup page page.height) none ∙ ap (λ (n : ℕ). flat_map row_at (range_with_len 0 n)) (sym none)
      by (suc t) (suc h) many tall = rows_are (omega (arith, many)) (omega (arith, tall)) high (omega arith)

pub text_is : (setup : Setup) (header : PageHeader) (rows : List (List ℕ)) → length rows ≡ header.height
    → result_text setup header rows ≡ pbm_text (result_page setup (scan_of header rows))
text_is setup header rows all =
    ap (λ (n : ℕ). result_head setup header ++ result_rows setup (scan_of header rows) n (setup.times * header.height)) all
    ∙ ap (λ (l : List ℕ). result_head setup header ++ l) (all_rows setup (scan_of header rows))

-- a document that was written whole is the filtered page
pub page_is_written : (setup : Setup) (bytes : List ℕ) (old new : Sinks) → 1 ≤ setup.times → (whole : WritesResult setup bytes old new)
    → WritesPage (filtered_page setup whole.header whole.rest) old new
page_is_written setup bytes old new some whole =
    let header = whole.header in
    let page = filtered_page setup header whole.rest in
    let sides = header_sided bytes whole.head.by_end header whole.rest whole.head.head in
    let fits = fits_both _ _ _ _ whole.head.fits in
    let is_page : IsPage page =
    IsPage-page_of (setup.times * header.width) (setup.times * header.height)
    (λ X y. is_black (scan_of header (rows_behind header whole.rest)) setup.radius setup.times setup.level X (setup.times * header.height - suc y))
    (pos_of setup.times header.width some sides.some_width) fits.0 (pos_of setup.times header.height some sides.some_height) fits.1 in
    record {
      is_page = is_page;
      writes = subst (λ (l : List ℕ). Writes l old new) (text_is setup header (rows_behind header whole.rest) whole.all) whole.writes;
      raw = raw_of page;
      found = front_of page is_page;
      shown = λ level. shown_is level page is_page;
    }

-- The document: the rows of the result for which a number of rows of the page suffice.
use Rattle.std.specs.Prelude.{ℕ, zero, suc, ◌*◌, ◌-◌, if◌then◌else◌, List, [], ◌++◌, length, nat_lt}
use Rattle.bit_image.specs.Page.{Page, page_of}
use Rattle.bit_image.specs.PbmText.{pbm_head, row_text}
use Rattle.mkbitmap_run.specs.PageHeader.{PageHeader}
use Rattle.mkbitmap.specs.Box.{Gray, gray_of}
use Rattle.mkbitmap.specs.Enlarged.{is_black, need}
use Rattle.mkbitmap.specs.Packing.{padded}
use Rattle.mkbitmap_words.specs.declared.setup.Setup.{Setup}

-- the page with this header and these rows from the top; a sample above white counts as white
abbrev pub scan_of : PageHeader → List (List ℕ) → Gray
scan_of header rows = gray_of header.width header.height header.maxval rows

-- row Y of the result, packed
abbrev pub result_row : Setup → Gray → ℕ → List ℕ
result_row setup page Y =
    row_text (setup.times * page.width)
    (padded (setup.times * page.width) (λ X. is_black page setup.radius setup.times setup.level X Y))

-- the rows of the result above row Y for which the first n rows of the page suffice
abbrev pub result_rows : Setup → Gray → ℕ → ℕ → List ℕ
result_rows setup page n zero = []
result_rows setup page n (suc Y) =
    result_rows setup page n Y ++ (if nat_lt (need page.height setup.radius setup.times Y) n then result_row setup page Y else [])

-- the beginning of the document
abbrev pub result_head : Setup → PageHeader → List ℕ
result_head setup header = pbm_head (setup.times * header.width) (setup.times * header.height)

-- the document with all rows of the result for which these first rows of the page suffice
abbrev pub result_text : Setup → PageHeader → List (List ℕ) → List ℕ
result_text setup header rows =
    result_head setup header ++ result_rows setup (scan_of header rows) (length rows) (setup.times * header.height)

-- the result as a page, with row 0 at the bottom
abbrev pub result_page : Setup → Gray → Page
result_page setup page =
    page_of (setup.times * page.width) (setup.times * page.height)
    (λ X y. is_black page setup.radius setup.times setup.level X (setup.times * page.height - suc y))

-- The pages of the demo: 40 rectangles and then 4 slanted bars on a white page. Each rectangle and each bar inverts its
-- pixels.
use Rattle.std.specs.Prelude.{ℕ, zero, suc, ◌+◌, ◌-◌, ◌*◌, ◌/◌, ◌%◌, Bool, ◌&&◌, List, [], ◌∷◌}
use Rattle.bit_image.specs.Image.{Image, differ, white, within}
use Rattle.bit_image.specs.Page.{Page, page_of}
use Rattle.demo_pages.specs.declared.bar.Bar.{Bar}
use Rattle.demo_pages.specs.declared.rectangle.Rectangle.{Rectangle}
use Rattle.demo_pages.specs.Generator.{number_at, state_after}

-- pixel (u, v) lies in the rectangle
abbrev pub is_in_rectangle : Rectangle → ℕ → ℕ → Bool
is_in_rectangle r u v = within r.left (r.left + r.width) u && within r.bottom (r.bottom + r.height) v

-- pixel (u, v) lies in the bar: in one of its 64 columns, and in one of the bar's 6 rows there
abbrev pub is_in_bar : Bar → ℕ → ℕ → Bool
is_in_bar bar u v =
    let low = bar.bottom + (u - bar.left) / bar.run in
    within bar.left (bar.left + 64) u && within low (low + 6) v

-- the image with the pixels of an area inverted
abbrev pub inverted_area : Image → (ℕ → ℕ → Bool) → Image
inverted_area b area u v = differ (b u v) (area u v)

-- the rectangle that is made from the next four numbers of a state
abbrev pub rectangle_at : ℕ → Rectangle
rectangle_at state = record {
  left = number_at state % 240;
  bottom = number_at (state_after 1 state) % 176;
  width = 1 + number_at (state_after 2 state) % 16;
  height = 1 + number_at (state_after 3 state) % 16;
}

-- the bar that is made from the next three numbers of a state
abbrev pub bar_at : ℕ → Bar
bar_at state = record {
  left = number_at state % 128;
  bottom = number_at (state_after 1 state) % 96;
  run = 1 + number_at (state_after 2 state) % 5;
}

-- an image after the first n rectangles have inverted their pixels
unfoldable pub with_rectangles : ℕ → ℕ → Image → Image
with_rectangles zero state b = b
with_rectangles (suc n) state b = inverted_area (with_rectangles n state b) (is_in_rectangle (rectangle_at (state_after (4 * n) state)))

-- an image after the first n bars have inverted their pixels
unfoldable pub with_bars : ℕ → ℕ → Image → Image
with_bars zero state b = b
with_bars (suc n) state b = inverted_area (with_bars n state b) (is_in_bar (bar_at (state_after (3 * n) state)))

-- the image of a page: first the rectangles, then the bars
abbrev pub demo_image : ℕ → Image
demo_image state = with_bars 4 (state_after (4 * 40) state) (with_rectangles 40 state white)

-- the page that is made from a state, with 256 columns and 192 rows
abbrev pub picture_page : ℕ → Page
picture_page state = page_of 256 192 (demo_image state)

-- n pages; each one needs 172 draws, and the next one is made from the state after them
unfoldable pub pages_from : ℕ → ℕ → List Page
pages_from zero state = []
pages_from (suc n) state = picture_page state ∷ pages_from n (state_after 172 state)

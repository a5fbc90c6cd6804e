-- The rows of a BMP picture, written from the top or from the bottom, give the page that the picture shows.
use Rattle.std.proofs.Common.{◌≡◌, refl, ℕ, zero, suc, ◌+◌, ◌-◌, ◌≤◌, ◌<◌, inl, inr, Bool, true, false, List, [], ◌∷◌, ◌++◌, ◌*◌, length, map, reverse, get_or, arith, ap, sym, ◌∙◌, subst, Option, Ok, Err}
use Rattle.std.specs.Prelude.{nat_lt, if◌then◌else◌}
use Rattle.std.proofs.Math.Path.{fun_ext}
use Rattle.std.proofs.Math.ListN.{get_or-map}
use Rattle.std.proofs.lemmas.List.{get_or-reverse, length-map}
use Rattle.std.proofs.lemmas.Bool.{lt-ltb, le-ltb, cases_lt}
use Rattle.pt_core.specs.Files.{Files}
use Rattle.bit_image.specs.Image.{Image, IsWhite}
use Rattle.bit_image.specs.Page.{Page as Pixels, SameSides, image_of, page_of}
use Rattle.bitmap_input.specs.declared.stop.Stop.{Stop}
use Rattle.bitmap_input.specs.declared.bmp.layout.Header.{Header}
use Rattle.bitmap_input.specs.Cut.{Cut, ◌>>=◌}
use Rattle.bitmap_input.specs.Cut.Cut.{Takes}
use Rattle.bitmap_input.specs.PageParts.{repeated}
use Rattle.bitmap_input.specs.Raw.{Raw, Entry, black, picture_of, shown, IsShown}
use Rattle.bitmap_input.specs.BmpHeader.{file_size}
use Rattle.bitmap_input.specs.Inner.BmpHeader.{rows_end}
use Rattle.bitmap_input.specs.Bmp.{header}
use Rattle.bitmap_input.specs.Front.Magic.{Picture}
use Rattle.bitmap_input.specs.Inner.Behind.{IsRead, counted_body}
use Rattle.bitmap_input.specs.BmpRaster.{color_row, raster}
use Rattle.bitmap_input.specs.Inner.BmpHead.{IsHeader, bits_in, row_place, row_bytes_by, picture_by, pixels_by, raster_by}
use Rattle.bitmap_input.specs.Inner.Raster.{with_row, with_placed}
use Rattle.bitmap_input.specs.Reading.{Buffered}
use Rattle.bitmap_input.specs.Inner.Reading.{Reads}
use Rattle.bitmap_input.proofs.PaintedRows.{with_pixels-other}
use Rattle.bitmap_input.proofs.RasterPages.{row_at, reads_counted}
use Rattle.bitmap_input.proofs.ComposedSteps.{reads_made, reads_stop, reads_on, reads_as}
use Rattle.bitmap_input.proofs.BmpStays.{header_stays}
use Rattle.bitmap_input.proofs.BmpLengths.{cuts_raster, bmp_counted}

-- a row in which nothing is placed stays the same
placed_other : (place : ℕ → ℕ) (b : Image) (i u v : ℕ) (rows : List (List Bool)) → ((j : ℕ) → j < length rows → place (i + j) ≡ v → ⊥) →
    with_placed place b i rows u v ≡ b u v
placed_other place b i u v [] other = refl
placed_other place b i u v (r ∷ rs) other =
    let here : place i ≡ v → ⊥ = λ at. other 0 (omega arith) (ap place (let n : i + 0 ≡ i = omega arith in n) ∙ at) in
    placed_other place (with_row b (place i) r) (suc i) u v rs
    (λ j less at. other (suc j) (omega arith) (ap place (let n : i + suc j ≡ suc i + j = omega arith in n) ∙ at)) ∙
    with_pixels-other b (place i) 0 u v r (λ e _ _. here e)

-- a row of the picture, if each has its own row of the page
placed_at : (place : ℕ → ℕ) (b : Image) (i k u : ℕ) (rows : List (List Bool)) → k < length rows →
    ((j : ℕ) → j < length rows → place (i + j) ≡ place (i + k) → j ≡ k) → b u (place (i + k)) ≡ false →
    with_placed place b i rows u (place (i + k)) ≡ get_or (get_or rows k []) u false
placed_at place b i k u [] within own maxval = absurd (omega arith)
placed_at place b i zero u (r ∷ rs) within own maxval =
    let n : i + 0 ≡ i = omega arith in
    let white_here : b u (place i) ≡ false = subst (λ m. b u (place m) ≡ false) n maxval in
    subst (λ m. with_placed place (with_row b (place i) r) (suc i) rs u (place m) ≡ get_or r u false) (sym n)
    (placed_other place (with_row b (place i) r) (suc i) u (place i) rs
    (λ j less at. let same : suc j ≡ 0 = own (suc j) (omega arith) (ap place (let m : i + suc j ≡ suc i + j = omega arith in m) ∙ at ∙ ap place (sym n)) in absurd (omega arith)) ∙
    row_at b (place i) u r white_here)
placed_at place b i (suc k) u (r ∷ rs) within own maxval =
    let n : i + suc k ≡ suc i + k = omega arith in
    let apart : place i ≡ place (suc i + k) → ⊥
    = λ at. (let same : 0 ≡ suc k = own 0 (omega arith) (ap place (let m : i + 0 ≡ i = omega arith in m) ∙ at ∙ ap place (sym n)) in absurd (omega arith)) in
    let white_still : with_row b (place i) r u (place (suc i + k)) ≡ false
    = with_pixels-other b (place i) 0 u (place (suc i + k)) r (λ e _ _. apart e) ∙ subst (λ m. b u (place m) ≡ false) n maxval in
    subst (λ m. with_placed place (with_row b (place i) r) (suc i) rs u (place m) ≡ get_or (get_or rs k []) u false) (sym n)
    (placed_at place (with_row b (place i) r) (suc i) k u rs (omega arith)
    (λ j less at. let same : suc j ≡ suc k = own (suc j) (omega arith) (ap place (let m : i + suc j ≡ suc i + j = omega arith in m) ∙ at ∙ ap place (sym n)) in omega arith)
    white_still)

module _ (level : ℕ) (invert : Bool) (b : Image) (u v : ℕ) (rows : List (List Entry)) (maxval : IsWhite b) where
  -- the rows as pixels
  abbrev pixels : List (List Bool)
  pixels = map (map (black level invert)) rows

  count : length pixels ≡ length rows
  count = length-map rows (map (black level invert))

  row_pixels : (k : ℕ) → get_or pixels k [] ≡ map (black level invert) (get_or rows k [])
  row_pixels k = get_or-map (map (black level invert)) rows k []

  -- rows from the top down
  falling_at : (h : ℕ) → length rows ≡ h → v < h →
      with_placed (row_place true h) b 0 pixels u v ≡ get_or (map (black level invert) (get_or rows (h - suc v) [])) u false
  falling_at h len within =
      let at : row_place true h (0 + (h - suc v)) ≡ v = omega arith in
      let row = placed_at (row_place true h) b 0 (h - suc v) u pixels (omega (arith, count))
      (λ j less same. omega (arith, count)) (maxval u (row_place true h (0 + (h - suc v)))) in
      subst (λ m. with_placed (row_place true h) b 0 pixels u m ≡ get_or (get_or pixels (h - suc v) []) u false) at row ∙
      ap (λ (r : List Bool). get_or r u false) (row_pixels (h - suc v))

  -- rows from the bottom up
  rising_at : (h : ℕ) → length rows ≡ h → v < h →
      with_placed (row_place false h) b 0 pixels u v ≡ get_or (map (black level invert) (get_or (reverse rows) (h - suc v) [])) u false
  rising_at h len within =
      let at : row_place false h (0 + v) ≡ v = omega arith in
      let row = placed_at (row_place false h) b 0 v u pixels (omega (arith, count))
      (λ j less same. omega arith) (maxval u (row_place false h (0 + v))) in
      let less : h - suc v < length rows = omega arith in
      let turned : get_or (reverse rows) (h - suc v) [] ≡ get_or rows (length rows - 1 - (h - suc v)) [] = get_or-reverse rows (h - suc v) [] less in
      let number : length rows - 1 - (h - suc v) ≡ v = omega arith in
      let same : get_or (reverse rows) (h - suc v) [] ≡ get_or rows v [] = turned ∙ ap (λ k. get_or rows k []) number in
      subst (λ m. with_placed (row_place false h) b 0 pixels u m ≡ get_or (get_or pixels v []) u false) at row ∙
      ap (λ (r : List Bool). get_or r u false) (row_pixels v ∙ ap (map (black level invert)) (sym same))

  inside_at : (top_down : Bool) (h : ℕ) → length rows ≡ h → v < h →
      with_placed (row_place top_down h) b 0 pixels u v
      ≡ get_or (map (black level invert) (get_or (if top_down then rows else reverse rows) (h - suc v) [])) u false
  inside_at true h len within = falling_at h len within
  inside_at false h len within = rising_at h len within

  outside_at : (top_down : Bool) (h : ℕ) → length rows ≡ h → h ≤ v → with_placed (row_place top_down h) b 0 pixels u v ≡ b u v
  outside_at true h len above = placed_other (row_place true h) b 0 u v pixels (λ j less at. omega (arith, count))
  outside_at false h len above = placed_other (row_place false h) b 0 u v pixels (λ j less at. omega (arith, count))

-- the picture's rows on a white page
picture_at : (level : ℕ) (invert : Bool) (h : Header) (b : Image) (u v : ℕ) (rows : List (List Entry)) → IsWhite b → length rows ≡ h.sides.height →
    with_placed (row_place h.top_down h.sides.height) b 0 (map (map (black level invert)) rows) u v ≡ picture_of level invert (picture_by h rows) u v
picture_at level invert h b u v rows maxval len = elim (cases_lt v h.sides.height) [
  | inl within ↦
      let test : nat_lt v h.sides.height ≡ true = lt-ltb v h.sides.height within in
      rw test (inside_at level invert b u v rows maxval h.top_down h.sides.height len within)
  | inr above ↦
      let test : nat_lt v h.sides.height ≡ false = le-ltb v h.sides.height above in
      rw test (outside_at level invert b u v rows maxval h.top_down h.sides.height len above ∙ maxval u v)
]

-- the page that was written
shown_picture : (level : ℕ) (invert : Bool) (h : Header) (q : Pixels) (b : Image) (rows : List (List Entry)) → q ≡ page_of q.width q.height (image_of q) →
    q.width ≡ h.sides.width → q.height ≡ h.sides.height → IsWhite b → length rows ≡ h.sides.height →
    image_of q ≡ with_placed (row_place h.top_down h.sides.height) b 0 (map (map (black level invert)) rows) → q ≡ shown level invert (picture_by h rows)
shown_picture level invert h q b rows whole wide high maxval len painted =
    let image : image_of q ≡ picture_of level invert (picture_by h rows)
    = painted ∙ fun_ext (λ u. fun_ext (λ v. picture_at level invert h b u v rows maxval len)) in
    whole ∙ ap (λ w. page_of w q.height (image_of q)) wide ∙ ap (λ n. page_of h.sides.width n (image_of q)) high ∙ ap (page_of h.sides.width h.sides.height) image

module _ {mid new : Buffered} {fmid now : Option Files} (level : ℕ) (invert : Bool) (h : Header) (color : ℕ → Entry) (p q : Pixels) (wide : p.width ≡ h.sides.width) (high : p.height ≡ h.sides.height) where
  -- the rows were read
  pub picture_shown : IsWhite (image_of p) → SameSides p q → q ≡ page_of q.width q.height (image_of q) →
      Reads (λ _ rows. image_of q ≡ with_placed (row_place h.top_down p.height) (image_of p) 0 (map (map (black level invert)) rows))
      (repeated (color_row (row_bytes_by h) (bits_in h.depth) color p.width) p.height) mid fmid (Ok (tt {0})) new now →
      Reads (IsShown level invert) (pixels_by h color) mid fmid (Ok q) new now
  unfolding image_of
  picture_shown maxval sides whole r =
      let read = rw (wide, high) at r in
      reads_made {js = IsShown level invert} (picture_by h) q
      (λ rows counted. shown_picture level invert h q (image_of p) rows whole (sides.width ∙ wide) (sides.height ∙ high) maxval counted.1 counted.0)
      (reads_counted (color_row (row_bytes_by h) (bits_in h.depth) color h.sides.width) h.sides.height read)

  -- a row couldn't be read
  pub picture_stopped : (stop : Stop) →
      Reads {X = Unit {0}} (λ _ rows. image_of q ≡ with_placed (row_place h.top_down p.height) (image_of p) 0 (map (map (black level invert)) rows))
      (repeated (color_row (row_bytes_by h) (bits_in h.depth) color p.width) p.height) mid fmid (Err stop) new now →
      Reads (IsShown level invert) (pixels_by h color) mid fmid (Err stop) new now
  unfolding image_of
  picture_stopped stop r =
      let read = rw (wide, high) at r in reads_stop {js = IsShown level invert} (λ rows rest. Takes false (picture_by h rows) rest) read

-- what follows a header is what the program reads by its description of the header
pub raster_is : (h : Header) (head : List ℕ) → IsHeader h head → (bytes : List ℕ) → raster head bytes ≡ raster_by h bytes
raster_is h head is bytes =
    rw (is.before_pixels, is.palette_length, is.color_bytes, is.width, is.height, is.top_down, is.depth, is.file_size) refl

-- The header, what follows it, and what the picture claims.

-- if all values of a part meet P, so does the value of a step
reads_with : {A X : Type 0} {is : X → A → Type 0} {part : List ℕ → Cut A} {x : X} {old mid : Buffered} {files fmid : Option Files} (P : A → Type 0) →
    ((bytes : List ℕ) (e : Bool) (a : A) (rest : List ℕ) → part bytes ≡ Takes e a rest → P a) → Reads is part old files (Ok x) mid fmid →
    Reads (λ x a. is x a × P a) part old files (Ok x) mid fmid
reads_with {old = old} {mid = mid} P meets r =
    let (e, a, same, takes, settled) = r.gives in
    record { more = r.more; moves = r.moves; needed = r.needed; gives = (e, a, (same, meets (old.bytes ++ r.more) e a mid.bytes takes), takes, settled) }

-- the picture as its header and what follows
abbrev bmp_parts : List ℕ → Cut (Raw × ℕ)
bmp_parts bytes = header bytes >>= λ head rest. raster head rest >>= λ raw rest. Takes false (raw, rows_end head - 2) rest

claim : (behind least size offset rows n : ℕ) → behind ≡ size - (offset + rows) → least ≡ size → n ≡ offset + rows → 2 ≤ offset → behind ≡ least - (2 + (n - 2))
claim behind least size offset rows n is same whole some = omega arith

rows_end_is : (h : Header) (head : List ℕ) → IsHeader h head → rows_end head ≡ h.pixel_offset + h.sides.height * row_bytes_by h
rows_end_is h head is = rw (is.pixel_offset, is.width, is.height, is.depth) refl

module _ {old mid new : Buffered} {files fmid now : Option Files} (level : ℕ) (invert : Bool) where
  pub bmp_read : (h : Header) (page : Pixels) (behind : ℕ) → 2 ≤ h.pixel_offset → Reads IsHeader header old files (Ok h) mid fmid →
      Reads (IsShown level invert) (raster_by h) mid fmid (Ok page) new now → behind ≡ h.file_size - (h.pixel_offset + h.sides.height * row_bytes_by h) →
      Reads (IsRead level invert) (counted_body Picture) old files (Ok (record { page = page; behind = behind })) new now
  bmp_read h page behind some first second is =
      reads_as (λ more. sym (bmp_counted (old.bytes ++ more)))
      (reads_on {js = IsRead level invert} header_stays first (λ head is_header.
      reads_made {js = IsRead level invert} (λ raw. (raw, rows_end head - 2)) (record { page = page; behind = behind })
      (λ raw shown. (shown.0, claim behind raw.least_length h.file_size h.pixel_offset (h.sides.height * row_bytes_by h) (rows_end head) is (shown.1 ∙ is_header.file_size) (rows_end_is h head is_header) some))
      (reads_with {is = IsShown level invert} {part = raster head} (λ raw. raw.least_length ≡ file_size head) (λ bytes e raw rest takes. (cuts_raster head bytes e raw rest takes).0)
      (reads_as (λ more. raster_is h head is_header (mid.bytes ++ more)) second))))

  pub bmp_stopped : (h : Header) (stop : Stop) → Reads IsHeader header old files (Ok h) mid fmid →
      Reads (IsShown level invert) (raster_by h) mid fmid (Err stop) new now →
      Reads (IsRead level invert) (counted_body Picture) old files (Err stop) new now
  bmp_stopped h stop first second =
      reads_as (λ more. sym (bmp_counted (old.bytes ++ more)))
      (reads_on {js = IsRead level invert} header_stays first (λ head is_header.
      reads_stop {js = IsRead level invert} (λ raw rest. Takes false (raw, rows_end head - 2) rest)
      (reads_as {is = IsShown level invert} {part = raster head} (λ more. raster_is h head is_header (mid.bytes ++ more)) second)))

pub header_stopped : {old new : Buffered} {files now : Option Files} (level : ℕ) (invert : Bool) (stop : Stop) → Reads IsHeader header old files (Err stop) new now →
    Reads (IsRead level invert) (counted_body Picture) old files (Err stop) new now
header_stopped {old = old} level invert stop first =
    reads_as (λ more. sym (bmp_counted (old.bytes ++ more)))
    (reads_stop {js = IsRead level invert} (λ head rest. raster head rest >>= λ raw rest. Takes false (raw, rows_end head - 2) rest) first)

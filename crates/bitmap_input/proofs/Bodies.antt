-- Reading the rows after a header into a page with its sides gives the page that the raw page shows.
use Rattle.std.proofs.Common.{◌≡◌, ℕ, List, map, sym, subst, Bool, false, Option, Result, Ok, Err}
use Rattle.pt_core.specs.Files.{Files}
use Rattle.bit_image.specs.Image.{IsWhite}
use Rattle.bit_image.specs.Page.{Page as Pixels, SameSides, image_of, page_of}
use Rattle.bitmap_input.specs.declared.stop.Stop.{Stop}
use Rattle.bitmap_input.specs.declared.sides.Sides.{Sides}
use Rattle.bitmap_input.specs.Inner.Header.{IsSides}
use Rattle.bitmap_input.specs.Cut.{Cut}
use Rattle.bitmap_input.specs.Cut.Cut.{Takes}
use Rattle.bitmap_input.specs.PageParts.{repeated}
use Rattle.bitmap_input.specs.Raw.{Entry, entries_page, black, IsShown}
use Rattle.bitmap_input.specs.Front.{rows_raster}
use Rattle.bitmap_input.specs.Inner.Raster.{with_rows}
use Rattle.bitmap_input.specs.Reading.{Buffered}
use Rattle.bitmap_input.specs.Inner.Reading.{Reads}
use Rattle.bitmap_input.specs.declared.raster.Raster.{Raster}
use Rattle.bitmap_input.specs.declared.raster.Raster.TheVariants.{PlainBits, RawBits, PlainSamples, RawSamples}
use Rattle.bitmap_input.specs.Front.{plain_pixel}
use Rattle.bitmap_input.specs.Samples.{plain_samples}
use Rattle.bitmap_input.specs.Inner.Stored.{row_stored}
use Rattle.bitmap_input.proofs.AddedBytes.{Stays, times_stay, plain_pixel_stays, raw_row_stays, plain_samples_stay, raw_samples_row_stays}
use Rattle.bitmap_input.proofs.ComposedSteps.{reads_made, reads_stop}
use Rattle.bitmap_input.proofs.RasterPages.{shown_rows, reads_counted}

module _ {A : Type 0} {mid new : Buffered} {fmid now : Option Files} (level : ℕ) (invert : Bool) (entry : A → Entry) (f : A → Bool) (row : ℕ → List ℕ → Cut (List A)) (p : Pixels) (s : Sides) (wide : p.width ≡ s.width) (high : p.height ≡ s.height) where
  -- the page was read
  pub rows_shown : (q : Pixels) → ((a : A) → black level invert (entry a) ≡ f a) → IsWhite (image_of p) → SameSides p q →
      q ≡ page_of q.width q.height (image_of q) →
      Reads (λ _ rows. image_of q ≡ with_rows (image_of p) p.height (map (map f) rows)) (repeated (row p.width) p.height) mid fmid (Ok (tt {0})) new now →
      Reads (IsShown level invert) (rows_raster entry (row s.width) s.width s.height) mid fmid (Ok q) new now
  rows_shown q means white sides whole r =
      let at_page = reads_made {js = IsShown level invert} (entries_page entry p.width p.height) q
      (λ rows counted. shown_rows level invert entry f means q (image_of p) p.width p.height rows whole sides.width sides.height white counted.1 counted.0)
      (reads_counted (row p.width) p.height r) in
      let at_width = subst (λ w. Reads (IsShown level invert) (rows_raster entry (row w) w p.height) mid fmid (Ok q) new now) wide at_page in
      subst (λ h. Reads (IsShown level invert) (rows_raster entry (row s.width) s.width h) mid fmid (Ok q) new now) high at_width

  -- a row couldn't be read
  pub rows_stopped : (q : Pixels) (stop : Stop) →
      Reads {X = Unit {0}} (λ _ rows. image_of q ≡ with_rows (image_of p) p.height (map (map f) rows)) (repeated (row p.width) p.height) mid fmid (Err stop) new now →
      Reads (IsShown level invert) (rows_raster entry (row s.width) s.width s.height) mid fmid (Err stop) new now
  rows_stopped q stop r =
      let at_page = reads_stop {js = IsShown level invert} (λ rows rest. Takes false (entries_page entry p.width p.height rows) rest) r in
      let at_width = subst (λ w. Reads (IsShown level invert) (rows_raster entry (row w) w p.height) mid fmid (Err stop) new now) wide at_page in
      subst (λ h. Reads (IsShown level invert) (rows_raster entry (row s.width) s.width h) mid fmid (Err stop) new now) high at_width

-- the sides of the page are those in the header
pub rows_at : {A : Type 0} {mid new : Buffered} {fmid now : Option Files} {result : Result Pixels Stop} (level : ℕ) (invert : Bool) (entry : A → Entry) (row : ℕ → List ℕ → Cut (List A)) (s : Sides) (a : ℕ × ℕ) → IsSides s a →
    Reads (IsShown level invert) (rows_raster entry (row s.width) s.width s.height) mid fmid result new now →
    Reads (IsShown level invert) (rows_raster entry (row a.0) a.0 a.1) mid fmid result new now
rows_at {mid = mid} {new = new} {fmid = fmid} {now = now} {result = result} level invert entry row s a is r =
    let at_width = subst (λ w. Reads (IsShown level invert) (rows_raster entry (row w) w s.height) mid fmid result new now) (sym is.0) r in
    subst (λ h. Reads (IsShown level invert) (rows_raster entry (row a.0) a.0 h) mid fmid result new now) (sym is.1) at_width

-- a row stays the same when bytes are added
pub row_stays : (r : Raster) (width : ℕ) → Stays (row_stored r width)
row_stays (PlainBits invert) width = times_stay plain_pixel plain_pixel_stays width
row_stays (RawBits invert) width = raw_row_stays width
row_stays (PlainSamples s) width = times_stay (plain_samples s.channels) (plain_samples_stay s.channels) width
row_stays (RawSamples s) width = raw_samples_row_stays s.channels s.maxval width

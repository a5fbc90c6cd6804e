-- The rows of a raster, written to a white page, give the page that the raw page shows.
use Rattle.std.proofs.Common.{◌≡◌, refl, ℕ, zero, suc, ◌-◌, ◌≤◌, ◌<◌, inl, inr, Bool, true, false, List, [], ◌∷◌, ◌++◌, length, map, get_or, arith, ap, sym, ◌∙◌, Option, Result, Ok, Err}
use Rattle.std.specs.Prelude.{nat_lt}
use Rattle.std.proofs.Math.Path.{fun_ext}
use Rattle.std.proofs.Math.ListN.{get_or-map}
use Rattle.std.proofs.lemmas.List.{get_or_past, length-map}
use Rattle.std.proofs.lemmas.Bool.{lt-ltb, le-ltb, cases_lt}
use Rattle.pt_core.specs.Files.{Files}
use Rattle.bit_image.specs.Image.{Image, IsWhite}
use Rattle.bit_image.specs.Page.{Page as Pixels, image_of, page_of}
use Rattle.bitmap_input.specs.declared.stop.Stop.{Stop}
use Rattle.bitmap_input.specs.Cut.{Cut, after, ◌>>=◌}
use Rattle.bitmap_input.specs.Cut.Cut.{Takes, Stops}
use Rattle.bitmap_input.specs.PageParts.{repeated}
use Rattle.bitmap_input.specs.Raw.{Entry, entries_page, black, picture_of, shown}
use Rattle.bitmap_input.specs.Inner.Raster.{with_row, with_rows}
use Rattle.bitmap_input.specs.Reading.{Buffered}
use Rattle.bitmap_input.specs.Inner.Reading.{Reads}
use Rattle.bitmap_input.proofs.PaintedRows.{with_pixels-at, with_pixels-other}

-- nothing is written above the rows
rows_above : (b : Image) (h u v : ℕ) (rows : List (List Bool)) → h ≤ v → with_rows b h rows u v ≡ b u v
rows_above b zero u v [] above = refl
rows_above b (suc y) u v [] above = refl
rows_above b zero u v (r ∷ rs) above = refl
rows_above b (suc y) u v (r ∷ rs) above =
    rows_above (with_row b y r) y u v rs (omega arith) ∙ with_pixels-other b y 0 u v r (λ e _ _. omega arith)

-- a row written to a white row
pub row_at : (b : Image) (y u : ℕ) (r : List Bool) → b u y ≡ false → with_row b y r u y ≡ get_or r u false
row_at b y u r maxval = elim (cases_lt u (length r)) [
  | inl h ↦ with_pixels-at b y 0 u u r (omega arith) h
  | inr h ↦ with_pixels-other b y 0 u y r (λ _ _ g. omega arith) ∙ maxval ∙ sym (get_or_past r u false h)
]

-- the rows from the top down
rows_at : (b : Image) (h u v : ℕ) (rows : List (List Bool)) → ((u v : ℕ) → v < h → b u v ≡ false) → length rows ≡ h → v < h →
    with_rows b h rows u v ≡ get_or (get_or rows (h - suc v) []) u false
rows_at b zero u v rows maxval len within = absurd (omega arith)
rows_at b (suc y) u v [] maxval len within = absurd (omega arith)
rows_at b (suc y) u v (r ∷ rs) maxval len within = elim (cases_lt v y) [
  | inl h ↦
      let n : suc y - suc v ≡ suc (y - suc v) = omega arith in
      rw n (rows_at (with_row b y r) y u v rs
      (λ u v below. with_pixels-other b y 0 u v r (λ e _ _. omega arith) ∙ maxval u v (omega arith)) (omega arith) h)
  | inr h ↦
      let e : v ≡ y = omega arith in
      let n : suc y - suc v ≡ 0 = omega arith in
      rw n (rows_above (with_row b y r) y u v rs h ∙ ap (with_row b y r u) e ∙ row_at b y u r (maxval u y (omega arith)))
]

module _ {A : Type 0} (level : ℕ) (invert : Bool) (entry : A → Entry) (f : A → Bool) (is : (a : A) → black level invert (entry a) ≡ f a) where
  -- the pixels of a row of values, each of them an entry
  black-entries : (row : List A) → map (black level invert) (map entry row) ≡ map f row
  black-entries [] = refl
  black-entries (a ∷ row) = ap (λ p. p ∷ map (black level invert) (map entry row)) (is a) ∙ ap (λ ps. f a ∷ ps) (black-entries row)

  picture_at : (b : Image) (w h u v : ℕ) (rows : List (List A)) → IsWhite b → length rows ≡ h →
      with_rows b h (map (map f) rows) u v ≡ picture_of level invert (entries_page entry w h rows) u v
  picture_at b w h u v rows maxval len = elim (cases_lt v h) [
    | inl within ↦
        let test : nat_lt v h ≡ true = lt-ltb v h within in
        let entries : get_or (map (map entry) rows) (h - suc v) [] ≡ map entry (get_or rows (h - suc v) [])
        = get_or-map (map entry) rows (h - suc v) [] in
        let row : get_or (map (map f) rows) (h - suc v) [] ≡ map f (get_or rows (h - suc v) [])
        = get_or-map (map f) rows (h - suc v) [] in
        let many : length (map (map f) rows) ≡ h = length-map rows (map f) ∙ len in
        rw (test, entries, black-entries) (rows_at b h u v (map (map f) rows) (λ u v _. maxval u v) many within ∙ ap (λ (r : List Bool). get_or r u false) row)
    | inr above ↦
        let test : nat_lt v h ≡ false = le-ltb v h above in
        rw test (rows_above b h u v (map (map f) rows) above ∙ maxval u v)
  ]

  -- the page that was written
  pub shown_rows : (p : Pixels) (b : Image) (w h : ℕ) (rows : List (List A)) → p ≡ page_of p.width p.height (image_of p) →
      p.width ≡ w → p.height ≡ h → IsWhite b → length rows ≡ h → image_of p ≡ with_rows b h (map (map f) rows) →
      p ≡ shown level invert (entries_page entry w h rows)
  shown_rows p b w h rows whole width height maxval len painted =
      let image : image_of p ≡ picture_of level invert (entries_page entry w h rows)
      = painted ∙ fun_ext (λ u. fun_ext (λ v. picture_at b w h u v rows maxval len)) in
      whole ∙ ap (λ w. page_of w p.height (image_of p)) width ∙ ap (λ h. page_of w h (image_of p)) height ∙ ap (page_of w h) image

-- A part that is read n times has n values.

pub after_takes : {A : Type 0} (d e : Bool) (c : Cut A) (x : A) (rest : List ℕ) → after d c ≡ Takes e x rest →
    (f : Bool) × (c ≡ Takes f x rest)
after_takes d e (Takes f y r) x rest h = (f, cc)
after_takes d e (Stops f ending) x rest h = cc

length_bind : {A B : Type 0} (c : Cut A) (f : A → List ℕ → Cut (List B)) (n : ℕ) (e : Bool) (ys : List B) (rest : List ℕ) →
    ((a : A) (bs : List ℕ) (e : Bool) (xs : List B) (rest : List ℕ) → f a bs ≡ Takes e xs rest → length xs ≡ n) →
    (c >>= f) ≡ Takes e ys rest → length ys ≡ n
length_bind (Takes d a bs) f n e ys rest each h =
    let p = after_takes d e (f a bs) ys rest h in each a bs p.0 ys rest p.1
length_bind (Stops d ending) f n e ys rest each h = cc

length_one : {A : Type 0} (x : A) (xs ys : List A) (bs rest : List ℕ) (n : ℕ) (e : Bool) → length xs ≡ n →
    Takes false (x ∷ xs) bs ≡ Takes e ys rest → length ys ≡ suc n
length_one x xs ys bs rest n e len h =
    let same : x ∷ xs ≡ ys = cc in ap length (sym same) ∙ ap suc len

takes_length : {A : Type 0} (x : A) (c : Cut (List A)) (n : ℕ) →
    ((e : Bool) (xs : List A) (rest : List ℕ) → c ≡ Takes e xs rest → length xs ≡ n) →
    (e : Bool) (ys : List A) (rest : List ℕ) → (c >>= λ xs rest. Takes false (x ∷ xs) rest) ≡ Takes e ys rest → length ys ≡ suc n
takes_length x (Takes d xs bs) n len e ys rest h =
    let p = after_takes d e (Takes false (x ∷ xs) bs) ys rest h in length_one x xs ys bs rest n p.0 (len d xs bs refl) p.1
takes_length x (Stops d ending) n len e ys rest h = cc

pub times_length : {A : Type 0} (part : List ℕ → Cut A) (n : ℕ) (bytes : List ℕ) (e : Bool) (xs : List A) (rest : List ℕ) →
    repeated part n bytes ≡ Takes e xs rest → length xs ≡ n
times_length part zero bytes e xs rest h = let same : [] ≡ xs = cc in ap length (sym same)
times_length part (suc n) bytes e xs rest h =
    length_bind (part bytes) (λ x rest. repeated part n rest >>= λ xs rest. Takes false (x ∷ xs) rest) (suc n) e xs rest
    (λ x bs. takes_length x (repeated part n bs) n (times_length part n bs)) h

pub reads_counted : {A X : Type 0} {is : X → List A → Type 0} {old new : Buffered} {files now : Option Files}
    {result : Result X Stop} (part : List ℕ → Cut A) (n : ℕ) → Reads is (repeated part n) old files result new now →
    Reads (λ x xs. is x xs × (length xs ≡ n)) (repeated part n) old files result new now
reads_counted {old = old} {new = new} {result = Ok x} part n r =
    let (e, xs, same, takes, settled) = r.gives in
    record {
      more = r.more;
      moves = r.moves;
      needed = r.needed;
      gives = (e, xs, (same, times_length part n (old.bytes ++ r.more) e xs new.bytes takes), takes, settled);
    }
reads_counted {result = Err s} part n r = record { more = r.more; moves = r.moves; needed = r.needed; gives = r.gives }

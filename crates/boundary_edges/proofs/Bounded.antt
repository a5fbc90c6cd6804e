-- The image that edges bound.
use Rattle.std.proofs.Common.{◌≡◌, ℕ, zero, suc, ◌+◌, ◌-◌, ◌*◌, ◌/◌, ◌%◌, ◌<◌, ◌≤◌, Bool, true, false, ◌&&◌, nat_le, nat_lt, List, ◌∷◌, length, get_or, refl, ap, sym, subst, ◌∙◌, inl, inr, arith}
use Rattle.std.proofs.Math.Path.{fun_ext}
use Rattle.std.proofs.lemmas.Bool.{cases_lt, le-leb, lt-leb, false_from_ne_true}
use Rattle.bit_image.specs.Image.{Image, Fits, south_west, differ}
use Rattle.bit_image.specs.Page.{Page, IsPage, image_of, page_of}
use Rattle.bit_image.specs.Words.{is_one}
use Rattle.bit_image.specs.Inner.Words.{black_in}
use Rattle.bit_image.proofs.Bits.{is_one-zero, black_in-at}
use Rattle.bit_image.proofs.Pages.{image_of-page_of, image_of-page_of_above, image_of-page_of_right, IsPage-page_of, page_of-image_of, Fits-page}
use Rattle.turn_policies.specs.Majority.{behind}
use Rattle.boundary_edges.specs.Inner.Blocks.{spread, AreBlocks}
use Rattle.boundary_edges.proofs.Spread.{zeros, zero_at, length-spread}
use Rattle.boundary_edges.specs.Inner.BoundaryBits.{has_edge, changes, AreEdgesOf, black_past, bounded_image, AreEdges, AreLaidOut, changes_in}

and_false : (a : Bool) → a && false ≡ false
and_false true = refl
and_false false = refl

-- ---- the square's pixels

pub behind-left : (b : Image) (x y : ℕ) → x < 4 → behind b 4 x y ≡ false
behind-left b x y left = ap (λ t. t && nat_le 4 y && b (x - 4) (y - 4)) (lt-leb 4 x left)

pub behind-low : (b : Image) (x y : ℕ) → y < 4 → behind b 4 x y ≡ false
behind-low b x y low = ap (λ t. nat_le 4 x && t && b (x - 4) (y - 4)) (lt-leb 4 y low) ∙ ap (λ t. t && b (x - 4) (y - 4)) (and_false (nat_le 4 x))

pub behind-pixel : (b : Image) (x y : ℕ) → behind b 4 (x + 4) (y + 4) ≡ b x y
behind-pixel b x y =
    let right : 4 ≤ x + 4 = omega arith in
    let high : 4 ≤ y + 4 = omega arith in
    let column : x + 4 - 4 ≡ x = omega arith in
    let row : y + 4 - 4 ≡ y = omega arith in
    ap (λ t. t && nat_le 4 (y + 4) && b (x + 4 - 4) (y + 4 - 4)) (le-leb 4 (x + 4) right)
    ∙ ap (λ t. t && b (x + 4 - 4) (y + 4 - 4)) (le-leb 4 (y + 4) high)
    ∙ ap (λ n. b n (y + 4 - 4)) column ∙ ap (b x) row

pub behind-at : (b : Image) (x y : ℕ) → 4 ≤ x → 4 ≤ y → behind b 4 x y ≡ b (x - 4) (y - 4)
behind-at b x y right high =
    ap (λ t. t && nat_le 4 y && b (x - 4) (y - 4)) (le-leb 4 x right)
    ∙ ap (λ t. t && b (x - 4) (y - 4)) (le-leb 4 y high)

-- a corner's pixel
pub behind-corner : (b : Image) (x y : ℕ) → behind b 4 (x + 3) (y + 3) ≡ south_west b x y
behind-corner b zero y = behind-left b (zero + 3) (y + 3) (omega arith)
behind-corner b (suc x) zero = behind-low b (suc x + 3) (zero + 3) (omega arith)
behind-corner b (suc x) (suc y) =
    let column : suc x + 3 ≡ x + 4 = omega arith in
    let row : suc y + 3 ≡ y + 4 = omega arith in
    ap (λ n. behind b 4 n (suc y + 3)) column ∙ ap (behind b 4 (x + 4)) row ∙ behind-pixel b x y

pub changes-down : (b : Image) (x y : ℕ) → changes b 0 (x + 3) (y + 3) ≡ differ (south_west b x y) (south_west b (suc x) y)
changes-down b x y =
    let next : suc (x + 3) ≡ suc x + 3 = omega arith in
    ap (λ t. differ t (behind b 4 (suc (x + 3)) (y + 3))) (behind-corner b x y)
    ∙ ap (λ n. differ (south_west b x y) (behind b 4 n (y + 3))) next
    ∙ ap (differ (south_west b x y)) (behind-corner b (suc x) y)

pub changes-left : (b : Image) (x y : ℕ) → changes b 1 (x + 3) (y + 3) ≡ differ (south_west b x y) (south_west b x (suc y))
changes-left b x y =
    let next : suc (y + 3) ≡ suc y + 3 = omega arith in
    ap (λ t. differ t (behind b 4 (x + 3) (suc (y + 3)))) (behind-corner b x y)
    ∙ ap (λ n. differ (south_west b x y) (behind b 4 (x + 3) n)) next
    ∙ ap (differ (south_west b x y)) (behind-corner b x (suc y))

-- ---- the image

differ_again : (a b : Bool) → differ a (differ a b) ≡ b
differ_again true true = refl
differ_again true false = refl
differ_again false b = refl

past_is : (b : Image) (rows : ℕ) (words : List ℕ) → AreEdgesOf b rows words → (n y : ℕ) → black_past rows words n y ≡ behind b 4 n y
past_is b rows words edges zero y = sym (behind-left b zero y (omega arith))
past_is b rows words edges (suc n) y =
    ap (λ t. differ t (has_edge rows words 0 n y)) (past_is b rows words edges n y)
    ∙ ap (differ (behind b 4 n y)) (edges 0 n y (omega arith))
    ∙ differ_again (behind b 4 n y) (behind b 4 (suc n) y)

-- edges of an image bound it
pub bounded_is : (b : Image) (rows : ℕ) (words : List ℕ) → AreEdgesOf b rows words → bounded_image rows words ≡ b
bounded_is b rows words edges = fun_ext (λ x. fun_ext (λ y. past_is b rows words edges (x + 4) (y + 4) ∙ behind-pixel b x y))

-- ---- the page that is left

pub image_of-bounded : (w h : ℕ) (b : Image) → Fits b w h → image_of (page_of w h b) ≡ b
image_of-bounded w h b fits = fun_ext (λ x. fun_ext (λ y. elim (cases_lt x w) [
  | inr right ↦ image_of-page_of_right w h b x y right ∙ sym (false_from_ne_true (b x y) (λ black. let at = fits x y black in absurd (omega (arith, at.0))))
  | inl in_columns ↦ elim (cases_lt y h) [
    | inr over ↦ image_of-page_of_above w h b x y over ∙ sym (false_from_ne_true (b x y) (λ black. let at = fits x y black in absurd (omega (arith, at.1))))
    | inl in_rows ↦ image_of-page_of w h b x y in_columns in_rows
  ]
]))

pub self_edges : (w h rows strips : ℕ) (words : List ℕ) (page : Page) → AreEdges w h rows strips words → page_of w h (bounded_image rows words) ≡ page → AreEdgesOf (image_of page) rows words
self_edges w h rows strips words page a is =
    subst (λ p. AreEdgesOf (image_of p) rows words) is
    (subst (λ i. AreEdgesOf i rows words) (sym (image_of-bounded w h (bounded_image rows words) a.fits)) a.edges)

pub self_page : (w h rows strips : ℕ) (words : List ℕ) (page : Page) → AreEdges w h rows strips words → page_of w h (bounded_image rows words) ≡ page → IsPage page
self_page w h rows strips words page a is =
    subst IsPage is (IsPage-page_of w h (bounded_image rows words) a.some_width a.most_width a.some_height a.most_height)

-- how its edges stand in blocks
pub laid_out : (w h rows strips : ℕ) (words : List ℕ) (page : Page) (starts blocks : List ℕ) → AreEdges w h rows strips words → page_of w h (bounded_image rows words) ≡ page
    → AreBlocks starts blocks → spread starts blocks ≡ words → AreLaidOut page rows starts blocks
laid_out w h rows strips words page starts blocks a is are same =
    let width : page.width ≡ w = sym (ap (λ p. p.width) is) in
    let height : page.height ≡ h = sym (ap (λ p. p.height) is) in
    let columns : page.width / 64 + 2 ≡ strips = ap (λ n. n / 64 + 2) width ∙ sym a.strip_count in
    let room : 2 * ((page.width / 64 + 2) * rows) ≡ 16 * length starts = ap (λ n. 2 * (n * rows)) columns ∙ sym a.word_count ∙ sym (ap length same) ∙ length-spread starts blocks in
    record {
      few = omega (arith, a.row_count, a.most_height);
      narrow = omega (arith, width, a.most_width);
      high = omega (arith, height, a.row_count);
      room = omega (arith, room);
      blocks = are;
      edges = subst (AreEdgesOf (image_of page) rows) (sym same) (self_edges w h rows strips words page a is);
    }

-- strips of whole blocks
pub whole_blocks : (strips blocks : ℕ) → 16 * (strips * blocks) ≡ 2 * (strips * (8 * blocks))
whole_blocks strips blocks = omega arith

-- words that have the edges of a page
pub made : (w h rows strips : ℕ) (words : List ℕ) (page : Page) → IsPage page → w ≡ page.width → h ≡ page.height → rows ≡ 8 * (h / 8 + 2) → strips ≡ w / 64 + 2 → length words ≡ 2 * (strips * rows) → AreEdgesOf (image_of page) rows words
    → AreEdges w h rows strips words × (page_of w h (bounded_image rows words) ≡ page)
made w h rows strips words page is width height row_count strip_count size edges =
    let image : bounded_image rows words ≡ image_of page = bounded_is (image_of page) rows words edges in (
      record {
        some_width = omega (arith, is.some_width);
        most_width = omega (arith, is.most_width);
        some_height = omega (arith, is.some_height);
        most_height = omega (arith, is.most_height);
        row_count = row_count;
        strip_count = strip_count;
        word_count = size;
        fits = subst (λ i. Fits i w h) (sym image) (subst (λ n. Fits (image_of page) n h) (sym width) (subst (λ n. Fits (image_of page) page.width n) (sym height) (Fits-page page is)));
        edges = subst (λ i. AreEdgesOf i rows words) (sym image) edges;
      },
      ap (page_of w h) image ∙ ap (λ n. page_of n h (image_of page)) width ∙ ap (λ n. page_of page.width n (image_of page)) height ∙ page_of-image_of page is,
    )

-- ---- a row of edges

-- no edge so far, so all is white
pub row_white : (b : Image) (rows : ℕ) (words : List ℕ) (y : ℕ) → AreEdgesOf b rows words → (n : ℕ) → ((u : ℕ) → u < n → has_edge rows words 0 u y ≡ false) → behind b 4 n y ≡ false
row_white b rows words y edges zero none = behind-left b zero y (omega arith)
row_white b rows words y edges (suc n) none =
    let before : behind b 4 n y ≡ false = row_white b rows words y edges n (λ u left. none u (omega arith)) in
    sym (ap (λ t. differ t (behind b 4 (suc n) y)) before) ∙ sym (edges 0 n y (omega arith)) ∙ none n (omega arith)

-- where all is white there is no edge
white_row : (b : Image) (rows : ℕ) (words : List ℕ) (x y : ℕ) → AreEdgesOf b rows words → ((u : ℕ) → u < x → b u y ≡ false) → (n : ℕ) → n < x + 3 → has_edge rows words 0 n (y + 4) ≡ false
white_row b rows words x y edges white n left =
    let here : (m : ℕ) → m ≤ x + 3 → behind b 4 m (y + 4) ≡ false = λ m p. elim (cases_lt m 4) [
      | inl before ↦ behind-left b m (y + 4) before
      | inr right ↦
          let row : y + 4 - 4 ≡ y = omega arith in
          behind-at b m (y + 4) right (omega arith) ∙ ap (b (m - 4)) row ∙ white (m - 4) (omega arith)
    ] in
    edges 0 n (y + 4) (omega arith)
    ∙ ap (λ t. differ t (behind b 4 (suc n) (y + 4))) (here n (omega arith)) ∙ here (suc n) (omega arith)

white_to : (b : Image) (rows : ℕ) (words : List ℕ) (x y column : ℕ) → AreEdgesOf b rows words → ((u : ℕ) → u < x → b u y ≡ false)
    → ((n : ℕ) → x + 3 ≤ n → n < column → has_edge rows words 0 n (y + 4) ≡ false) → (u : ℕ) → u + 4 ≤ column → b u y ≡ false
white_to b rows words x y column edges white none u left =
    sym (behind-pixel b u y)
    ∙ row_white b rows words (y + 4) edges (u + 4) (λ n p. elim (cases_lt n (x + 3)) [
      | inl before ↦ white_row b rows words x y edges white n before
      | inr behind ↦ none n behind (omega arith)
    ])

-- the first edge of a row is the left side of its first black pixel
pub row_found : (b : Image) (rows : ℕ) (words : List ℕ) (x y column : ℕ) → AreEdgesOf b rows words → ((u : ℕ) → u < x → b u y ≡ false)
    → x + 3 ≤ column → has_edge rows words 0 column (y + 4) ≡ true → ((n : ℕ) → x + 3 ≤ n → n < column → has_edge rows words 0 n (y + 4) ≡ false)
    → (b (column - 3) y ≡ true) × ((u : ℕ) → u < column - 3 → b u y ≡ false)
row_found b rows words x y column edges white right edge none =
    let before : behind b 4 column (y + 4) ≡ false = row_white b rows words (y + 4) edges column (λ n p. elim (cases_lt n (x + 3)) [
      | inl left ↦ white_row b rows words x y edges white n left
      | inr further ↦ none n further p
    ]) in
    let place : suc column ≡ column - 3 + 4 = omega arith in (
      sym (behind-pixel b (column - 3) y) ∙ ap (λ n. behind b 4 n (y + 4)) (sym place)
          ∙ sym (ap (λ t. differ t (behind b 4 (suc column) (y + 4))) before) ∙ sym (edges 0 column (y + 4) (omega arith)) ∙ edge,
      λ u left. white_to b rows words x y column edges white none u (omega arith),
    )

pub row_none : (b : Image) (rows : ℕ) (words : List ℕ) (x y : ℕ) → AreEdgesOf b rows words → ((u : ℕ) → u < x → b u y ≡ false)
    → ((n : ℕ) → x + 3 ≤ n → has_edge rows words 0 n (y + 4) ≡ false) → (u : ℕ) → b u y ≡ false
row_none b rows words x y edges white none u = white_to b rows words x y (u + 4) edges white (λ n p q. none n p) u (omega arith)

-- ---- the edges of a page

pub changes-low : (b : Image) (k x y : ℕ) → k < 2 → y < 3 → changes b k x y ≡ false
changes-low b zero x y p low = ap (λ t. differ t (behind b 4 (suc x) y)) (behind-low b x y (omega arith)) ∙ behind-low b (suc x) y (omega arith)
changes-low b (suc k) x y p low = ap (λ t. differ t (behind b 4 x (suc y))) (behind-low b x y (omega arith)) ∙ behind-low b x (suc y) (omega arith)

pub changes-high : (b : Image) (w h k x y : ℕ) → Fits b w h → k < 2 → h + 4 ≤ y → changes b k x y ≡ false
changes-high b w h k x y fits p high =
    let white : (u v : ℕ) → h + 4 ≤ v → behind b 4 u v ≡ false = λ u v above. elim (cases_lt u 4) [
      | inl left ↦ behind-left b u v left
      | inr right ↦ behind-at b u v right (omega arith) ∙ false_from_ne_true (b (u - 4) (v - 4)) (λ black. let at = fits (u - 4) (v - 4) black in absurd (omega (arith, at.1)))
    ] in
    go k white
  where
    go : (k : ℕ) → ((u v : ℕ) → h + 4 ≤ v → behind b 4 u v ≡ false) → changes b k x y ≡ false
    go zero white = ap (λ t. differ t (behind b 4 (suc x) y)) (white x y high) ∙ white (suc x) y high
    go (suc k) white = ap (λ t. differ t (behind b 4 x (suc y))) (white x y high) ∙ white x (suc y) (omega arith)

-- a row of words in front of which a white word stands
front_row : (b : Image) (row : List ℕ) (u y : ℕ) → ((w : ℕ) → black_in row w ≡ nat_le 4 y && b w (y - 4)) → black_in (0 ∷ row) (u + 60) ≡ behind b 4 u y
front_row b row u y pixels = elim (cases_lt u 4) [
  | inl left ↦
      black_in-at (0 ∷ row) 0 (u + 60) (u + 60) (omega arith) (omega arith) ∙ is_one-zero (u + 60)
      ∙ sym (behind-left b u y left)
  | inr right ↦
      let v : ℕ = u - 4 in
      black_in-at (0 ∷ row) (suc (v / 64)) (v % 64) (u + 60) (omega arith) (omega arith)
      ∙ sym (black_in-at row (v / 64) (v % 64) v (omega arith) (omega arith))
      ∙ pixels v
      ∙ sym (ap (λ t. t && nat_le 4 y && b v (y - 4)) (le-leb 4 u right))
]

pub row_changes : (b : Image) (below above : List ℕ) (k u y : ℕ) → k < 2 → ((w : ℕ) → black_in below w ≡ nat_le 4 y && b w (y - 4)) → ((w : ℕ) → black_in above w ≡ nat_le 4 (suc y) && b w (suc y - 4))
    → changes_in below above k u ≡ changes b k u y
row_changes b below above zero u y p here next =
    let column : u + 61 ≡ suc u + 60 = omega arith in
    ap (λ t. differ t (black_in (0 ∷ below) (u + 61))) (front_row b below u y here)
    ∙ ap (differ (behind b 4 u y)) (ap (black_in (0 ∷ below)) column ∙ front_row b below (suc u) y here)
row_changes b below above (suc k) u y p here next =
    ap (λ t. differ t (black_in (0 ∷ above) (u + 60))) (front_row b below u y here)
    ∙ ap (differ (behind b 4 u y)) (front_row b above u (suc y) next)

-- between two white rows there are no edges
behind-white : (b : Image) (x y : ℕ) → ((u : ℕ) → nat_le 4 y && b u (y - 4) ≡ false) → behind b 4 x y ≡ false
behind-white b x y white = elim (cases_lt x 4) [
  | inl left ↦ behind-left b x y left
  | inr right ↦ ap (λ t. t && nat_le 4 y && b (x - 4) (y - 4)) (le-leb 4 x right) ∙ white (x - 4)
]

pub changes-white : (b : Image) (k x y : ℕ) → ((u : ℕ) → nat_le 4 y && b u (y - 4) ≡ false) → ((u : ℕ) → nat_le 4 (suc y) && b u (suc y - 4) ≡ false) → changes b k x y ≡ false
changes-white b zero x y here next = ap (λ t. differ t (behind b 4 (suc x) y)) (behind-white b x y here) ∙ behind-white b (suc x) y here
changes-white b (suc k) x y here next = ap (λ t. differ t (behind b 4 x (suc y))) (behind-white b x y here) ∙ behind-white b x (suc y) next

-- words of 0 have no edges and no pixels
pub no_edges : (n rows : ℕ) (words : List ℕ) (k u v : ℕ) → words ≡ zeros n → has_edge rows words k u v ≡ false
unfolding has_edge
no_edges n rows words k u v blank =
    ap (λ ws. nat_lt v rows && is_one (get_or ws (2 * (u / 64 * rows + v) + k) 0) (u % 64)) blank
    ∙ ap (λ m. nat_lt v rows && is_one m (u % 64)) (zero_at n (2 * (u / 64 * rows + v) + k))
    ∙ ap (λ t. nat_lt v rows && t) (is_one-zero (u % 64)) ∙ and_false (nat_lt v rows)

pub no_pixels : (n : ℕ) (row : List ℕ) (u : ℕ) → row ≡ zeros n → black_in row u ≡ false
no_pixels n row u blank =
    ap (λ ws. black_in ws u) blank
    ∙ black_in-at (zeros n) (u / 64) (u % 64) u (omega arith) (omega arith)
    ∙ ap (λ m. is_one m (u % 64)) (zero_at n (u / 64)) ∙ is_one-zero (u % 64)

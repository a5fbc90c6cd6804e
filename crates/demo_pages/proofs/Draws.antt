-- The state of the generator after several draws, and the pages that are made from it.
use Rattle.std.proofs.Common.{◌≡◌, ℕ, zero, suc, ◌+◌, ◌*◌, Bool, List, [], ◌∷◌, ◌++◌, refl, sym, ap, ◌∙◌, arith, add-one, append_assoc}
use Rattle.std.proofs.Math.Path.{fun_ext}
use Rattle.bit_image.specs.Image.{Image, IsWhite, differ, white}
use Rattle.bit_image.specs.Page.{IsPage, Page, image_of, page_of}
use Rattle.bit_image.proofs.Pages.{IsPage-page_of, page_of-image_of}
use Rattle.demo_pages.specs.declared.bar.Bar.{Bar}
use Rattle.demo_pages.specs.declared.page.TheConstants.{BARS, HEIGHT, RECTANGLES, WIDTH}
use Rattle.demo_pages.specs.declared.rectangle.Rectangle.{Rectangle}
use Rattle.demo_pages.specs.Generator.{next_state, state_after}
use Rattle.demo_pages.specs.Picture.{bar_at, demo_image, is_in_bar, is_in_rectangle, pages_from, picture_page, rectangle_at, with_bars, with_rectangles}

-- the state after one more draw
pub one_draw : (n s t w : ℕ) → t ≡ state_after n s → w ≡ next_state t → w ≡ state_after (suc n) s
unfolding state_after
one_draw n s t w p q = q ∙ ap next_state p

pub no_draw : (s : ℕ) → s ≡ state_after 0 s
unfolding state_after
no_draw s = refl

-- m draws after n draws are m + n draws
pub state_after-state_after : (m n s : ℕ) → state_after m (state_after n s) ≡ state_after (m + n) s
unfolding state_after
state_after-state_after zero n s = let same : n ≡ 0 + n = omega arith in ap (λ (k : ℕ). state_after k s) same
state_after-state_after (suc m) n s =
    let same : suc (m + n) ≡ suc m + n = omega arith in
    ap next_state (state_after-state_after m n s) ∙ ap (λ (k : ℕ). state_after k s) same

-- m more draws after m * n draws
pub as_many_more : (m n s t w : ℕ) → t ≡ state_after (m * n) s → w ≡ state_after m t → w ≡ state_after (m * (n + 1)) s
as_many_more m n s t w p q =
    let count : m + m * n ≡ m * (n + 1) = omega arith in
    q ∙ ap (state_after m) p ∙ state_after-state_after m (m * n) s ∙ ap (λ (k : ℕ). state_after k s) count

-- the image after one more rectangle
pub one_rectangle : (n s t : ℕ) (b : Image) (x : Bool) (r : Rectangle) (u v : ℕ) → t ≡ state_after (4 * n) s → r ≡ rectangle_at t
    → x ≡ with_rectangles n s b u v → differ x (is_in_rectangle r u v) ≡ with_rectangles (n + 1) s b u v
unfolding with_rectangles
one_rectangle n s t b x r u v at is so_far =
    rw (add-one, so_far, is, at) refl

-- the image after one more bar
pub one_bar : (n s t : ℕ) (b : Image) (x : Bool) (bar : Bar) (u v : ℕ) → t ≡ state_after (3 * n) s → bar ≡ bar_at t
    → x ≡ with_bars n s b u v → differ x (is_in_bar bar u v) ≡ with_bars (n + 1) s b u v
unfolding with_bars
one_bar n s t b x bar u v at is so_far =
    rw (add-one, so_far, is, at) refl

pub no_rectangle : (s : ℕ) (b : Image) (u v : ℕ) → b u v ≡ with_rectangles 0 s b u v
unfolding with_rectangles
no_rectangle s b u v = refl

pub no_bar : (s : ℕ) (b : Image) (u v : ℕ) → b u v ≡ with_bars 0 s b u v
unfolding with_bars
no_bar s b u v = refl

-- a white page becomes the defined page after all rectangles and bars
pub is_picture : (s t : ℕ) (first middle page : Page) → IsPage page → page.width ≡ WIDTH → page.height ≡ HEIGHT → IsWhite (image_of first)
    → t ≡ state_after (4 * RECTANGLES) s
    → ((u v : ℕ) → image_of middle u v ≡ with_rectangles RECTANGLES s (image_of first) u v)
    → ((u v : ℕ) → image_of page u v ≡ with_bars BARS t (image_of middle) u v)
    → page ≡ picture_page s
is_picture s t first middle page is_page wide high is_white at rectangles bars =
    let clear : image_of first ≡ white = fun_ext (λ x. fun_ext (λ y. is_white x y)) in
    let half : image_of middle ≡ with_rectangles RECTANGLES s (image_of first) = fun_ext (λ x. fun_ext (λ y. rectangles x y)) in
    let whole : image_of page ≡ with_bars BARS t (image_of middle) = fun_ext (λ x. fun_ext (λ y. bars x y)) in
    let shown : image_of page ≡ demo_image s =
    whole ∙ ap (with_bars BARS t) (half ∙ ap (with_rectangles RECTANGLES s) clear)
    ∙ ap (λ (k : ℕ). with_bars BARS k (with_rectangles RECTANGLES s white)) at in
    sym (page_of-image_of page is_page)
    ∙ ap (page_of page.width page.height) shown
    ∙ ap (λ (w : ℕ). page_of w page.height (demo_image s)) wide
    ∙ ap (λ (h : ℕ). page_of WIDTH h (demo_image s)) high

-- the pages of the demo are pages
pub is_page : (s : ℕ) → IsPage (picture_page s)
is_page s = IsPage-page_of WIDTH HEIGHT (demo_image s) (omega arith) (omega arith) (omega arith) (omega arith)

-- the list after one more page
pub one_page : (whole made : List Page) (n left s t : ℕ) (page : Page) → n ≡ suc left → page ≡ picture_page s
    → t ≡ state_after (4 * RECTANGLES + 3 * BARS) s
    → whole ≡ made ++ pages_from n s → whole ≡ (made ++ page ∷ []) ++ pages_from left t
unfolding pages_from
one_page whole made n left s t page is_more is at so_far =
    so_far ∙ ap (λ (k : ℕ). made ++ pages_from k s) is_more
    ∙ ap (λ (p : Page). made ++ p ∷ pages_from left (state_after (4 * RECTANGLES + 3 * BARS) s)) (sym is)
    ∙ ap (λ (k : ℕ). made ++ page ∷ pages_from left k) (sym at)
    ∙ sym (append_assoc made (page ∷ []) (pages_from left t))

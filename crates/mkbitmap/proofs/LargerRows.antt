-- The row that `enlarge` computes is the row of the larger page, from the reliefs that the filter holds.
use Rattle.std.proofs.Common.{◌≡◌, ℕ, ◌+◌, ◌-◌, ◌*◌, ◌<◌, ◌≤◌, Bool, true, false, List, length, get_or, arith, sym, ap, ◌∙◌, inl, inr}
use Rattle.std.specs.Prelude.{◌&&◌, if◌then◌else◌, nat_eq, nat_le, nat_lt}
use Rattle.bit_image.specs.PbmText.{row_text}
use Rattle.std.proofs.Math.Path.{fun_ext}
use Rattle.std.proofs.lemmas.Nat.{mul-le}
use Rattle.std.proofs.lemmas.Bool.{cases_lt, le-ltb}
use Rattle.std.proofs.lemmas.List.{get_or_past}
use Rattle.mkbitmap.specs.Box.{Gray, box_count, box_area, box_sum}
use Rattle.mkbitmap.specs.Relief.{raised_by, raised_of}
use Rattle.mkbitmap.specs.Enlarged.{after_of, distance_behind, before_within, mix, mixed_column, mixed_raised}
use Rattle.mkbitmap.specs.Inner.Enlarged.{dark}
use Rattle.mkbitmap.specs.Packing.{padded}
use Rattle.mkbitmap.specs.Filtering.{Filtering}
use Rattle.mkbitmap.specs.Follows.{Follows}
use Rattle.mkbitmap.specs.declared.limits.TheConstants.{GREATEST_MAXVAL, GREATEST_RELIEF}
use Rattle.mkbitmap.proofs.ReliefBounds.{raised-most}

-- a box has at least one pixel
area_some : (page : Gray) (radius x y : ℕ) → x < page.width → y < page.height → 0 < box_area page radius x y
area_some page radius x y in_row in_page =
    let one : 1 * 1 ≤ box_count radius page.width x * box_count radius page.height y = mul-le 1 1 _ _ (omega arith) (omega arith) in
    omega (arith, one)

relief_by_most : (t : Bool) (sample sum area maxval : ℕ) → 0 < area → sample ≤ maxval
    → (if t then 256 * sample + 128 * maxval else raised_by sample sum area maxval) ≤ 512 * maxval
relief_by_most true sample sum area maxval some most = omega arith
relief_by_most false sample sum area maxval some most = raised-most sample sum area maxval some most

raised_of-most : (page : Gray) (radius x y : ℕ) → page.sample x y ≤ page.maxval → x < page.width → y < page.height
    → raised_of page radius x y ≤ 512 * page.maxval
raised_of-most page radius x y bright in_row in_page =
    relief_by_most (nat_eq radius 0) (page.sample x y) (box_sum page radius x y) (box_area page radius x y) page.maxval (area_some page radius x y in_row in_page) bright

-- the reliefs of a row are at most 512 times white
pub row_most : (page : Gray) (radius y : ℕ) (reliefs : List ℕ) → ((a b : ℕ) → page.sample a b ≤ page.maxval) → page.maxval ≤ GREATEST_MAXVAL → y < page.height
    → length reliefs ≡ page.width → ((x : ℕ) → x < page.width → get_or reliefs x 0 ≡ raised_of page radius x y) → (x : ℕ) → get_or reliefs x 0 ≤ GREATEST_RELIEF
row_most page radius y reliefs bright white below wide raised x =
    elim (cases_lt x page.width) [
      | inl within ↦
          let most : raised_of page radius x y ≤ 512 * page.maxval = raised_of-most page radius x y (bright x y) within below in
          rw (raised x within) (omega (arith, most, white))
      | inr past ↦ rw (get_or_past reliefs x 0 (omega (arith, wide, past))) (omega arith)
    ]

module _ (page : Gray) (f : Filtering) (times y : ℕ) (follows : Follows page f) (pairs : f.pairs ≡ after_of times y + 1) where
  -- a column of the page, mixed above and below a row of the larger page
  pub column_is : (p : ℕ) (upper lower : List ℕ) → p ≡ distance_behind times y → upper ≡ f.upper → lower ≡ f.lower → (x : ℕ) → x < f.width
      → mix (2 * times) p (get_or upper x 0) (get_or lower x 0) ≡ mixed_column page f.radius times y x
  column_is p upper lower part up low x within =
      let u : f.pairs - 1 ≡ after_of times y = omega (arith, pairs) in
      let above : get_or upper x 0 ≡ raised_of page f.radius x (before_within page.height (after_of times y))
      = ap (λ l. get_or l x 0) up ∙ follows.upper (omega (arith, pairs)) x within ∙ ap (λ k. raised_of page f.radius x (before_within f.height k)) u
      ∙ ap (λ h. raised_of page f.radius x (before_within h (after_of times y))) (sym follows.holds.height) in
      let below : get_or lower x 0 ≡ raised_of page f.radius x (before_within page.height (after_of times y + 1))
      = ap (λ l. get_or l x 0) low ∙ follows.lower (omega (arith, pairs)) x within ∙ ap (λ k. raised_of page f.radius x (before_within f.height k)) pairs
      ∙ ap (λ h. raised_of page f.radius x (before_within h (after_of times y + 1))) (sym follows.holds.height) in
      λ i. mix (2 * times) (part i) (above i) (below i)

padded_same : (width : ℕ) (black other : ℕ → Bool) → ((X : ℕ) → X < width → black X ≡ other X) → (X : ℕ) → padded width black X ≡ padded width other X
padded_same width black other same X =
    elim (cases_lt X width) [
      | inl within ↦ ap (λ t. nat_lt X width && t) (same X within)
      | inr past ↦
          let none : nat_lt X width ≡ false = le-ltb X width past in
          ap (λ t. t && black X) none ∙ sym (ap (λ t. t && other X) none)
    ]

-- rows of equal pixels have equal texts
pub packed_same : (width : ℕ) (black other : ℕ → Bool) → ((X : ℕ) → X < width → black X ≡ other X) → row_text width (padded width black) ≡ row_text width (padded width other)
packed_same width black other same =
    ap (λ (p : ℕ → Bool). row_text width p) (fun_ext (padded_same width black other same))

-- a pixel is dark by the mixed columns exactly if it is black
pub dark_is : (page : Gray) (radius times limit y X : ℕ) (columns : List ℕ)
    → ((u : ℕ) → u < page.width + 2 → get_or columns u 0 ≡ mixed_column page radius times y (before_within page.width u))
    → after_of times X + 1 < page.width + 2 → dark columns times limit X ≡ nat_le (mixed_raised page radius times X y) limit
dark_is page radius times limit y X columns is within =
    let left = is (after_of times X) (omega (arith, within)) in
    let right = is (after_of times X + 1) within in
    λ i. nat_le (mix (2 * times) (distance_behind times X) (left i) (right i)) limit

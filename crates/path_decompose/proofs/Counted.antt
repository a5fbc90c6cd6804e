-- How many pixels are inside a path, however far beyond the page they are counted.
use Rattle.std.proofs.Common.{◌≡◌, ℕ, zero, suc, ◌≤◌, Bool, false, cond, List, [], ◌∷◌, All, ap, ◌∙◌, inl, inr, arith}
use Rattle.std.proofs.lemmas.Bool.{cases_Bool, cases_lt}
use Rattle.std.proofs.lemmas.List.Elements.{All-nil, All-cons}
use Rattle.pt_core.specs.declared.path.Path.{Path}
use Rattle.pt_core.specs.declared.policy.Policy.{Policy}
use Rattle.bit_image.specs.Image.{Image, Fits}
use Rattle.bit_image.specs.Page.{Page}
use Rattle.turn_policies.specs.Majority.{count_below, sum_below}
use Rattle.turn_policies.proofs.SumsBelow.{sum_below-same}
use Rattle.boundary_edges.specs.Inside.{inside, black_count}
use Rattle.path_decompose.specs.Decomposition.{inverted, IsDecomposed}
use Rattle.path_decompose.proofs.Beyond.{white_off}

-- numbers that don't pass a test add nothing
count_below-past : (n m : ℕ) (f : ℕ → Bool) → n ≤ m → ((k : ℕ) → n ≤ k → f k ≡ false) → count_below m f ≡ count_below n f
count_below-past n zero f le none = (let e : 0 ≡ n = omega arith in ap (λ i. count_below i f) e)
count_below-past n (suc m) f le none = elim (cases_lt n (suc m)) [
  | inl past ↦
      ap (λ t. cond t (suc (count_below m f)) (count_below m f)) (none m (omega arith))
      ∙ count_below-past n m f (omega arith) none
  | inr last ↦ (let e : suc m ≡ n = omega arith in ap (λ i. count_below i f) e)
]

-- and neither do terms of 0
sum_below-past : (n m : ℕ) (f : ℕ → ℕ) → n ≤ m → ((k : ℕ) → n ≤ k → f k ≡ 0) → sum_below m f ≡ sum_below n f
sum_below-past n zero f le none = (let e : 0 ≡ n = omega arith in ap (λ i. sum_below i f) e)
sum_below-past n (suc m) f le none = elim (cases_lt n (suc m)) [
  | inl past ↦
      let rest = sum_below-past n m f (omega arith) none in
      let last : f m ≡ 0 = none m (omega arith) in
      omega (arith, rest, last)
  | inr last ↦ (let e : suc m ≡ n = omega arith in ap (λ i. sum_below i f) e)
]

white_above : (b : Image) (width height x y : ℕ) → Fits b width height → height ≤ y → b x y ≡ false
white_above b width height x y fits above =
    elim (cases_Bool (b x y)) [ inl black ↦ let at = fits x y black in absurd (omega arith) | inr white ↦ white ]

-- an image that fits a page has no more black pixels farther out
pub black_count-past : (b : Image) (width height wider higher : ℕ) → Fits b width height → width ≤ wider → height ≤ higher
    → black_count b wider higher ≡ black_count b width height
black_count-past b width height wider higher fits wide high =
    sum_below-past height higher (λ y. count_below wider (λ x. b x y)) high
    (λ y above. count_below-past 0 wider (λ x. b x y) (omega arith) (λ x any. white_above b width height x y fits above))
    ∙ sum_below-same height (λ y. count_below wider (λ x. b x y)) (λ y. count_below width (λ x. b x y))
    (λ y low. count_below-past width wider (λ x. b x y) wide (λ x right. white_off b width height x y fits right))

-- the area of each path is counted on the page
pub areas_on_page : (page : Page) (policy : Policy) (b : Image) (paths : List Path) → IsDecomposed page policy b paths
    → All (λ path. path.area ≡ black_count (inside path.points) page.width page.height) paths
areas_on_page page policy b [] d = All-nil (λ (path : Path). path.area ≡ black_count (inside path.points) page.width page.height)
areas_on_page page policy b (path ∷ paths) d =
    All-cons (λ (p : Path). p.area ≡ black_count (inside p.points) page.width page.height) path paths
    (d.0).area (areas_on_page page policy (inverted b path.points) paths d.1)

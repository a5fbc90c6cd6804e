-- Each page has a decomposition: the search finds each start, and the walk from there comes back.
use Rattle.std.proofs.Common.{◌≡◌, ◌≢◌, ℕ, zero, suc, ◌+◌, ◌*◌, ◌<◌, ◌≤◌, ◌⊎◌, Bool, true, false, Option, Some, None, List, [], ◌∷◌, map, refl, ap, ◌∙◌, inl, inr, arith}
use Rattle.std.proofs.lemmas.Bool.{cases_Bool, cases_eq, cases_lt}
use Rattle.pt_core.specs.declared.path.Path.{Path}
use Rattle.pt_core.specs.declared.path.Sign.{Sign}
use Rattle.pt_core.specs.declared.policy.Policy.{Policy}
use Rattle.bit_image.specs.Image.{Image, Fits}
use Rattle.bit_image.specs.Page.{Page, IsPage, image_of}
use Rattle.bit_image.specs.FirstBlack.{IsFirstBlack}
use Rattle.bit_image.proofs.Pages.{Fits-page}
use Rattle.turn_policies.specs.declared.heading.Dir.{Dir}
use Rattle.turn_policies.specs.declared.heading.Dir.TheVariants.{North, East, South, West}
use Rattle.turn_policies.specs.declared.edge.Edge.{Edge}
use Rattle.turn_policies.specs.Turn.{next}
use Rattle.path_decompose.specs.Walk.{IsBoundaryWalk, first_edge, start_of}
use Rattle.boundary_edges.specs.Inside.{inside, black_count}
use Rattle.path_decompose.specs.Decomposition.{sign_at, inverted, IsNextPath, IsDecomposed, IsDecomposition}
use Rattle.path_decompose.specs.Inner.Start.{IsStart}
use Rattle.path_decompose.proofs.Orbit.{nth_after, orbit, NoReturn}
use Rattle.path_decompose.proofs.Steps.{part_short, part_round, no_return_more}
use Rattle.path_decompose.proofs.Walked.{white_through}
use Rattle.path_decompose.proofs.NextPath.{fits_inverted}
use Rattle.path_decompose.proofs.Beyond.{white_off}
use Rattle.path_decompose.proofs.Scan.{places_left, places_left_fall}

-- the first number below n that passes a test, if there is one
first_below : (f : ℕ → Bool) (n : ℕ) → ((k : ℕ) × (k < n) × (f k ≡ true) × ((j : ℕ) → j < k → f j ≡ false)) ⊎ ((j : ℕ) → j < n → f j ≡ false)
first_below f zero = inr (λ j below. absurd (omega arith))
first_below f (suc n) =
    elim (first_below f n) [
      | inl found ↦ inl (found.0, let h = found.1 in omega arith, found.2, found.3)
      | inr none ↦ elim (cases_Bool (f n)) [
        | inl passes ↦ inl (n, omega arith, passes, none)
        | inr fails ↦ inr (λ j below. elim (cases_eq j n) [ inl same ↦ ap f same ∙ fails | inr other ↦ none j (omega arith) ])
      ]
    ]

-- the first black pixel, where rows n and above are white, or none
start_below : (b : Image) (width height n : ℕ) → Fits b width height → ((u v : ℕ) → n ≤ v → b u v ≡ false) → (start : Option (ℕ × ℕ)) × IsStart b start
start_below b width height zero fits above = (None, λ u v. above u v (omega arith))
start_below b width height (suc n) fits above =
    elim (first_below (λ x. b x n) width) [
      | inl found ↦ (Some (found.0, n), record { black = found.2; above = λ u v higher. above u v (omega arith); left = found.3 })
      | inr none ↦ start_below b width height n fits (λ u v higher. elim (cases_eq v n) [
        | inl here ↦ ap (b u) here ∙ elim (cases_lt u width) [ inl on ↦ none u on | inr right ↦ white_off b width height u n fits right ]
        | inr other ↦ above u v (omega arith)
      ])
    ]

start_found : (b : Image) (width height : ℕ) → Fits b width height → (start : Option (ℕ × ℕ)) × IsStart b start
start_found b width height fits =
    start_below b width height height fits (λ u v above. elim (cases_Bool (b u v)) [ inl black ↦ let at = fits u v black in absurd (omega arith) | inr white ↦ white ])

number_of_heading : Dir → ℕ
number_of_heading North = 0
number_of_heading East = 1
number_of_heading South = 2
number_of_heading West = 3

heading_back : (c d : Dir) → number_of_heading c ≡ number_of_heading d → c ≡ d
unfolding number_of_heading
heading_back North North h = refl
heading_back North East h = absurd (omega arith)
heading_back North South h = absurd (omega arith)
heading_back North West h = absurd (omega arith)
heading_back East North h = absurd (omega arith)
heading_back East East h = refl
heading_back East South h = absurd (omega arith)
heading_back East West h = absurd (omega arith)
heading_back South North h = absurd (omega arith)
heading_back South East h = absurd (omega arith)
heading_back South South h = refl
heading_back South West h = absurd (omega arith)
heading_back West North h = absurd (omega arith)
heading_back West East h = absurd (omega arith)
heading_back West South h = absurd (omega arith)
heading_back West West h = refl

same_heading : (c d : Dir) → (c ≡ d) ⊎ (c ≢ d)
same_heading c d =
    elim (cases_eq (number_of_heading c) (number_of_heading d)) [
      | inl same ↦ inl (heading_back c d same)
      | inr other ↦ inr (λ e. other (ap number_of_heading e))
    ]

-- two edges are one or not
same_edge : (d e : Edge) → (d ≡ e) ⊎ (d ≢ e)
same_edge d e =
    elim (cases_eq d.x e.x) [
      | inl columns ↦ elim (cases_eq d.y e.y) [
        | inl rows ↦ elim (same_heading d.heading e.heading) [
          | inl headings ↦ inl (rw (columns, rows, headings) refl)
          | inr other ↦ inr (λ same. other (ap (λ (w : Edge). w.heading) same))
        ]
        | inr other ↦ inr (λ same. other (ap (λ (w : Edge). w.y) same))
      ]
      | inr other ↦ inr (λ same. other (ap (λ (w : Edge). w.x) same))
    ]

-- the walk comes back to its first edge within as many steps as the page has edges
returns_within : (b : Image) (policy : Policy) (sign : Sign) (x y width height : ℕ) → IsFirstBlack b x y → Fits b width height → (fuel n : ℕ) → suc width * suc height * 2 ≤ n + fuel → NoReturn (next b policy sign) n (first_edge x y)
    → (m : ℕ) × NoReturn (next b policy sign) m (first_edge x y) × (nth_after (next b policy sign) (suc m) (first_edge x y) ≡ first_edge x y)
returns_within b policy sign x y width height first fits zero n enough so_far =
    let short : n < suc width * suc height * 2 = part_short b policy sign x y n _ _ width height first fits (record { passed = refl; at = refl; no_return = so_far }) in
    absurd (omega arith)
returns_within b policy sign x y width height first fits (suc fuel) n enough so_far =
    elim (same_edge (nth_after (next b policy sign) (suc n) (first_edge x y)) (first_edge x y)) [
      | inl back ↦ (n, so_far, back)
      | inr on ↦ returns_within b policy sign x y width height first fits fuel (suc n) (omega arith) (no_return_more (next b policy sign) (first_edge x y) n so_far on)
    ]

-- so there is a walk from the first black pixel
pub walk_found : (b : Image) (policy : Policy) (sign : Sign) (x y width height : ℕ) → IsFirstBlack b x y → Fits b width height
    → (es : List Edge) × IsBoundaryWalk b policy sign x y (map start_of es)
walk_found b policy sign x y width height first fits =
    let back = returns_within b policy sign x y width height first fits (suc width * suc height * 2) 0 (omega arith) (λ k below. absurd (omega arith)) in
    let es : List Edge = orbit (next b policy sign) (suc back.0) (first_edge x y) in
    (es, record { edges = es; round = part_round b policy sign x y back.0 first back.1 back.2; starts = refl })

-- the path of a walk
path_found : (page : Page) (policy : Policy) (b : Image) (x y : ℕ) → IsFirstBlack b x y → Fits b page.width page.height → (path : Path) × IsNextPath page policy b path × (walk : IsBoundaryWalk b policy path.sign x y path.points) × (path.sign ≡ sign_at (image_of page) x y)
path_found page policy b x y first fits =
    let sign : Sign = sign_at (image_of page) x y in
    let found = walk_found b policy sign x y page.width page.height first fits in
    let path : Path = record { sign = sign; area = black_count (inside (map start_of found.0)) page.width page.height; points = map start_of found.0 } in
    (path, record { x = x; y = y; first = first; sign = refl; walk = found.1; area = refl }, found.1, refl)

-- the paths from a start on, where so many places are left
paths_from : (page : Page) (policy : Policy) (fuel : ℕ) (b : Image) (start : Option (ℕ × ℕ)) → Fits b page.width page.height → IsStart b start → places_left page.width start ≤ fuel
    → (paths : List Path) × IsDecomposed page policy b paths
paths_from page policy fuel b None fits white enough = ([], white)
paths_from page policy zero b (Some place) fits first enough = let at = fits place.0 place.1 first.black in absurd (omega arith)
paths_from page policy (suc fuel) b (Some place) fits first enough =
    let at = fits place.0 place.1 first.black in
    let found = path_found page policy b place.0 place.1 first fits in
    let path : Path = found.0 in
    let c : Image = inverted b path.points in
    let fits_after : Fits c page.width page.height = fits_inverted page policy b path page.width page.height found.1 fits in
    let start = start_found c page.width page.height fits_after in
    let white = white_through b c policy path.sign place.0 place.1 page.width path.points first found.2 at.0 (λ u v left. refl) in
    let fall = places_left_fall c page.width page.height place.0 place.1 start.0 fits_after at.0 white start.1 in
    let rest = paths_from page policy fuel c start.0 fits_after start.1 (omega arith) in
    (path ∷ rest.0, (found.1, rest.1))

pub decomposition_found : (page : Page) (policy : Policy) → IsPage page → (paths : List Path) × IsDecomposition page policy paths
decomposition_found page policy is_page =
    let fits = Fits-page page is_page in
    let start = start_found (image_of page) page.width page.height fits in
    paths_from page policy (places_left page.width start.0) (image_of page) start.0 fits start.1 (omega arith)

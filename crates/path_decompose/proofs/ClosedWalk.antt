-- The points of a walk once round are a closed walk over the corners of the page.
use Rattle.std.proofs.Common.{◌≡◌, ◌≢◌, ℕ, zero, suc, ◌+◌, ◌*◌, ◌%◌, ◌^◌, ◌<◌, ◌≤◌, true, false, pos, List, [], ◌∷◌, map, length, get_or, All, refl, ap, sym, subst, ◌∙◌, inl, inr, arith, add-one}
use Rattle.std.proofs.lemmas.Bool.{false≢true}
use Rattle.std.proofs.lemmas.Bool.Decides.{nat_tests}
use Rattle.std.proofs.lemmas.Int.{ints}
use Rattle.std.proofs.lemmas.List.{length-map, get_or-map}
use Rattle.std.proofs.lemmas.List.Elements.{All-map}
use Rattle.std.proofs.lemmas.Nat.{mul-le, mod_below}
use Rattle.pt_core.specs.declared.point.Point.{Point}
use Rattle.pt_core.specs.declared.path.Sign.{Sign}
use Rattle.pt_core.specs.declared.policy.Policy.{Policy}
use Rattle.pt_core.specs.ClosedWalk.{origin, point_at, IsNextTo, IsUnitStep, IsClosedWalk}
use Rattle.pt_core.specs.declared.limits.TheConstants.{LONGEST_SIDE}
use Rattle.bit_image.specs.Image.{Image, Fits, south_west, differ}
use Rattle.turn_policies.specs.declared.heading.Dir.{Dir}
use Rattle.turn_policies.specs.declared.heading.Dir.TheVariants.{North, East, South, West}
use Rattle.turn_policies.specs.declared.edge.Edge.{Edge}
use Rattle.turn_policies.specs.Heading.{opposite_of, end_x, end_y}
use Rattle.turn_policies.specs.Boundary.{IsBoundary, left_pixel}
use Rattle.turn_policies.specs.Majority.{major}
use Rattle.turn_policies.specs.Turn.{goes_right, next}
use Rattle.turn_policies.proofs.TurnedEdges.{next_boundary, onwards}
use Rattle.path_decompose.specs.Walk.{IsTrail, start_of}
use Rattle.boundary_edges.specs.Inside.{is_odd}
use Rattle.boundary_edges.specs.Bounds.{IsCornerOf}
use Rattle.path_decompose.proofs.Parity.{odd_by, odd_by-closed}
use Rattle.path_decompose.proofs.Orbit.{nth_after, nth_after-keeps, nth_after-mod, run-orbit, get_or-orbit}
use Rattle.path_decompose.proofs.Round.{IsCircuit, all_boundary}
use Rattle.path_decompose.proofs.OnPage.{edge_on, length-distinct}

-- one step further, in either direction of a column or a row
step_up : (n : ℕ) → IsNextTo (pos n) (pos (suc n))
step_up n = inl (ap pos (sym (add-one n)))

step_down : (n : ℕ) → IsNextTo (pos (suc n)) (pos n)
step_down n = inr (ap pos (sym (add-one n)))

unit_step : (b : Image) (x y : ℕ) (d : Dir) → left_pixel (south_west b) x y d ≡ true
    → let p : Point = record { x = pos x; y = pos y } in let q : Point = record { x = pos (end_x x d); y = pos (end_y y d) } in IsUnitStep p q
unit_step b x y North black = inr (refl, step_up y)
unit_step b x y East black = inl (refl, step_up x)
unit_step b x zero South black = absurd (false≢true black)
unit_step b x (suc y) South black = inr (refl, step_down y)
unit_step b zero y West black = absurd (false≢true black)
unit_step b (suc x) y West black = inl (refl, step_down x)

-- two steps that come back to where they began are opposite to each other
turned_back : (b : Image) (x y : ℕ) (c d : Dir) → left_pixel (south_west b) x y c ≡ true → left_pixel (south_west b) (end_x x c) (end_y y c) d ≡ true
    → x ≡ end_x (end_x x c) d → y ≡ end_y (end_y y c) d → d ≡ opposite_of c
turned_back b x y North North black later ex ey = absurd (omega arith)
turned_back b x y North East black later ex ey = absurd (omega arith)
turned_back b x y North South black later ex ey = refl
turned_back b zero y North West black later ex ey = absurd (false≢true black)
turned_back b (suc x) y North West black later ex ey = absurd (omega arith)
turned_back b x y East North black later ex ey = absurd (omega arith)
turned_back b x y East East black later ex ey = absurd (omega arith)
turned_back b x y East South black later ex ey = absurd (omega arith)
turned_back b x y East West black later ex ey = refl
turned_back b x zero South d black later ex ey = absurd (false≢true black)
turned_back b x (suc y) South North black later ex ey = refl
turned_back b x (suc y) South East black later ex ey = absurd (omega arith)
turned_back b x (suc zero) South South black later ex ey = absurd (false≢true later)
turned_back b x (suc (suc y)) South South black later ex ey = absurd (omega arith)
turned_back b zero (suc y) South West black later ex ey = absurd (false≢true later)
turned_back b (suc x) (suc y) South West black later ex ey = absurd (omega arith)
turned_back b zero y West d black later ex ey = absurd (false≢true black)
turned_back b (suc x) y West North black later ex ey = absurd (omega arith)
turned_back b (suc x) y West East black later ex ey = refl
turned_back b (suc x) y West South black later ex ey = absurd (omega arith)
turned_back b (suc zero) y West West black later ex ey = absurd (false≢true later)
turned_back b (suc (suc x)) y West West black later ex ey = absurd (omega arith)

nat_from_pos : (m n : ℕ) → pos m ≡ pos n → m ≡ n
nat_from_pos m n e = omega (arith, ints)

-- two edges after a boundary edge the walk is elsewhere
pub elsewhere : (b : Image) (policy : Policy) (sign : Sign) (e : Edge) → IsBoundary b e → start_of e ≢ start_of (next b policy sign (next b policy sign e))
elsewhere b policy sign e h back =
    let f : Edge → Edge = next b policy sign in
    let heading : Dir = (f e).heading in
    let x : ℕ = end_x e.x e.heading in
    let y : ℕ = end_y e.y e.heading in
    onwards _ _ (goes_right policy sign (major b x y)) e.heading
    (turned_back b e.x e.y e.heading heading h.black_left (next_boundary b policy sign e h).black_left
    (nat_from_pos e.x (end_x x heading) (ap (λ p. p.x) back))
    (nat_from_pos e.y (end_y y heading) (ap (λ p. p.y) back)))

-- point k of a walk once round, counted on over its end
pub point_of_round : (b : Image) (policy : Policy) (sign : Sign) (s : Edge) (es : List Edge) → IsCircuit b policy sign s es → (k : ℕ) → point_at (map start_of es) k ≡ start_of (nth_after (next b policy sign) k s)
point_of_round b policy sign s es c k =
    let f : Edge → Edge = next b policy sign in
    let n : ℕ = length es in
    let below : k % n < n = mod_below k n c.some in
    ap (λ m. get_or (map start_of es) (k % m) origin) (length-map es start_of)
    ∙ get_or-map start_of es (k % n) s origin below
    ∙ ap start_of (ap (λ l. get_or l (k % n) s) ((run-orbit f es s s c.closes).0) ∙ get_or-orbit f n (k % n) s s below ∙ nth_after-mod f n s c.some ((run-orbit f es s s c.closes).1) k)

-- each step changes whether column and row together are odd
odd_step : (b : Image) (x y : ℕ) (d : Dir) → left_pixel (south_west b) x y d ≡ true → true ≡ differ (is_odd (x + y)) (is_odd (end_x x d + end_y y d))
odd_step b x y North black = grind (arith, nat_tests)
odd_step b x y East black = grind (arith, nat_tests)
odd_step b x zero South black = absurd (false≢true black)
odd_step b x (suc y) South black = grind (arith, nat_tests)
odd_step b zero y West black = absurd (false≢true black)
odd_step b (suc x) y West black = grind (arith, nat_tests)

-- so a walk once round has an even number of edges
length_even : (b : Image) (policy : Policy) (sign : Sign) (s : Edge) (es : List Edge) → IsBoundary b s → IsTrail (next b policy sign) s es s → odd_by (λ e. true) es ≡ false
length_even b policy sign s es h run =
    odd_by-closed (next b policy sign) (IsBoundary b) (next_boundary b policy sign) (λ e. is_odd (e.x + e.y)) (λ e. true) (λ e p. odd_step b e.x e.y e.heading p.black_left) es s h run

length-run : (b : Image) (policy : Policy) (sign : Sign) (s : Edge) (es : List Edge) → IsBoundary b s → 1 ≤ length es → IsTrail (next b policy sign) s es s → odd_by (λ e. true) es ≡ false → 4 ≤ length es
length-run b policy sign s [] h some run even = absurd (omega arith)
length-run b policy sign s (d ∷ []) h some run even = cc
length-run b policy sign s (d ∷ e ∷ []) h some run even =
    let f : Edge → Edge = next b policy sign in
    let round : f (f s) ≡ s = ap (λ w. f (f w)) (sym run.0) ∙ ap f (sym run.1.0) ∙ run.1.1 in
    absurd (elsewhere b policy sign s h (ap start_of (sym round)))
length-run b policy sign s (c ∷ d ∷ e ∷ []) h some run even = cc
length-run b policy sign s (a ∷ c ∷ d ∷ e ∷ es) h some run even = omega arith

pub length-round : (b : Image) (policy : Policy) (sign : Sign) (s : Edge) (es : List Edge) → IsCircuit b policy sign s es → 4 ≤ length es
length-round b policy sign s es c = length-run b policy sign s es c.boundary c.some c.closes (length_even b policy sign s es c.boundary c.closes)

pub length-le : (b : Image) (policy : Policy) (sign : Sign) (s : Edge) (es : List Edge) → IsCircuit b policy sign s es → (width height : ℕ) → Fits b width height → length es ≤ suc width * suc height * 2
length-le b policy sign s es c width height fits =
    length-distinct b width height fits es (all_boundary b policy sign s es c) c.distinct

most_edges : (width height n : ℕ) → width ≤ LONGEST_SIDE → height ≤ LONGEST_SIDE → n ≤ suc width * suc height * 2 → n ≤ 2 ^ 31
most_edges width height n w h le = omega (arith, mul-le (suc width) (suc height) (suc LONGEST_SIDE) (suc LONGEST_SIDE) (omega arith) (omega arith))

-- the points of a walk once round are a closed walk
pub closed_walk : (b : Image) (policy : Policy) (sign : Sign) (s : Edge) (es : List Edge) → IsCircuit b policy sign s es → (width height : ℕ) → Fits b width height → width ≤ LONGEST_SIDE → height ≤ LONGEST_SIDE → IsClosedWalk (map start_of es)
closed_walk b policy sign s es c width height fits w h =
    let f : Edge → Edge = next b policy sign in
    let points : List Point = map start_of es in
    let at : (k : ℕ) → point_at points k ≡ start_of (nth_after f k s) = point_of_round b policy sign s es c in
    let boundary : (k : ℕ) → IsBoundary b (nth_after f k s) = nth_after-keeps f (IsBoundary b) (next_boundary b policy sign) s c.boundary in
    record {
      least = omega (arith, length-map es start_of, length-round b policy sign s es c);
      most = omega (arith, length-map es start_of, most_edges width height (length es) w h (length-le b policy sign s es c width height fits));
      steps = λ k. subst (λ p. IsUnitStep p (point_at points (suc k))) (sym (at k)) (subst (λ q. IsUnitStep (start_of (nth_after f k s)) q) (sym (at (suc k)))
          (let e : Edge = nth_after f k s in unit_step b e.x e.y e.heading (boundary k).black_left));
      onwards = λ k same. elsewhere b policy sign (nth_after f k s) (boundary k) (sym (at k) ∙ same ∙ at (suc (suc k)));
    }

-- all over the corners of the page
pub corners : (b : Image) (policy : Policy) (sign : Sign) (s : Edge) (es : List Edge) → IsCircuit b policy sign s es → (width height : ℕ) → Fits b width height → All (IsCornerOf width height) (map start_of es)
corners b policy sign s es c width height fits =
    All-map (IsCornerOf width height) start_of es
    (λ k d short.
    let e : Edge = get_or es k d in
    let on = edge_on b width height fits e (all_boundary b policy sign s es c k d short) in
    let column : e.x ≤ width = on.column in
    let row : e.y ≤ height = on.row in
    record { from_left = omega (arith, ints); to_right = omega (arith, ints); from_bottom = omega (arith, ints); to_top = omega (arith, ints) })

-- The points of a walk, by the edges that it goes along.
use Rattle.std.proofs.Common.{◌≡◌, ℕ, ◌<◌, Bool, true, false, List, get_or, All, map, count_by, refl, ap, sym, subst, ◌∙◌, inl, inr, arith}
use Rattle.std.proofs.Math.Path.{fun_ext}
use Rattle.std.proofs.lemmas.Bool.{cases_lt}
use Rattle.std.proofs.lemmas.List.Elements.{All-map}
use Rattle.pt_core.specs.declared.point.Point.{Point}
use Rattle.pt_core.specs.declared.path.Sign.{Sign}
use Rattle.pt_core.specs.declared.policy.Policy.{Policy}
use Rattle.bit_image.specs.Image.{Image, Fits, differ}
use Rattle.bit_image.specs.FirstBlack.{IsFirstBlack}
use Rattle.boundary_edges.specs.Inner.GridEdges.{IsLineOn}
use Rattle.boundary_edges.specs.GridEdges.{is_in_row}
use Rattle.path_decompose.specs.Walk.{first_edge, IsBoundaryWalk}
use Rattle.boundary_edges.specs.Inside.{lines_of, is_crossed, is_odd, inside}
use Rattle.path_decompose.specs.Inner.Start.{IsWhiteThrough}
use Rattle.path_decompose.proofs.EdgeLine.{line_of, lines_of-run, inside_edges, inside-run}
use Rattle.path_decompose.proofs.Round.{IsCircuit, circuit_of}
use Rattle.path_decompose.proofs.Parity.{is_odd-count, odd_by-agree}
use Rattle.path_decompose.proofs.Start.{inside_before, inside_start}
use Rattle.path_decompose.proofs.Beyond.{all_lines_on, crossed_right, fits_within, white_off}

pub walk_circuit : (b : Image) (policy : Policy) (sign : Sign) (x y : ℕ) (points : List Point) → IsFirstBlack b x y → (w : IsBoundaryWalk b policy sign x y points) → IsCircuit b policy sign (first_edge x y) w.edges
walk_circuit b policy sign x y points first w = circuit_of b policy sign x y w.edges first w.round

pub walk_lines : (b : Image) (policy : Policy) (sign : Sign) (x y : ℕ) (points : List Point) → IsFirstBlack b x y → (w : IsBoundaryWalk b policy sign x y points) → lines_of points ≡ map line_of w.edges
walk_lines b policy sign x y points first w =
    let c = walk_circuit b policy sign x y points first w in
    ap lines_of w.starts ∙ lines_of-run b policy sign (first_edge x y) w.edges c.boundary c.closes

pub walk_inside : (b : Image) (policy : Policy) (sign : Sign) (x y : ℕ) (points : List Point) → IsFirstBlack b x y → (w : IsBoundaryWalk b policy sign x y points) → inside points ≡ inside_edges w.edges
walk_inside b policy sign x y points first w =
    let c = walk_circuit b policy sign x y points first w in
    fun_ext (λ u. fun_ext (λ v. ap (λ ps. inside ps u v) w.starts ∙ inside-run b policy sign (first_edge x y) w.edges c.boundary c.closes u v))

pub walk_lines_on : (b : Image) (policy : Policy) (sign : Sign) (x y : ℕ) (points : List Point) (width height : ℕ) → IsFirstBlack b x y → IsBoundaryWalk b policy sign x y points → Fits b width height → All (IsLineOn width height) (lines_of points)
walk_lines_on b policy sign x y points width height first w fits =
    subst (All (IsLineOn width height)) (sym (walk_lines b policy sign x y points first w))
    (All-map (IsLineOn width height) line_of w.edges (all_lines_on b policy sign (first_edge x y) w.edges (walk_circuit b policy sign x y points first w) width height fits))

pub walk_fits : (b : Image) (policy : Policy) (sign : Sign) (x y : ℕ) (points : List Point) (width height : ℕ) → IsFirstBlack b x y → IsBoundaryWalk b policy sign x y points → Fits b width height → Fits (inside points) width height
walk_fits b policy sign x y points width height first w fits =
    subst (λ c. Fits c width height) (sym (walk_inside b policy sign x y points first w))
    (fits_within b policy sign (first_edge x y) w.edges (walk_circuit b policy sign x y points first w) width height fits)

-- an image is white where both of two images are, or where both are black
both_black : (p q : Bool) → p ≡ true → q ≡ true → differ p q ≡ false
both_black p q black inside = ap (λ t. differ t q) black ∙ ap (differ true) inside

both_white : (p q : Bool) → p ≡ false → q ≡ false → differ p q ≡ false
both_white p q white outside = ap (λ t. differ t q) white ∙ outside

-- once the inside is inverted, all is white through the pixel where the walk starts
pub white_through : (b c : Image) (policy : Policy) (sign : Sign) (x y width : ℕ) (points : List Point) → IsFirstBlack b x y → IsBoundaryWalk b policy sign x y points → x < width → ((u v : ℕ) → u < width → c u v ≡ differ (b u v) (inside points u v)) → IsWhiteThrough c width x y
white_through b c policy sign x y width points first w on_page flipped =
    let circuit = walk_circuit b policy sign x y points first w in
    let to_edges : (u v : ℕ) → inside points u v ≡ inside_edges w.edges u v = λ u v. ap (λ i. i u v) (walk_inside b policy sign x y points first w) in
    record {
      above = λ u v left higher.
          flipped u v left
          ∙ both_white (b u v) (inside points u v) (first.above u v higher) (to_edges u v ∙ inside_before b policy sign x y u v w.edges first circuit (inl higher));
      left = λ u before. elim (cases_lt u x) [
        | inl left ↦
            flipped u y (omega arith)
            ∙ both_white (b u y) (inside points u y) (first.left u left) (to_edges u y ∙ inside_before b policy sign x y u y w.edges first circuit (inr (refl, left)))
        | inr right ↦
            let here : u ≡ x = omega arith in
            ap (λ k. c k y) here ∙ flipped x y on_page
            ∙ both_black (b x y) (inside points x y) first.black (to_edges x y ∙ inside_start b policy sign x y w.edges first circuit)
      ];
    }

-- each row has an even number of the walk's upright lines, since right of the page none is inside
pub walk_rows_even : (b : Image) (policy : Policy) (sign : Sign) (x y : ℕ) (points : List Point) (width height : ℕ) → IsFirstBlack b x y → IsBoundaryWalk b policy sign x y points → Fits b width height
    → (v : ℕ) → is_odd (count_by (is_in_row v) (lines_of points)) ≡ false
walk_rows_even b policy sign x y points width height first w fits v =
    let on = walk_lines_on b policy sign x y points width height first w fits in
    is_odd-count (is_in_row v) (lines_of points)
    ∙ odd_by-agree (is_in_row v) (is_crossed width v) (lines_of points)
    (λ k d short. sym (crossed_right width height width v (get_or (lines_of points) k d) (on k d short) (omega arith)))
    ∙ sym (is_odd-count (is_crossed width v) (lines_of points))
    ∙ white_off (inside points) width height width v (walk_fits b policy sign x y points width height first w fits) (omega arith)

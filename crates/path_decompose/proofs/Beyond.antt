-- No pixel off the page is inside a path.
use Rattle.std.proofs.Common.{◌≡◌, ℕ, ◌≤◌, false, List, get_or, All, refl, sym, ◌∙◌, inl, inr, arith}
use Rattle.std.proofs.lemmas.Bool.{cases_Bool, cases_lt, false≢true}
use Rattle.std.proofs.lemmas.Bool.Decides.{nat_tests}
use Rattle.pt_core.specs.declared.path.Sign.{Sign}
use Rattle.pt_core.specs.declared.policy.Policy.{Policy}
use Rattle.bit_image.specs.Image.{Image, Fits}
use Rattle.turn_policies.specs.declared.edge.Edge.{Edge}
use Rattle.boundary_edges.specs.GridEdges.{GridEdge, upright, level, is_in_row}
use Rattle.boundary_edges.specs.Inner.GridEdges.{IsLineOn}
use Rattle.boundary_edges.specs.Inside.{is_crossed}
use Rattle.path_decompose.proofs.Parity.{odd_by-agree}
use Rattle.path_decompose.proofs.EdgeLine.{line_of, inside_edges}
use Rattle.path_decompose.proofs.Cut.{row_even}
use Rattle.path_decompose.proofs.Round.{IsCircuit, all_boundary}
use Rattle.path_decompose.proofs.Once.{none_passes}
use Rattle.path_decompose.proofs.OnPage.{edge_on}

pub all_lines_on : (b : Image) (policy : Policy) (sign : Sign) (s : Edge) (es : List Edge) → IsCircuit b policy sign s es → (width height : ℕ) → Fits b width height → All (λ e. IsLineOn width height (line_of e)) es
all_lines_on b policy sign s es c width height fits =
    λ k d short. (edge_on b width height fits (get_or es k d) (all_boundary b policy sign s es c k d short)).line

-- right of the page each upright line of the row has been crossed
pub crossed_right : (width height x y : ℕ) (l : GridEdge) → IsLineOn width height l → width ≤ x → is_crossed x y l ≡ is_in_row y l
crossed_right width height x y (level u v) on right = refl
crossed_right width height x y (upright u v) on right = grind (arith, nat_tests)

not_crossed_above : (width height x y : ℕ) (l : GridEdge) → IsLineOn width height l → height ≤ y → is_crossed x y l ≡ false
not_crossed_above width height x y (level u v) on above = refl
not_crossed_above width height x y (upright u v) on above = grind (arith, nat_tests)

inside_right : (b : Image) (policy : Policy) (sign : Sign) (s : Edge) (es : List Edge) → IsCircuit b policy sign s es → (width height : ℕ) → Fits b width height → (x y : ℕ) → width ≤ x → inside_edges es x y ≡ false
inside_right b policy sign s es c width height fits x y right =
    odd_by-agree (λ e. is_crossed x y (line_of e)) (λ e. is_in_row y (line_of e)) es
    (λ k d short. crossed_right width height x y (line_of (get_or es k d)) (all_lines_on b policy sign s es c width height fits k d short) right)
    ∙ row_even b policy sign s es c.boundary c.closes y

inside_above : (b : Image) (policy : Policy) (sign : Sign) (s : Edge) (es : List Edge) → IsCircuit b policy sign s es → (width height : ℕ) → Fits b width height → (x y : ℕ) → height ≤ y → inside_edges es x y ≡ false
inside_above b policy sign s es c width height fits x y above =
    (none_passes (λ e. is_crossed x y (line_of e)) es
    (λ k d short. not_crossed_above width height x y (line_of (get_or es k d)) (all_lines_on b policy sign s es c width height fits k d short) above)).0

-- the inside lies on each page that the image fits
pub fits_within : (b : Image) (policy : Policy) (sign : Sign) (s : Edge) (es : List Edge) → IsCircuit b policy sign s es → (width height : ℕ) → Fits b width height → Fits (inside_edges es) width height
fits_within b policy sign s es c width height fits = λ x y black. (
  elim (cases_lt x width) [ inl on ↦ on | inr right ↦ absurd (false≢true (sym (inside_right b policy sign s es c width height fits x y right) ∙ black)) ],
  elim (cases_lt y height) [ inl on ↦ on | inr above ↦ absurd (false≢true (sym (inside_above b policy sign s es c width height fits x y above) ∙ black)) ],
)

-- an image that fits is white off the page
pub white_off : (b : Image) (width height x y : ℕ) → Fits b width height → width ≤ x → b x y ≡ false
white_off b width height x y fits right =
    elim (cases_Bool (b x y)) [ inl black ↦ let at = fits x y black in absurd (omega arith) | inr white ↦ white ]

-- A page has one decomposition under a policy.
use Rattle.std.proofs.Common.{◌≡◌, ℕ, ◌<◌, List, [], ◌∷◌, map, refl, ap, sym, subst, ◌∙◌, inl, inr}
use Rattle.std.proofs.lemmas.Bool.{cases_order, false≢true}
use Rattle.pt_core.specs.declared.point.Point.{Point}
use Rattle.pt_core.specs.declared.path.Path.{Path}
use Rattle.pt_core.specs.declared.path.Sign.{Sign}
use Rattle.pt_core.specs.declared.policy.Policy.{Policy}
use Rattle.bit_image.specs.Image.{Image}
use Rattle.bit_image.specs.Page.{Page, image_of}
use Rattle.bit_image.specs.FirstBlack.{IsFirstBlack}
use Rattle.path_decompose.specs.Walk.{start_of, first_edge}
use Rattle.boundary_edges.specs.Inside.{inside, black_count}
use Rattle.path_decompose.specs.Decomposition.{sign_at, inverted, IsNextPath, IsDecomposed}
use Rattle.path_decompose.proofs.Round.{IsCircuit, one_circuit}
use Rattle.path_decompose.proofs.NextPath.{next_circuit}

one_row : (b : Image) (x y u v : ℕ) → IsFirstBlack b x y → IsFirstBlack b u v → y < v → ⊥
one_row b x y u v first other above = false≢true (sym (first.above u v above) ∙ other.black)

one_column : (b : Image) (x y u : ℕ) → IsFirstBlack b x y → IsFirstBlack b u y → u < x → ⊥
one_column b x y u first other left = false≢true (sym (first.left u left) ∙ other.black)

first_row : (b : Image) (x y u v : ℕ) → IsFirstBlack b x y → IsFirstBlack b u v → y ≡ v
first_row b x y u v first other =
    elim (cases_order y v) [
      | inl same ↦ same
      | inr (inl above) ↦ absurd (one_row b x y u v first other above)
      | inr (inr below) ↦ absurd (one_row b u v x y other first below)
    ]

first_column : (b : Image) (x y u : ℕ) → IsFirstBlack b x y → IsFirstBlack b u y → x ≡ u
first_column b x y u first other =
    elim (cases_order x u) [
      | inl same ↦ same
      | inr (inl right) ↦ absurd (one_column b u y x other first right)
      | inr (inr left) ↦ absurd (one_column b x y u first other left)
    ]

same_path : (p q : Path) → p.sign ≡ q.sign → p.area ≡ q.area → p.points ≡ q.points → p ≡ q
same_path p q signs areas points =
    let with_sign : Sign → Path = λ s. record { sign = s; area = p.area; points = p.points } in
    let with_area : ℕ → Path = λ n. record { sign = q.sign; area = n; points = p.points } in
    let with_points : List Point → Path = λ ps. record { sign = q.sign; area = q.area; points = ps } in
    ap with_sign signs ∙ ap with_area areas ∙ ap with_points points

-- the next path is one path
one_next : (page : Page) (policy : Policy) (b : Image) (p q : Path) → IsNextPath page policy b p → IsNextPath page policy b q → p ≡ q
one_next page policy b p q n m =
    let rows : n.y ≡ m.y = first_row b n.x n.y m.x m.y n.first m.first in
    let columns : n.x ≡ m.x = first_column b n.x n.y m.x n.first (subst (IsFirstBlack b m.x) (sym rows) m.first) in
    let signs : p.sign ≡ q.sign = n.sign ∙ ap (λ x. sign_at (image_of page) x n.y) columns ∙ ap (sign_at (image_of page) m.x) rows ∙ sym m.sign in
    let starts : first_edge n.x n.y ≡ first_edge m.x m.y = ap (λ x. first_edge x n.y) columns ∙ ap (first_edge m.x) rows in
    let circuit : IsCircuit b policy q.sign (first_edge m.x m.y) n.walk.edges =
    subst (λ s. IsCircuit b policy q.sign s n.walk.edges) starts (subst (λ sign. IsCircuit b policy sign (first_edge n.x n.y) n.walk.edges) signs (next_circuit page policy b p n)) in
    let edges : n.walk.edges ≡ m.walk.edges = one_circuit b policy q.sign (first_edge m.x m.y) n.walk.edges m.walk.edges circuit (next_circuit page policy b q m) in
    let points : p.points ≡ q.points = n.walk.starts ∙ ap (map start_of) edges ∙ sym m.walk.starts in
    same_path p q signs (n.area ∙ ap (λ ps. black_count (inside ps) page.width page.height) points ∙ sym m.area) points

pub one_decomposition : (page : Page) (policy : Policy) (b : Image) (ps qs : List Path) → IsDecomposed page policy b ps → IsDecomposed page policy b qs → ps ≡ qs
one_decomposition page policy b [] [] d e = refl
one_decomposition page policy b [] (q ∷ qs) d e = absurd (false≢true (sym (d e.0.x e.0.y) ∙ e.0.first.black))
one_decomposition page policy b (p ∷ ps) [] d e = absurd (false≢true (sym (e d.0.x d.0.y) ∙ d.0.first.black))
one_decomposition page policy b (p ∷ ps) (q ∷ qs) d e =
    let paths : p ≡ q = one_next page policy b p q d.0 e.0 in
    let rest : IsDecomposed page policy (inverted b q.points) ps = subst (λ path. IsDecomposed page policy (inverted b path.points) ps) paths d.1 in
    ap (λ path. path ∷ ps) paths ∙ ap (λ l. q ∷ l) (one_decomposition page policy (inverted b q.points) ps qs rest e.1)

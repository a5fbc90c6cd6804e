-- Vertices and their neighbours round an outline.
use Rattle.std.proofs.Common.{◌≡◌, ℕ, zero, suc, ◌+◌, ◌-◌, ◌%◌, ◌<◌, List, [], ◌∷◌, ◌++◌, length, get_or, map, ap, sym, subst, ◌∙◌, arith}
use Rattle.std.proofs.Math.Nat.{mod-eq_of_lt, mod-eq-sub-mod}
use Rattle.std.proofs.lemmas.List.Elements.{All-append}
use Rattle.std.proofs.lemmas.List.FromFn.{map-range_with_len_more}
use Rattle.std.specs.List.{All, range_with_len}
use Rattle.pt_core.specs.ClosedWalk.{origin, point_at}
use Rattle.pt_core.specs.declared.piece.Piece.{Piece}
use Rattle.pt_core.specs.declared.point.Point.{Point}
use Rattle.corner_smooth.specs.Corner.{corner_piece, piece_of}

pub here : (vertices : List Point) (j : ℕ) → j < length vertices → get_or vertices j origin ≡ point_at vertices j
here vertices j within = ap (λ i. get_or vertices i origin) (sym (mod-eq_of_lt within))

-- a vertex comes before the next one
pub one_lap_on : (vertices : List Point) (j : ℕ) → j < length vertices
    → get_or vertices j origin ≡ point_at vertices (j + 1 + (length vertices - 1))
one_lap_on vertices j within =
    let n = length vertices in
    let e : j + 1 + (n - 1) ≡ j + n = omega arith in
    let back : j + n - n ≡ j = omega arith in
    here vertices j within
    ∙ ap (λ i. get_or vertices i origin)
    (sym (ap (λ i. i % n) e ∙ mod-eq-sub-mod {n = j + n} {m = n} (omega arith) ∙ ap (λ i. i % n) back))

-- the piece that comes next
pub one_more : (alphamax : ℕ) (vertices : List Point) (j next : ℕ) (so_far more : List Piece) (before : Point) (piece : Piece)
    → j < length vertices → next ≡ (j + 1) % length vertices → before ≡ point_at vertices (j + (length vertices - 1))
    → piece ≡ piece_of alphamax before (get_or vertices j origin) (get_or vertices next origin)
    → so_far ≡ map (corner_piece alphamax vertices) (range_with_len 0 j) → more ≡ so_far ++ piece ∷ []
    → more ≡ map (corner_piece alphamax vertices) (range_with_len 0 (j + 1))
one_more alphamax vertices j next so_far more before piece within is_next is_before is_piece pieces pushed =
    let at = here vertices j within in
    let after : get_or vertices next origin ≡ point_at vertices (j + 1) = ap (λ i. get_or vertices i origin) is_next in
    let is : piece ≡ corner_piece alphamax vertices j = cc in
    let step = map-range_with_len_more (corner_piece alphamax vertices) 0 j j (omega arith) in
    cc

only : (P : Piece → Type 0) (piece : Piece) → P piece → (k : ℕ) (d : Piece) → k < length (piece ∷ []) → P (get_or (piece ∷ []) k d)
only P piece here zero d within = here
only P piece here (suc k) d within = absurd (omega arith)

-- what holds of each piece so far, and of the next one
pub one_more_such : (P : Piece → Type 0) (so_far more : List Piece) (piece : Piece) → All P so_far → P piece → more ≡ so_far ++ piece ∷ [] → All P more
one_more_such P so_far more piece each here pushed =
    let Q : List Piece → Type 0 = λ pieces. All P pieces in
    subst Q (sym pushed) (All-append P so_far (piece ∷ []) each (only P piece here))

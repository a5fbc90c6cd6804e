-- The lines from a corner of a path on, over the corners that are left.
use Rattle.std.proofs.Common.{◌≡◌, ℕ, ◌+◌, ◌<◌, ◌≤◌, List, [], ◌∷◌, length, get_or, drop, refl, ap, arith, add-one}
use Rattle.std.proofs.Math.Seq.{drop-cons}
use Rattle.std.proofs.lemmas.List.{drop_all}
use Rattle.pt_core.specs.declared.point.Point.{Point}
use Rattle.boundary_edges.specs.Inside.{line_between, lines_to, lines_of}

pub lines_to-drop : (end from : Point) (rest : List Point) (i : ℕ) (d : Point) → i < length rest → lines_to end from (drop i rest) ≡ line_between from (get_or rest i d) ∷ lines_to end (get_or rest i d) (drop (i + 1) rest)
lines_to-drop end from rest i d below = rw (add-one, drop-cons rest i d) refl

pub lines_to-end : (end from : Point) (rest : List Point) (i : ℕ) → length rest ≤ i → lines_to end from (drop i rest) ≡ line_between from end ∷ []
lines_to-end end from rest i past = ap (lines_to end from) (drop_all i rest past)

pub lines_of-drop : (points : List Point) (d : Point) → 1 ≤ length points → lines_of points ≡ lines_to (get_or points 0 d) (get_or points 0 d) (drop 1 points)
lines_of-drop [] d some = absurd (omega (arith, some))
lines_of-drop (p ∷ ps) d some = refl

-- Outlines as closed polygons. Each curve, a cubic Bezier curve, is replaced by chords between points on it.
use Rattle.std.specs.Prelude.{ℕ, ◌*◌, ◌-◌, ℤ, pos, ◌+ℤ◌, ◌*ℤ◌, List, [], ◌∷◌, ◌++◌, map}
use Rattle.pt_core.specs.declared.piece.Piece.{Piece}
use Rattle.pt_core.specs.declared.piece.Piece.TheVariants.{Corner, Curve}
use Rattle.pt_core.specs.declared.point.Point.{Point}
use Rattle.pt_core.specs.ClosedWalk.{origin}
use Rattle.pt_core.specs.Floor.{floor_of}
use Rattle.pt_core.specs.Outlines.{end_of, start_from}

-- the mean of four coordinates with these weights, which add up to 512, rounded down
abbrev pub mean_of : ℕ → ℕ → ℕ → ℕ → ℤ → ℤ → ℤ → ℤ → ℤ
mean_of i j k l a b c d = floor_of (((pos i *ℤ a +ℤ pos j *ℤ b) +ℤ pos k *ℤ c) +ℤ pos l *ℤ d) 512

-- the mean of four points with these weights
abbrev pub mean_point : ℕ → ℕ → ℕ → ℕ → Point → Point → Point → Point → Point
mean_point i j k l p q r s = record { x = mean_of i j k l p.x q.x r.x s.x; y = mean_of i j k l p.y q.y r.y s.y }

-- the point of a curve at k eighths of its parameter; the weights are Bernstein's polynomials of degree three, times
-- 512
abbrev pub curve_point : Point → Point → Point → Point → ℕ → Point
curve_point start first second end k =
    mean_point ((8 - k) * (8 - k) * (8 - k)) (3 * k * (8 - k) * (8 - k)) (3 * k * k * (8 - k)) (k * k * k) start first second end

-- the points of a curve at 1/8, 2/8 .. 8/8 of its parameter; the last one is its end
abbrev pub curve_points : Point → Point → Point → Point → List Point
curve_points start first second end = map (curve_point start first second end) (1 ∷ 2 ∷ 3 ∷ 4 ∷ 5 ∷ 6 ∷ 7 ∷ 8 ∷ [])

-- the points of a piece that begins at `from`, without its start: the ends of a corner's two lines, or the points of
-- the curve
abbrev pub piece_points : Point → Piece → List Point
piece_points from (Corner at end) = at ∷ end ∷ []
piece_points from (Curve first second end al) = curve_points from first second end

-- the points of pieces in a row, without the start of the first one; each piece begins at the end of the one before
abbrev pub points_from : Point → List Piece → List Point
points_from from [] = []
points_from from (piece ∷ pieces) = piece_points from piece ++ points_from (end_of piece) pieces

-- the points of an outline, from its start to its start again
abbrev pub chord_points : List Piece → List Point
chord_points pieces = start_from origin pieces ∷ points_from (start_from origin pieces) pieces

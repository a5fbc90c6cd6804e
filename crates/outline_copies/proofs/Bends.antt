-- The bends of a moved outline are the moved bends.
use Rattle.std.proofs.Common.{◌≡◌, ℕ, ◌+◌, ◌-◌, ◌<◌, ℤ, Bool, length, map, ap, ◌∙◌, refl, arith}
use Rattle.std.proofs.lemmas.List.{length-map}
use Rattle.std.specs.List.{range_with_len}
use Rattle.pt_core.specs.ClosedWalk.{origin}
use Rattle.pt_core.specs.Outlines.{end_of}
use Rattle.pt_core.specs.declared.piece.Piece.{Piece}
use Rattle.pt_core.specs.declared.piece.Piece.TheVariants.{Corner, Curve}
use Rattle.pt_core.specs.declared.point.Point.{Point}
use Rattle.curve_join.specs.Bends.{bend_at, bend_of, bends_of, bulge_of, own_area}
use Rattle.curve_join.specs.Join.{no_bend}
use Rattle.curve_join.specs.Outline.{Outline, is_curve, outline, piece_at, start_at, vertex, vertex_after, vertex_before}
use Rattle.curve_join.specs.Vector.{sense_of, square_of, vector_cross, way_of}
use Rattle.curve_join.specs.declared.bend.Bend.{Bend}
use Rattle.curve_join.specs.declared.vector.Displacement.{Displacement}
use Rattle.outline_copies.specs.Moved.{moved_by, piece_moved_by}
use Rattle.outline_copies.proofs.Lists.{mapped_range, moved_at, moved_round}
use Rattle.outline_copies.proofs.Vertices.{same_way}

-- the bend with its points moved; its ways, areas and squares stay the same
abbrev pub bend_moved : ℤ → ℤ → Bend → Bend
bend_moved right up b = record b { at = moved_by right up b.at; start = moved_by right up b.start; end = moved_by right up b.end }

-- the outline, moved
abbrev pub outline_moved : ℤ → ℤ → Outline → Outline
outline_moved right up o = outline (map (moved_by right up) o.vertices) (map (piece_moved_by right up) o.pieces)

pub way_stays : (right up : ℤ) (p q : Point) → way_of (moved_by right up p) (moved_by right up q) ≡ way_of p q
way_stays right up p q =
    let x = same_way q.x p.x right in
    let y = same_way q.y p.y up in
    λ i. record { x = x i; y = y i }

-- ---- one bend, by the ways between its points

abbrev bend_with : Bool → ℕ → Point → Point → Point → Displacement → Displacement → Displacement → Displacement → Displacement → Displacement → Bend
bend_with curve al at start end arrives leaves first second chord out = record {
  curve = curve;
  at = at;
  start = start;
  end = end;
  arrives = arrives;
  leaves = leaves;
  leaves_square = square_of leaves;
  chord = chord;
  chord_square = square_of chord;
  turn = vector_cross arrives leaves;
  area = own_area first second chord;
  bulge = bulge_of (sense_of (vector_cross arrives leaves)) al chord out;
}

one_bend : (right up : ℤ) (before at after start : Point) (piece : Piece)
    → bend_of (moved_by right up before) (moved_by right up at) (moved_by right up after) (moved_by right up start) (piece_moved_by right up piece)
    ≡ bend_moved right up (bend_of before at after start piece)
one_bend right up before at after start (Corner corner end) =
    let arrives = way_stays right up before at in
    let leaves = way_stays right up at after in
    let control = way_stays right up start corner in
    let chord = way_stays right up start end in
    let out = way_stays right up start at in
    λ i. bend_with (is_curve (Corner corner end)) 0 (moved_by right up at) (moved_by right up start) (moved_by right up end)
    (arrives i) (leaves i) (control i) (control i) (chord i) (out i)
one_bend right up before at after start (Curve first second end al) =
    let arrives = way_stays right up before at in
    let leaves = way_stays right up at after in
    let towards_first = way_stays right up start first in
    let towards_second = way_stays right up start second in
    let chord = way_stays right up start end in
    let out = way_stays right up start at in
    λ i. bend_with (is_curve (Curve first second end al)) al (moved_by right up at) (moved_by right up start) (moved_by right up end)
    (arrives i) (leaves i) (towards_first i) (towards_second i) (chord i) (out i)

end_moved : (right up : ℤ) (piece : Piece) → end_of (piece_moved_by right up piece) ≡ moved_by right up (end_of piece)
end_moved right up (Corner corner end) = refl
end_moved right up (Curve first second end al) = refl

-- ---- all bends

module _ (right up : ℤ) (o : Outline) (one_each : length o.pieces ≡ length o.vertices) where
  bend_there : (some : 0 < length o.pieces) (k : ℕ) → bend_at (outline_moved right up o) k ≡ bend_moved right up (bend_at o k)
  bend_there some k =
      let corners : 0 < length o.vertices = omega (arith, one_each) in
      let vs = map (moved_by right up) o.vertices in
      let ps = map (piece_moved_by right up) o.pieces in
      let before = ap (λ n. vertex (outline_moved right up o) (k + (n - 1))) (length-map o.vertices (moved_by right up))
      ∙ moved_at right up o.vertices (k + (length o.vertices - 1)) corners in
      let at = moved_at right up o.vertices k corners in
      let after = moved_at right up o.vertices (k + 1) corners in
      let start = ap (λ n. end_of (piece_at ps (k + (n - 1)))) (length-map o.pieces (piece_moved_by right up))
      ∙ ap end_of (moved_round (piece_moved_by right up) o.pieces (Corner origin origin) (Corner origin origin) (k + (length o.pieces - 1)) some)
      ∙ end_moved right up (piece_at o.pieces (k + (length o.pieces - 1))) in
      let piece = moved_round (piece_moved_by right up) o.pieces (Corner origin origin) (Corner origin origin) k some in
      (λ i. bend_of (before i) (at i) (after i) (start i) (piece i))
      ∙ one_bend right up (vertex_before o k) (vertex o k) (vertex_after o k) (start_at o k) (piece_at o.pieces k)

  pub bends_moved : bends_of (outline_moved right up o) ≡ map (bend_moved right up) (bends_of o)
  unfolding bends_of
  bends_moved =
      ap (λ n. map (bend_at (outline_moved right up o)) (range_with_len 0 n)) (length-map o.pieces (piece_moved_by right up))
      ∙ mapped_range (bend_moved right up) (bend_at o) (bend_at (outline_moved right up o)) (length o.pieces) no_bend no_bend
      (λ k h. bend_there (omega arith) k)

use Rattle.std.proofs.Common.{◌≡◌, drop}
use Rattle.bit_image.specs.Image.{differ}
use Rattle.boundary_edges.specs.Inside.{lines_to, is_crossed, inside}
use Rattle.path_decompose.proofs.Parity.{odd_by}
use Rattle.path_decompose.proofs.interior.inside.Given as goal

-- the lines so far, and those still to come
abbrev pub invariant-corners : goal.invariant-corners
invariant-corners l = differ l.odd (odd_by (is_crossed l.x l.y) (lines_to l.first l.from (drop l.to-index l.rest))) ≡ inside l.fn.path.points l.x l.y

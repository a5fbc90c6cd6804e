-- The shapes of a trace, and what documents in units have of them.
use Rattle.std.specs.Prelude.{ℕ, pos, Bool, true, false, List, [], ◌∷◌, ◌++◌, map}
use Rattle.pt_core.specs.declared.piece.Piece.{Piece}
use Rattle.pt_core.specs.declared.trace.Group.{Group}
use Rattle.pt_core.specs.declared.trace.Trace.{Trace}
use Rattle.pt_core.specs.Outlines.{outline_at}
use Rattle.outline_pen.specs.Shapes.{more_text, outline_text}
use Rattle.svg_backend.specs.SvgText.{svg_mark}
use Rattle.document_readings.specs.PsReading.{Filled, quotient}
use Rattle.document_readings.specs.Places.{outline_subpath}

-- the outlines of a shape: its outer one, and its holes
abbrev pub group_outlines : List (List Piece) → Group → List (List Piece)
group_outlines outlines group = outline_at outlines group.outer ∷ map (outline_at outlines) group.holes

-- one shape of all outlines, or none where there is no outline
abbrev pub one_shape : List (List Piece) → List (List (List Piece))
one_shape [] = []
one_shape (first ∷ more) = (first ∷ more) ∷ []

-- the shapes: one of all outlines, or one for each group
abbrev pub shapes_of : Bool → Trace → List (List (List Piece))
shapes_of true trace = one_shape trace.outlines
shapes_of false trace = map (group_outlines trace.outlines) trace.groups

-- the path data of outlines: what stands between the quotes of `d`
abbrev pub path_data : ℕ → List (List Piece) → List ℕ
path_data unit [] = []
path_data unit (first ∷ more) = outline_text svg_mark unit first ++ more_text svg_mark unit more

-- the shapes of the groups as a program fills them, under a scale by which so many units are a point
abbrev pub filled_shapes : ℕ → Trace → List Filled
filled_shapes unit trace = map (λ shape. record { scales = (quotient (pos 1) (pos unit), quotient (pos 1) (pos unit)) ∷ []; subpaths = map (outline_subpath unit) shape }) (shapes_of false trace)

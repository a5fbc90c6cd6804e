-- Polylines of a drawing interchange file (DXF Reference: "ASCII DXF files", on groups; "ENTITIES section"; "POLYLINE",
-- "VERTEX", "SEQEND"). A group is a line with its code, which may be indented by spaces, and a line with its value. Covered
-- is a file of one section, ENTITIES, with polylines in the plane as release 12 has them, whose layers are named and passed
-- over, and whose vertices end with a SEQEND without groups. Outside are headers, tables, blocks, other entities, heights,
-- bulges, handles, comments, exponents, and carriage returns.
use Rattle.std.specs.Prelude.{ℕ, Bool, true, false, cond, if◌then◌else◌, List, [], ◌∷◌, ◌++◌, codes, Option, Some, None, option_map, option_and_then, unwrap_or, bytes_eq}
use Rattle.document_readings.specs.Decimals.{Decimal, Position, decimal_of}
use Rattle.document_readings.specs.TextLines.{text_lines, without_spaces}

-- what a group says
pub data DxfGroup : Type 0 where
  section : DxfGroup  -- 0: a section begins
  end_of_section : DxfGroup  -- 0: it ends
  end_of_file : DxfGroup  -- 0: the file ends
  polyline : DxfGroup  -- 0: a polyline begins
  vertex : DxfGroup  -- 0: so does one of its vertices
  end_of_sequence : DxfGroup  -- 0: its vertices end
  name : List ℕ → DxfGroup  -- 2: the name of the section
  layer : DxfGroup  -- 8: the layer
  vertices_follow : DxfGroup  -- 66: vertices follow, where this is 1
  flags : Bool → DxfGroup  -- 70: 1 or 0, of a polyline whether it is closed
  across : Option Decimal → DxfGroup  -- 10: how far to the right
  upwards : Option Decimal → DxfGroup  -- 20: how far up
  other : DxfGroup

-- a group of code 0 begins or ends something
abbrev pub entity_of : List ℕ → DxfGroup
entity_of value =
    cond (bytes_eq value (codes "SECTION")) section (cond (bytes_eq value (codes "ENDSEC")) end_of_section (cond (bytes_eq value (codes "EOF")) end_of_file
    (cond (bytes_eq value (codes "POLYLINE")) polyline (cond (bytes_eq value (codes "VERTEX")) vertex (cond (bytes_eq value (codes "SEQEND")) end_of_sequence other)))))

-- a whole number may be indented too
abbrev pub flags_of : List ℕ → DxfGroup
flags_of value = cond (bytes_eq value (codes "1")) (flags true) (cond (bytes_eq value (codes "0")) (flags false) other)

-- what the group of this code and this value says
abbrev pub group_of : List ℕ → List ℕ → DxfGroup
group_of code value =
    cond (bytes_eq code (codes "0")) (entity_of value) (cond (bytes_eq code (codes "2")) (name value) (cond (bytes_eq code (codes "8")) layer
    (cond (bytes_eq code (codes "66")) (cond (bytes_eq (without_spaces value) (codes "1")) vertices_follow other)
    (cond (bytes_eq code (codes "70")) (flags_of (without_spaces value))
    (cond (bytes_eq code (codes "10")) (across (decimal_of value)) (cond (bytes_eq code (codes "20")) (upwards (decimal_of value)) other))))))

-- lines two by two; behind the last line feed nothing stands
abbrev pub dxf_groups : List (List ℕ) → Option (List DxfGroup)
dxf_groups ([] ∷ []) = Some []
dxf_groups (code ∷ value ∷ lines) = option_map (λ more. group_of (without_spaces code) value ∷ more) (dxf_groups lines)
dxf_groups lines = None

-- whether it is closed, and its vertices in order
pub record Polyline : Type 0 where
  pub closed : Bool
  pub vertices : List Position

-- the position of a vertex of which its layer and both coordinates were said
abbrev pub position_said : Bool → Option Decimal → Option Decimal → Option Position
position_said true (Some x) (Some y) = Some (record { x = x; y = y })
position_said layered x y = None

-- where the file has come to
pub data DxfState : Type 0 where
  beginning : DxfState  -- at its beginning
  naming : DxfState  -- where the section is named
  among : List Polyline → DxfState  -- among polylines
  -- in a polyline itself: whether its layer was said, and that vertices follow; and whether it is closed, where that was
  heading : List Polyline → Bool → Bool → Option Bool → DxfState
  -- in a vertex behind others, of a polyline that is closed or not: whether its layer was said, and its flags; and its
  -- coordinates, where they were
  within : List Polyline → Bool → List Position → Bool → Bool → Option Decimal → Option Decimal → DxfState
  behind : List Polyline → DxfState  -- behind the section
  ended : List Polyline → DxfState  -- at the end

-- what a group does: each is said at most once, a vertex has its layer and both coordinates, and a polyline of which
-- nothing else is said is open
abbrev pub dxf_step : DxfState → DxfGroup → Option DxfState
dxf_step beginning section = Some naming
dxf_step naming (name value) = if bytes_eq value (codes "ENTITIES") then Some (among []) else None
dxf_step (among done) polyline = Some (heading done false false None)
dxf_step (among done) end_of_section = Some (behind done)
dxf_step (heading done false followed closed) layer = Some (heading done true followed closed)
dxf_step (heading done layered false closed) vertices_follow = Some (heading done layered true closed)
dxf_step (heading done layered followed None) (flags closed) = Some (heading done layered followed (Some closed))
dxf_step (heading done true true closed) vertex = Some (within done (unwrap_or closed false) [] false false None None)
dxf_step (within done closed vertices false flagged x y) layer = Some (within done closed vertices true flagged x y)
dxf_step (within done closed vertices layered false x y) (flags false) = Some (within done closed vertices layered true x y)
dxf_step (within done closed vertices layered flagged None y) (across read) = option_map (λ x. within done closed vertices layered flagged (Some x) y) read
dxf_step (within done closed vertices layered flagged x None) (upwards read) = option_map (λ y. within done closed vertices layered flagged x (Some y)) read
dxf_step (within done closed vertices layered flagged x y) vertex =
    option_map (λ p. within done closed (vertices ++ p ∷ []) false false None None) (position_said layered x y)
dxf_step (within done closed vertices layered flagged x y) end_of_sequence =
    option_map (λ p. among (done ++ record { closed = closed; vertices = vertices ++ p ∷ [] } ∷ [])) (position_said layered x y)
dxf_step (behind done) end_of_file = Some (ended done)
dxf_step state group = None

-- what groups do, one after another
abbrev pub dxf_steps : DxfState → List DxfGroup → Option DxfState
dxf_steps state [] = Some state
dxf_steps state (group ∷ groups) = option_and_then (λ next. dxf_steps next groups) (dxf_step state group)

-- the polylines, where the file has ended
abbrev pub polylines_by : DxfState → Option (List Polyline)
polylines_by (ended done) = Some done
polylines_by state = None

-- the polylines of a file
abbrev pub dxf_polylines : List ℕ → Option (List Polyline)
dxf_polylines text = option_and_then polylines_by (option_and_then (dxf_steps beginning) (dxf_groups (text_lines text)))

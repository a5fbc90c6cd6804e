-- Drawing interchange files that are read, and files that are not.
use Rattle.std.proofs.Common.{◌≡◌, ℕ, pos, true, false, List, [], ◌∷◌, ◌++◌, codes, refl, Option, Some, None}
use Rattle.document_readings.specs.Decimals.{Position}
use Rattle.document_readings.specs.DxfReading.{Polyline, dxf_polylines}

-- a triangle with whole coordinates, but for one of tenths
abbrev at : ℕ → ℕ → Position
at x y = record { x = record { units = pos x; places = 0 }; y = record { units = pos y; places = 0 } }

abbrev triangle : List Polyline
triangle = record { closed = true; vertices = at 0 0 ∷ record { x = record { units = pos 15; places = 1 }; y = record { units = pos 0; places = 0 } } ∷ at 0 2 ∷ [] } ∷ []

-- a file of one polyline, of which these groups stand before its vertices, and these are its vertices
abbrev file_with : List ℕ → List ℕ → List ℕ
file_with head vertices = codes "0\nSECTION\n2\nENTITIES\n0\nPOLYLINE\n" ++ head ++ vertices ++ codes "0\nSEQEND\n0\nENDSEC\n0\nEOF\n"

abbrev read : List ℕ → List ℕ → Option (List Polyline)
read head vertices = dxf_polylines (file_with head vertices)

abbrev head_as_ours : List ℕ
head_as_ours = codes "8\n0\n66\n1\n70\n1\n"

abbrev vertices_as_ours : List ℕ
vertices_as_ours = codes "0\nVERTEX\n8\n0\n10\n0\n20\n0\n0\nVERTEX\n8\n0\n10\n1.5\n20\n0\n0\nVERTEX\n8\n0\n10\n0\n20\n2\n"

ours : read head_as_ours vertices_as_ours ≡ Some triangle
ours = refl

-- as the writer for R12 of ezdxf 0.18 writes it
ezdxf : dxf_polylines (codes "0\nSECTION\n2\nENTITIES\n0\nPOLYLINE\n8\n0\n66\n1\n70\n1\n0\nVERTEX\n8\n0\n70\n0\n10\n0\n20\n0\n0\nVERTEX\n8\n0\n70\n0\n10\n1.5\n20\n0\n0\nVERTEX\n8\n0\n70\n0\n10\n0\n20\n2\n0\nSEQEND\n0\nENDSEC\n0\nEOF\n")
    ≡ Some triangle
ezdxf = refl

-- codes in three columns, as the original potrace and other programs write them
indented : dxf_polylines (codes "  0\nSECTION\n  2\nENTITIES\n  0\nPOLYLINE\n  8\n0\n 66\n     1\n 70\n     1\n  0\nVERTEX\n  8\n0\n 10\n0\n 20\n0\n  0\nVERTEX\n  8\n0\n 10\n1.5\n 20\n0\n  0\nVERTEX\n  8\n0\n 10\n0\n 20\n2\n  0\nSEQEND\n  0\nENDSEC\n  0\nEOF\n")
    ≡ Some triangle
indented = refl

-- where nothing is said of it, or 0, a polyline is open
open_line : read (codes "8\n0\n66\n1\n") (codes "0\nVERTEX\n8\n0\n10\n1\n20\n2\n") ≡ Some (record { closed = false; vertices = at 1 2 ∷ [] } ∷ [])
open_line = refl

open_flag : read (codes "8\n0\n66\n1\n70\n0\n") (codes "0\nVERTEX\n8\n0\n10\n1\n20\n2\n") ≡ Some (record { closed = false; vertices = at 1 2 ∷ [] } ∷ [])
open_flag = refl

-- lines: an odd one, none at the end, one too many
odd_line : dxf_polylines (codes "0\nSECTION\n2\nENTITIES\n0\nENDSEC\n0\n") ≡ None
odd_line = refl

no_line_end : dxf_polylines (codes "0\nSECTION\n2\nENTITIES\n0\nENDSEC\n0\nEOF") ≡ None
no_line_end = refl

line_behind : dxf_polylines (codes "0\nSECTION\n2\nENTITIES\n0\nENDSEC\n0\nEOF\n\n") ≡ None
line_behind = refl

empty_section : dxf_polylines (codes "0\nSECTION\n2\nENTITIES\n0\nENDSEC\n0\nEOF\n") ≡ Some []
empty_section = refl

-- the section: of another name, not ended, and a file that isn't
other_section : dxf_polylines (codes "0\nSECTION\n2\nHEADER\n0\nENDSEC\n0\nEOF\n") ≡ None
other_section = refl

open_section : dxf_polylines (codes "0\nSECTION\n2\nENTITIES\n0\nEOF\n") ≡ None
open_section = refl

open_file : dxf_polylines (codes "0\nSECTION\n2\nENTITIES\n0\nENDSEC\n") ≡ None
open_file = refl

behind_end : dxf_polylines (codes "0\nSECTION\n2\nENTITIES\n0\nENDSEC\n0\nEOF\n0\nEOF\n") ≡ None
behind_end = refl

-- polylines: without a layer, without the group that announces vertices, with another flag, with two, without a vertex,
-- whose vertices don't end
no_layer : read (codes "66\n1\n70\n1\n") vertices_as_ours ≡ None
no_layer = refl

no_announcement : read (codes "8\n0\n70\n1\n") vertices_as_ours ≡ None
no_announcement = refl

other_flag : read (codes "8\n0\n66\n1\n70\n8\n") vertices_as_ours ≡ None
other_flag = refl

two_flags : read (codes "8\n0\n66\n1\n70\n1\n70\n0\n") vertices_as_ours ≡ None
two_flags = refl

no_vertex : read head_as_ours [] ≡ None
no_vertex = refl

endless : dxf_polylines (codes "0\nSECTION\n2\nENTITIES\n0\nPOLYLINE\n8\n0\n66\n1\n0\nVERTEX\n8\n0\n10\n1\n20\n2\n0\nENDSEC\n0\nEOF\n") ≡ None
endless = refl

-- vertices: without a height, without a layer, with a coordinate twice, with one that is no number, with a bulge
no_height : read head_as_ours (codes "0\nVERTEX\n8\n0\n10\n1\n") ≡ None
no_height = refl

no_vertex_layer : read head_as_ours (codes "0\nVERTEX\n10\n1\n20\n2\n") ≡ None
no_vertex_layer = refl

two_columns : read head_as_ours (codes "0\nVERTEX\n8\n0\n10\n1\n10\n1\n20\n2\n") ≡ None
two_columns = refl

no_number : read head_as_ours (codes "0\nVERTEX\n8\n0\n10\n1,5\n20\n2\n") ≡ None
no_number = refl

bulge : read head_as_ours (codes "0\nVERTEX\n8\n0\n10\n1\n20\n2\n42\n0.5\n") ≡ None
bulge = refl

-- an entity that isn't covered
other_entity : dxf_polylines (codes "0\nSECTION\n2\nENTITIES\n0\nLINE\n8\n0\n10\n0\n20\n0\n0\nENDSEC\n0\nEOF\n") ≡ None
other_entity = refl

-- Documents of vector graphics that are read, and documents that are not.
use Rattle.std.proofs.Common.{◌≡◌, ℕ, pos, negsuc, List, [], ◌∷◌, ◌++◌, codes, refl, Some, None}
use Rattle.std.specs.Prelude.{option_map}
use Rattle.document_readings.specs.Drawn.{line_to, curve_to}
use Rattle.document_readings.specs.PathData.{path_subpaths}
use Rattle.document_readings.specs.SvgReading.{Picture, svg_picture, view_in}
use Rattle.document_readings.specs.Transforms.{transforms_of, image_by, translate, scale}

-- a triangle, whose last line goes back to its start
triangle : path_subpaths (codes "M10 20 l-3 4 l5 -6 l-2 2 z")
    ≡ Some (record { start = record { x = pos 10; y = pos 20 }; segments = line_to (record { x = pos 7; y = pos 24 }) ∷ line_to (record { x = pos 12; y = pos 18 }) ∷ line_to (record { x = pos 10; y = pos 20 }) ∷ [] } ∷ [])
triangle = refl

-- the same with nothing between that isn't needed, and with line feeds and a plus sign
triangle_glued : path_subpaths (codes "M10 20l-3 4l5-6l-2 2z") ≡ path_subpaths (codes "M10 20 l-3 4 l5 -6 l-2 2 z")
triangle_glued = refl

triangle_lines : path_subpaths (codes "M +10 20\nl -3 4\nl 5 -6 l -2 2\nz\n") ≡ path_subpaths (codes "M10 20 l-3 4 l5 -6 l-2 2 z")
triangle_lines = refl

-- a step of a curve begins at the curve's start, for each of its three places
curved : path_subpaths (codes "M1 1c1 0 2 1 2 2z")
    ≡ Some (record { start = record { x = pos 1; y = pos 1 }; segments = curve_to (record { x = pos 2; y = pos 1 }) (record { x = pos 3; y = pos 2 }) (record { x = pos 3; y = pos 3 }) ∷ [] } ∷ [])
curved = refl

-- subpaths: open at the end, open before the next one, without a place before a line, behind another one, and before `z`
open_path : path_subpaths (codes "M1 1 l1 1") ≡ None
open_path = refl

open_before : path_subpaths (codes "M1 1 l1 1 M2 2 l1 1 z") ≡ None
open_before = refl

no_place : path_subpaths (codes "l1 1 z") ≡ None
no_place = refl

no_place_behind : path_subpaths (codes "M1 1 l1 1 z l1 1 z") ≡ None
no_place_behind = refl

only_closed : path_subpaths (codes "z") ≡ None
only_closed = refl

-- numbers: a lone sign, one too many, one too few, a fraction, a comma
lone_sign : path_subpaths (codes "M1 - l1 1 z") ≡ None
lone_sign = refl

two_signs : path_subpaths (codes "M1 --1 l1 1 z") ≡ None
two_signs = refl

too_many : path_subpaths (codes "M1 1 l1 1 1 z") ≡ None
too_many = refl

too_few : path_subpaths (codes "M1 1 c1 0 2 1 2 z") ≡ None
too_few = refl

fraction : path_subpaths (codes "M1 1.5 l1 1 z") ≡ None
fraction = refl

comma : path_subpaths (codes "M1,1 l1 1 z") ≡ None
comma = refl

-- letters that aren't covered, and a letter that is left out
absolute : path_subpaths (codes "M1 1 L1 1 z") ≡ None
absolute = refl

left_out : path_subpaths (codes "M1 1 l1 1 2 2 z") ≡ None
left_out = refl

-- a square of two pixels, a pixel from the left and from the bottom of a page of four
abbrev square : Picture
square = record {
  width = 4;
  height = 4;
  view = record { x = 0; y = 0; width = 40; height = 40 };
  transforms = translate (record { x = pos 0; y = pos 40 }) ∷ scale (pos 1) (negsuc 0) ∷ [];
  shapes = (record {
    start = record { x = pos 10; y = pos 10 };
    segments =
        line_to (record { x = pos 30; y = pos 10 }) ∷ line_to (record { x = pos 30; y = pos 30 }) ∷ line_to (record { x = pos 10; y = pos 30 }) ∷ line_to (record { x = pos 10; y = pos 10 }) ∷ [];
  } ∷ []) ∷ [];
}

-- as a document that has attributes of the root and of the group, and paths
abbrev document_with : List ℕ → List ℕ → List ℕ → List ℕ
document_with root group paths =
    codes "<?xml version=\"1.0\" standalone=\"no\"?>\n<svg " ++ root ++ codes ">\n<g " ++ group ++ codes ">\n" ++ paths ++ codes "</g>\n</svg>\n"

abbrev root_as_ours : List ℕ
root_as_ours = codes "version=\"1.0\" xmlns=\"http://www.w3.org/2000/svg\" width=\"4pt\" height=\"4pt\" viewBox=\"0 0 40 40\""

abbrev group_as_ours : List ℕ
group_as_ours = codes "transform=\"translate(0,40) scale(1,-1)\" fill=\"#000000\" stroke=\"none\""

abbrev path_as_ours : List ℕ
path_as_ours = codes "<path fill-rule=\"evenodd\" d=\"M10 10 l20 0 l0 20 l-20 0 l0 -20 z\"/>\n"

ours : svg_picture (document_with root_as_ours group_as_ours path_as_ours) ≡ Some square
ours = refl

-- as Inkscape 1.2 writes it as a plain SVG, without its empty `defs` and a second namespace
inkscape : svg_picture (codes "<?xml version=\"1.0\" encoding=\"UTF-8\" standalone=\"no\"?>\n<svg\n   version=\"1.0\"\n   width=\"4pt\"\n   height=\"4pt\"\n   viewBox=\"0 0 40 40\"\n   id=\"svg6\"\n   xmlns=\"http://www.w3.org/2000/svg\">\n  <g\n     transform=\"translate(0,40) scale(1,-1)\"\n     fill=\"#000000\"\n     stroke=\"none\"\n     id=\"g4\">\n    <path\n       fill-rule=\"evenodd\"\n       d=\"M10 10 l20 0 l0 20 l-20 0 l0 -20 z\"\n       id=\"path2\" />\n  </g>\n</svg>\n")
    ≡ Some square
inkscape = refl

-- its lower left corner is shown a pixel from the left and three from the top
corner : option_map (λ transforms. image_by transforms (record { x = pos 10; y = pos 10 })) (transforms_of (codes "translate(0,40) scale(1,-1)")) ≡ Some (record { x = pos 10; y = pos 30 })
corner = refl

-- roots: without the namespace, with another one, without a unit, without a width, with the aspect changed, of another
-- version, with another name
no_namespace : svg_picture (document_with (codes "version=\"1.0\" width=\"4pt\" height=\"4pt\" viewBox=\"0 0 40 40\"") group_as_ours path_as_ours) ≡ None
no_namespace = refl

other_namespace : svg_picture (document_with (codes "xmlns=\"http://www.w3.org/1999/xhtml\" width=\"4pt\" height=\"4pt\" viewBox=\"0 0 40 40\"") group_as_ours path_as_ours) ≡ None
other_namespace = refl

no_unit : svg_picture (document_with (codes "xmlns=\"http://www.w3.org/2000/svg\" width=\"4\" height=\"4pt\" viewBox=\"0 0 40 40\"") group_as_ours path_as_ours) ≡ None
no_unit = refl

no_width : svg_picture (document_with (codes "xmlns=\"http://www.w3.org/2000/svg\" height=\"4pt\" viewBox=\"0 0 40 40\"") group_as_ours path_as_ours) ≡ None
no_width = refl

aspect : svg_picture (document_with (root_as_ours ++ codes " preserveAspectRatio=\"none\"") group_as_ours path_as_ours) ≡ None
aspect = refl

other_version : svg_picture (document_with (codes "version=\"2.0\" xmlns=\"http://www.w3.org/2000/svg\" width=\"4pt\" height=\"4pt\" viewBox=\"0 0 40 40\"") group_as_ours path_as_ours) ≡ None
other_version = refl

other_root : svg_picture (codes "<SVG xmlns=\"http://www.w3.org/2000/svg\" width=\"4pt\" height=\"4pt\" viewBox=\"0 0 40 40\"><g transform=\"scale(1,1)\"></g></SVG>") ≡ None
other_root = refl

-- views: three numbers, five, two that are glued, a negative side
three_numbers : view_in (codes "0 0 40") ≡ None
three_numbers = refl

five_numbers : view_in (codes "0 0 40 40 40") ≡ None
five_numbers = refl

glued_numbers : view_in (codes "0 0 40-40") ≡ None
glued_numbers = refl

negative : view_in (codes "0 0 -40 40") ≡ None
negative = refl

-- transformations: of another name, glued, of one number, of three, not ended
rotated : transforms_of (codes "rotate(0,40)") ≡ None
rotated = refl

glued_transforms : transforms_of (codes "translate(0,40)scale(1,-1)") ≡ None
glued_transforms = refl

one_number : transforms_of (codes "scale(1)") ≡ None
one_number = refl

three_in_one : transforms_of (codes "scale(1,1,1)") ≡ None
three_in_one = refl

not_ended : transforms_of (codes "scale(1,1") ≡ None
not_ended = refl

-- groups: without a transformation, in another colour, with a line along shapes, with a style, two of them, none
no_transform : svg_picture (document_with root_as_ours (codes "fill=\"#000000\"") path_as_ours) ≡ None
no_transform = refl

unfilled : svg_picture (document_with root_as_ours (codes "transform=\"scale(1,1)\" fill=\"none\"") path_as_ours) ≡ None
unfilled = refl

stroked : svg_picture (document_with root_as_ours (codes "transform=\"scale(1,1)\" stroke=\"black\"") path_as_ours) ≡ None
stroked = refl

styled : svg_picture (document_with root_as_ours (codes "transform=\"scale(1,1)\" style=\"display:none\"") path_as_ours) ≡ None
styled = refl

two_groups : svg_picture (document_with root_as_ours group_as_ours (codes "</g><g transform=\"scale(1,1)\">")) ≡ None
two_groups = refl

no_group : svg_picture (codes "<svg xmlns=\"http://www.w3.org/2000/svg\" width=\"4pt\" height=\"4pt\" viewBox=\"0 0 40 40\"></svg>") ≡ None
no_group = refl

-- paths: by the other rule, by none, moved by themselves, without data, with a child, and no path at all
nonzero : svg_picture (document_with root_as_ours group_as_ours (codes "<path fill-rule=\"nonzero\" d=\"M1 1 l1 1 z\"/>")) ≡ None
nonzero = refl

no_rule : svg_picture (document_with root_as_ours group_as_ours (codes "<path d=\"M1 1 l1 1 z\"/>")) ≡ None
no_rule = refl

moved_path : svg_picture (document_with root_as_ours group_as_ours (codes "<path transform=\"scale(2,2)\" fill-rule=\"evenodd\" d=\"M1 1 l1 1 z\"/>")) ≡ None
moved_path = refl

no_data : svg_picture (document_with root_as_ours group_as_ours (codes "<path fill-rule=\"evenodd\"/>")) ≡ None
no_data = refl

with_child : svg_picture (document_with root_as_ours group_as_ours (codes "<path fill-rule=\"evenodd\" d=\"M1 1 l1 1 z\"><a/></path>")) ≡ None
with_child = refl

rectangle : svg_picture (document_with root_as_ours group_as_ours (codes "<rect width=\"1\" height=\"1\"/>")) ≡ None
rectangle = refl

-- The text of a page as Scalable Vector Graphics (SVG 1.0, sections 8.3 and 8.4 on path data). The layout of its lines
-- is our own.
use Rattle.std.specs.Prelude.{ℕ, Bool, ◌*◌, List, [], ◌++◌, codes, decimal, flat_map, if◌then◌else◌}
use Rattle.outline_pen.specs.Shapes.{flat_text, group_text}
use Rattle.outline_pen.specs.declared.pen.Mark.{Mark}
use Rattle.outline_pen.specs.declared.pen.Mark.TheVariants as mark
use Rattle.pt_core.specs.declared.trace.Trace.{Trace}

-- the text at each mark of a path; two outlines of one path have a space between them
abbrev pub svg_mark : Mark → List ℕ
svg_mark mark.Shape = codes "<path fill-rule=\"evenodd\" d=\""
svg_mark mark.Next = codes " "
svg_mark mark.Start = codes "M"
svg_mark mark.Started = []
svg_mark mark.Line = codes " l"
svg_mark mark.Lined = []
svg_mark mark.Curve = codes " c"
svg_mark mark.Curved = []
svg_mark mark.Closed = codes " z"
svg_mark mark.Shaped = codes "\"/>\n"

-- the paths: one for each shape with its holes, or one for all outlines
abbrev pub paths_text : ℕ → Bool → Trace → List ℕ
paths_text unit flat trace =
    if flat then flat_text svg_mark unit trace.outlines else flat_map (group_text svg_mark unit trace.outlines) trace.groups

-- the width and the height at which the page is drawn: a pixel is a point
abbrev pub size_text : ℕ → ℕ → List ℕ
size_text width height = codes "width=\"" ++ decimal width ++ codes "pt\" height=\"" ++ decimal height

-- the page's width and height in units
abbrev pub view_text : ℕ → ℕ → ℕ → List ℕ
view_text unit width height =
    codes "pt\" viewBox=\"0 0 " ++ decimal (width * unit) ++ codes " " ++ decimal (height * unit) ++ codes "\">\n"

-- the sides of the page, in points and in units
abbrev pub sides_text : ℕ → ℕ → ℕ → List ℕ
sides_text unit width height = size_text width height ++ view_text unit width height

-- the start of the group of all paths, which turns the y axis upwards, as on the page
abbrev pub group_head : ℕ → ℕ → List ℕ
group_head unit height =
    codes "<g transform=\"translate(0," ++ decimal (height * unit) ++ codes ") scale(1,-1)\" fill=\"#000000\" stroke=\"none\">\n"

-- the lines before the paths
abbrev pub head_text : ℕ → ℕ → ℕ → List ℕ
head_text unit width height =
    codes "<?xml version=\"1.0\" standalone=\"no\"?>\n<svg version=\"1.0\" xmlns=\"http://www.w3.org/2000/svg\" "
    ++ sides_text unit width height ++ group_head unit height

-- the whole document, with `unit` units per pixel
abbrev pub svg_text : ℕ → Bool → Trace → List ℕ
svg_text unit flat trace =
    head_text unit trace.width trace.height ++ paths_text unit flat trace ++ codes "</g>\n</svg>\n"

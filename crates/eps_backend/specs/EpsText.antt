-- The text of a page as Encapsulated PostScript (PostScript Language Reference, third edition; EPSF 3.0). The layout of
-- its lines is our own.
use Rattle.std.specs.Prelude.{ℕ, List, [], ◌++◌, codes, decimal, flat_map}
use Rattle.outline_pen.specs.Shapes.{group_text}
use Rattle.outline_pen.specs.declared.pen.Mark.{Mark}
use Rattle.outline_pen.specs.declared.pen.Mark.TheVariants as mark
use Rattle.pt_core.specs.declared.trace.Trace.{Trace}

-- the text at each mark of a path; operators come after their numbers
abbrev pub eps_mark : Mark → List ℕ
eps_mark mark.Shape = []
eps_mark mark.Next = []
eps_mark mark.Start = []
eps_mark mark.Started = codes " moveto\n"
eps_mark mark.Line = []
eps_mark mark.Lined = codes " rlineto\n"
eps_mark mark.Curve = []
eps_mark mark.Curved = codes " rcurveto\n"
eps_mark mark.Closed = codes "closepath\n"
eps_mark mark.Shaped = codes "eofill\n"

-- the comments; a pixel is a point
abbrev pub comments_text : ℕ → ℕ → List ℕ
comments_text width height =
    codes "%!PS-Adobe-3.0 EPSF-3.0\n%%BoundingBox: 0 0 " ++ decimal width ++ codes " " ++ decimal height ++ codes "\n%%EndComments\n"

-- the line that sets the scale: from here on a pixel has `unit` units
abbrev pub scale_text : ℕ → List ℕ
scale_text unit = codes "gsave\n1 " ++ decimal unit ++ codes " div dup scale\n"

-- the shapes of a page, each filled by the even-odd rule, which leaves its holes out
abbrev pub drawing_text : ℕ → Trace → List ℕ
drawing_text unit trace =
    scale_text unit ++ flat_map (group_text eps_mark unit trace.outlines) trace.groups ++ codes "grestore\n"

-- a page in a document of several, with `unit` units per pixel; it is shown after its shapes are drawn
abbrev pub ps_page_text : ℕ → Trace → List ℕ
ps_page_text unit trace = drawing_text unit trace ++ codes "showpage\n"

-- the whole document, with `unit` units per pixel
abbrev pub eps_text : ℕ → Trace → List ℕ
eps_text unit trace = comments_text trace.width trace.height ++ drawing_text unit trace ++ codes "%%EOF\n"

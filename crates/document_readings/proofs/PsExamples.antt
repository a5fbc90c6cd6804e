-- Programs of PostScript that are read, and programs that are not.
use Rattle.std.proofs.Common.{◌≡◌, pos, [], ◌∷◌, ◌++◌, codes, refl, Some, None}
use Rattle.document_readings.specs.Drawn.{line_to, curve_to}
use Rattle.document_readings.specs.DscReading.{dsc_pages}
use Rattle.document_readings.specs.EpsBox.{eps_box}
use Rattle.document_readings.specs.PsReading.{Filled, quotient, whole, ps_painted}

-- a triangle under a scale of a tenth
abbrev triangle : Filled
triangle = record {
  scales = (quotient (pos 1) (pos 10), quotient (pos 1) (pos 10)) ∷ [];
  subpaths = record {
    start = record { x = pos 10; y = pos 20 };
    segments = line_to (record { x = pos 7; y = pos 24 }) ∷ line_to (record { x = pos 12; y = pos 18 }) ∷ line_to (record { x = pos 10; y = pos 20 }) ∷ [];
  } ∷ [];
}

unshown : ps_painted (codes "%!PS\ngsave\n1 10 div dup scale\n10 20 moveto\n-3 4 rlineto\n5 -6 rlineto % a comment\n-2 2 rlineto closepath eofill\ngrestore\n")
    ≡ Some (record { pages = []; unshown = triangle ∷ [] })
unshown = refl

-- on a page; a carriage return ends lines too, a tab stands between words, and the last line needs no end
shown : ps_painted (codes "%!PS\r1 10 div dup scale\t10 20 moveto -3 4 rlineto 5 -6 rlineto -2 2 rlineto closepath eofill\r\nshowpage%")
    ≡ Some (record { pages = (triangle ∷ []) ∷ []; unshown = [] })
shown = refl

-- the next page begins without the scale; a curve's three places are steps from where it begins
two_pages : ps_painted (codes "2 3 scale showpage 1 1 moveto 1 0 2 1 2 2 rcurveto closepath eofill showpage")
    ≡ Some (record { pages = [] ∷ (record { scales = []; subpaths = record { start = record { x = pos 1; y = pos 1 }; segments = curve_to (record { x = pos 2; y = pos 1 }) (record { x = pos 3; y = pos 2 }) (record { x = pos 3; y = pos 3 }) ∷ [] } ∷ [] } ∷ []) ∷ []; unshown = [] })
two_pages = refl

-- a form feed stands between words, and ends a comment
form_feed : ps_painted (codes "% a" ++ 12 ∷ codes "2" ++ 12 ∷ codes "3 scale showpage") ≡ Some (record { pages = [] ∷ []; unshown = [] })
form_feed = refl

behind_form_feed : ps_painted (codes "% a" ++ 12 ∷ codes "2 3 scale 1\nshowpage") ≡ None
behind_form_feed = refl

-- what was saved comes back, the path too
restored : ps_painted (codes "gsave 1 1 moveto grestore 2 3 scale eofill")
    ≡ Some (record { pages = []; unshown = record { scales = (whole (pos 2), whole (pos 3)) ∷ []; subpaths = [] } ∷ [] })
restored = refl

-- operands: one left, one missing, five of a curve, one that is a quotient, a division by nothing
operand_left : ps_painted (codes "3 1 2 moveto closepath eofill\n") ≡ None
operand_left = refl

operand_missing : ps_painted (codes "1 moveto closepath eofill\n") ≡ None
operand_missing = refl

five_of_six : ps_painted (codes "1 1 moveto 0 2 1 2 2 rcurveto closepath eofill") ≡ None
five_of_six = refl

quotient_place : ps_painted (codes "1 2 div 1 moveto closepath eofill") ≡ None
quotient_place = refl

by_nothing : ps_painted (codes "1 0 div dup scale") ≡ None
by_nothing = refl

nothing_to_double : ps_painted (codes "dup scale") ≡ None
nothing_to_double = refl

-- paths: a line without a point, a fill of an open one, one behind an open one, one that is left over, a scale within one
no_point : ps_painted (codes "1 1 rlineto closepath eofill") ≡ None
no_point = refl

open_fill : ps_painted (codes "1 1 moveto 2 2 rlineto eofill") ≡ None
open_fill = refl

open_before : ps_painted (codes "1 1 moveto 2 2 rlineto 3 3 moveto closepath eofill") ≡ None
open_before = refl

left_over : ps_painted (codes "1 1 moveto closepath") ≡ None
left_over = refl

scaled_within : ps_painted (codes "1 1 moveto closepath 2 2 scale eofill") ≡ None
scaled_within = refl

-- the graphics state: restored without one that was saved, and left over
not_saved : ps_painted (codes "grestore") ≡ None
not_saved = refl

not_restored : ps_painted (codes "gsave 1 1 moveto closepath eofill") ≡ None
not_restored = refl

-- pages: shown with an open path, with a closed one, with an operand, with a saved state
shown_open : ps_painted (codes "1 1 moveto 2 2 rlineto showpage") ≡ None
shown_open = refl

shown_unfilled : ps_painted (codes "1 1 moveto closepath showpage") ≡ None
shown_unfilled = refl

shown_with_operand : ps_painted (codes "1 showpage") ≡ None
shown_with_operand = refl

shown_saved : ps_painted (codes "gsave showpage grestore") ≡ None
shown_saved = refl

-- words: an operator that isn't covered, a sign alone, a fraction, a number glued to a name
stroke : ps_painted (codes "1 1 moveto closepath stroke") ≡ None
stroke = refl

lone_minus : ps_painted (codes "1 - moveto closepath eofill") ≡ None
lone_minus = refl

fraction : ps_painted (codes "1 1.5 moveto closepath eofill") ≡ None
fraction = refl

glued : ps_painted (codes "1 1moveto closepath eofill") ≡ None
glued = refl

procedure : ps_painted (codes "/m {moveto} def 1 1 m closepath eofill") ≡ None
procedure = refl

-- two pages by the document structuring conventions, and none
pages : dsc_pages (codes "%!PS-Adobe-3.0\n%%Pages: (atend)\n%%EndComments\n%%Page: i 1\ngsave\n% a comment\n\ngrestore\n%%Page: 2 2\nshowpage\n%%Trailer\n%%Pages: 2\n%%EOF\n")
    ≡ Some (codes "gsave\n% a comment\n\ngrestore\n" ∷ codes "showpage\n" ∷ [])
pages = refl

no_pages : dsc_pages (codes "%!PS-Adobe-3.0\n%%Pages: (atend)\n%%EndComments\n%%Trailer\n%%Pages: 0\n%%EOF\n") ≡ Some []
no_pages = refl

-- pages: in another order, not from 1, counted wrongly, without a number, without a label
other_order : dsc_pages (codes "%!PS-Adobe-3.0\n%%Pages: (atend)\n%%EndComments\n%%Page: 2 2\n%%Page: 1 1\n%%Trailer\n%%Pages: 2\n%%EOF\n") ≡ None
other_order = refl

same_twice : dsc_pages (codes "%!PS-Adobe-3.0\n%%Pages: (atend)\n%%EndComments\n%%Page: 1 1\n%%Page: 1 1\n%%Trailer\n%%Pages: 2\n%%EOF\n") ≡ None
same_twice = refl

counted_wrongly : dsc_pages (codes "%!PS-Adobe-3.0\n%%Pages: (atend)\n%%EndComments\n%%Page: 1 1\n%%Trailer\n%%Pages: 2\n%%EOF\n") ≡ None
counted_wrongly = refl

not_counted : dsc_pages (codes "%!PS-Adobe-3.0\n%%Pages: (atend)\n%%EndComments\n%%Page: 1 1\n%%Trailer\n%%EOF\n") ≡ None
not_counted = refl

no_label : dsc_pages (codes "%!PS-Adobe-3.0\n%%Pages: (atend)\n%%EndComments\n%%Page: 1\n%%Trailer\n%%Pages: 1\n%%EOF\n") ≡ None
no_label = refl

-- the header: not of the conventions, without what it has to say, not ended; a page's lines before the first page
other_version : dsc_pages (codes "%!PS\n%%Pages: (atend)\n%%EndComments\n%%Trailer\n%%Pages: 0\n%%EOF\n") ≡ None
other_version = refl

nothing_said : dsc_pages (codes "%!PS-Adobe-3.0\n%%EndComments\n%%Trailer\n%%Pages: 0\n%%EOF\n") ≡ None
nothing_said = refl

header_open : dsc_pages (codes "%!PS-Adobe-3.0\n%%Pages: (atend)\n%%Page: 1 1\n%%Trailer\n%%Pages: 1\n%%EOF\n") ≡ None
header_open = refl

before_pages : dsc_pages (codes "%!PS-Adobe-3.0\n%%Pages: (atend)\n%%EndComments\ngsave\n%%Page: 1 1\n%%Trailer\n%%Pages: 1\n%%EOF\n") ≡ None
before_pages = refl

-- the end: without a trailer, without `%%EOF`, with something behind it, with a last line that isn't ended
no_trailer : dsc_pages (codes "%!PS-Adobe-3.0\n%%Pages: (atend)\n%%EndComments\n%%Page: 1 1\n%%Pages: 1\n%%EOF\n") ≡ None
no_trailer = refl

no_end : dsc_pages (codes "%!PS-Adobe-3.0\n%%Pages: (atend)\n%%EndComments\n%%Page: 1 1\n%%Trailer\n%%Pages: 1\n") ≡ None
no_end = refl

behind_end : dsc_pages (codes "%!PS-Adobe-3.0\n%%Pages: (atend)\n%%EndComments\n%%Trailer\n%%Pages: 0\n%%EOF\n%%Page: 1 1\n") ≡ None
behind_end = refl

cut_end : dsc_pages (codes "%!PS-Adobe-3.0\n%%Pages: (atend)\n%%EndComments\n%%Trailer\n%%Pages: 0\n%%EOF") ≡ None
cut_end = refl

-- another comment of the conventions within a page
other_comment : dsc_pages (codes "%!PS-Adobe-3.0\n%%Pages: (atend)\n%%EndComments\n%%Page: 1 1\n%%PageTrailer\n%%Trailer\n%%Pages: 1\n%%EOF\n") ≡ None
other_comment = refl

-- a box, and heads that tell none: of another version, without the box, of three numbers, left to the end, with a fraction,
-- turned round
box : eps_box (codes "%!PS-Adobe-3.0 EPSF-3.0\n%%BoundingBox: 0 0 4 3\n%%EndComments\n") ≡ Some (record { left = 0; bottom = 0; right = 4; top = 3 })
box = refl

no_eps : eps_box (codes "%!PS-Adobe-3.0\n%%BoundingBox: 0 0 4 3\n%%EndComments\n") ≡ None
no_eps = refl

no_box : eps_box (codes "%!PS-Adobe-3.0 EPSF-3.0\n%%EndComments\n") ≡ None
no_box = refl

three_numbers : eps_box (codes "%!PS-Adobe-3.0 EPSF-3.0\n%%BoundingBox: 0 0 4\n") ≡ None
three_numbers = refl

box_at_end : eps_box (codes "%!PS-Adobe-3.0 EPSF-3.0\n%%BoundingBox: (atend)\n") ≡ None
box_at_end = refl

box_fraction : eps_box (codes "%!PS-Adobe-3.0 EPSF-3.0\n%%BoundingBox: 0 0 4.5 3\n") ≡ None
box_fraction = refl

box_round : eps_box (codes "%!PS-Adobe-3.0 EPSF-3.0\n%%BoundingBox: 4 3 0 0\n") ≡ None
box_round = refl

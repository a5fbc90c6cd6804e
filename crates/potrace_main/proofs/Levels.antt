-- The black level, and whether pages are inverted, change nothing in the lines.
use Rattle.std.proofs.Common.{ℕ, Bool, true, false, List, [], ◌∷◌}
use Rattle.std.specs.List.{AllZip}
use Rattle.bit_image.specs.Page.{Page}
use Rattle.pt_core.specs.declared.path.Path.{Path}
use Rattle.pt_core.specs.declared.piece.Piece.{Piece}
use Rattle.pt_core.specs.declared.point.Point.{Point}
use Rattle.pt_core.specs.declared.settings.Backend.{Backend}
use Rattle.pt_core.specs.declared.settings.Backend.TheVariants.{Eps, Ps, Svg, Dxf, GeoJson, Points, Polygons, Proofs}
use Rattle.pt_core.specs.declared.settings.Settings.{Settings}
use Rattle.pt_core.specs.declared.trace.Trace.{Trace}
use Rattle.page_trace.specs.Document.{IsDocumentUnder}
use Rattle.page_trace.specs.Trace.{ArePaths, HasPolygons, IsOutlineOf, IsOutlineWith, IsTrace}
use Rattle.potrace_main.specs.Demo.{IsDemoLine, IsDemoText}
use Rattle.demo_pages.specs.Picture.{pages_from}

-- the settings with another level
abbrev leveled : Settings → ℕ → Bool → Settings
leveled settings level invert = record settings { level = level; invert = invert }

-- what holds place by place holds in another way
each_so : {A B : Type 0} (P Q : A → B → Type 0) → ((a : A) (b : B) → P a b → Q a b) → (xs : List A) (ys : List B) → AllZip P xs ys → AllZip Q xs ys
each_so P Q so [] [] are = are
each_so P Q so (x ∷ xs) (y ∷ ys) are = (so x y are.0, each_so P Q so xs ys are.1)
each_so P Q so [] (y ∷ ys) are = are
each_so P Q so (x ∷ xs) [] are = are

paths_so : (settings : Settings) (level : ℕ) (invert : Bool) (page : Page) (paths : List Path)
    → ArePaths page settings paths → ArePaths page (leveled settings level invert) paths
paths_so settings level invert page paths are = record {
  all = are.all;
  decomposed = are.decomposed;
  even_odd = are.even_odd;
  edges_once = are.edges_once;
  no_speckles = are.no_speckles;
}

polygons_so : (settings : Settings) (level : ℕ) (invert : Bool) (page : Page) (trace : Trace)
    → HasPolygons page settings trace → HasPolygons page (leveled settings level invert) trace
polygons_so settings level invert page trace has = record {
  width = has.width;
  height = has.height;
  paths = paths_so settings level invert page trace.paths has.paths;
  polygons = has.polygons;
}

outline_so : (long_curve : Bool) (settings : Settings) (level : ℕ) (invert : Bool) (vertices : List Point) (pieces : List Piece)
    → IsOutlineWith long_curve settings vertices pieces → IsOutlineWith long_curve (leveled settings level invert) vertices pieces
outline_so true settings level invert vertices pieces is = is
outline_so false settings level invert vertices pieces is = is

trace_so : (settings : Settings) (level : ℕ) (invert : Bool) (page : Page) (trace : Trace)
    → IsTrace page settings trace → IsTrace page (leveled settings level invert) trace
trace_so settings level invert page trace is = record {
  polygons = polygons_so settings level invert page trace is.polygons;
  vertices = is.vertices;
  outlines = each_so (IsOutlineOf settings) (IsOutlineOf (leveled settings level invert))
      (outline_so settings.long_curve settings level invert) trace.vertices trace.outlines is.outlines;
  groups = is.groups;
}

document_so : (backend : Backend) (settings : Settings) (level : ℕ) (invert : Bool) (page : Page) (text : List ℕ)
    → IsDocumentUnder backend page settings text → IsDocumentUnder backend page (leveled settings level invert) text
document_so Points settings level invert page text is = (is.0, paths_so settings level invert page is.0 is.1, is.2)
document_so Polygons settings level invert page text is = (is.0, polygons_so settings level invert page is.0 is.1, is.2)
document_so Proofs settings level invert page text is = (is.0, polygons_so settings level invert page is.0 is.1, is.2)
document_so Svg settings level invert page text is = (is.0, trace_so settings level invert page is.0 is.1, is.2)
document_so Eps settings level invert page text is = (is.0, trace_so settings level invert page is.0 is.1, is.2)
document_so Ps settings level invert page text is = (is.0, trace_so settings level invert page is.0 is.1, is.2)
document_so Dxf settings level invert page text is = (is.0, trace_so settings level invert page is.0 is.1, is.2)
document_so GeoJson settings level invert page text is = (is.0, trace_so settings level invert page is.0 is.1, is.2)

line_so : (settings : Settings) (level : ℕ) (invert : Bool) (page : Page) (line : List ℕ)
    → IsDemoLine settings page line → IsDemoLine (leveled settings level invert) page line
line_so settings level invert page line is = record {
  trace = is.trace;
  traced = trace_so settings level invert page is.trace is.traced;
  document = is.document;
  written = document_so settings.backend settings level invert page is.document is.written;
  counts = is.counts;
}

pub demo_so : (pages level : ℕ) (invert : Bool) (settings : Settings) (text : List ℕ)
    → IsDemoText pages settings text → IsDemoText pages (record settings { level = level; invert = invert }) text
demo_so pages level invert settings text is = record {
  lines = is.lines;
  each = each_so (IsDemoLine settings) (IsDemoLine (leveled settings level invert)) (line_so settings level invert) (pages_from pages pages) is.lines is.each;
  joined = is.joined;
}

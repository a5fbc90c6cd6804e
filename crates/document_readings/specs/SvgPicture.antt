-- The picture that a trace is.
use Rattle.std.specs.Prelude.{ℕ, ◌*◌, pos, negsuc, Bool, List, [], ◌∷◌, map}
use Rattle.pt_core.specs.declared.trace.Trace.{Trace}
use Rattle.document_readings.specs.Places.{outline_subpath}
use Rattle.document_readings.specs.SvgReading.{Picture}
use Rattle.document_readings.specs.Transforms.{Transform, translate, scale}
use Rattle.document_readings.specs.TraceShapes.{shapes_of}

-- up the page: the last one, which turns it over, comes first
abbrev pub up_the_page : ℕ → List Transform
up_the_page height = translate (record { x = pos 0; y = pos height }) ∷ scale (pos 1) (negsuc 0) ∷ []

-- the whole page in points, of which each has so many units; and in it the shapes, where y grows upwards
abbrev pub trace_picture : ℕ → Bool → Trace → Picture
trace_picture unit flat trace = record {
  width = trace.width;
  height = trace.height;
  view = record { x = 0; y = 0; width = trace.width * unit; height = trace.height * unit };
  transforms = up_the_page (trace.height * unit);
  shapes = map (map (outline_subpath unit)) (shapes_of flat trace);
}

use Rattle.polygon_search.proofs.Vertices.{some_vertices, vertices_below}
use Rattle.polygon_optimal.proofs.laws.polygons_have_vertices.Goals as goal

pub returns : goal.returns
returns c = record { some = some_vertices; points = vertices_below }

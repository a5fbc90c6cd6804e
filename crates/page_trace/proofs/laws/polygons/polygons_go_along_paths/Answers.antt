-- Each is a lemma.
use Rattle.page_trace.proofs.Segments.{is_polygon, is_round_polygon}
use Rattle.page_trace.proofs.laws.polygons.polygons_go_along_paths.Goals as goal

pub returns-clause-through_first : goal.returns-clause-through_first
returns-clause-through_first c = is_polygon

pub returns-clause-cyclic : goal.returns-clause-cyclic
returns-clause-cyclic c = is_round_polygon

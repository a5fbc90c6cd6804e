use Rattle.page_sizes.proofs.Fewer.{outlines_few, polygons_few}
use Rattle.page_sizes.proofs.laws.outlines_have_few_pieces.Goals as goal

pub returns-clause-polygons : goal.returns-clause-polygons
returns-clause-polygons c = λ page settings trace has. polygons_few settings trace.paths trace.polygons has.polygons

pub returns-clause-pieces : goal.returns-clause-pieces
returns-clause-pieces c = λ page settings trace is. (outlines_few settings trace.paths trace.polygons trace.vertices trace.outlines is.polygons.polygons is.vertices is.outlines).together

use Rattle.outline_distance.proofs.Tangents.{curve_passes}
use Rattle.outline_distance.proofs.laws.curves_pass_by_vertices.Goals as goal

pub returns : goal.returns
returns c = curve_passes

-- Each is a lemma.
use Rattle.outline_distance.proofs.Written.{first_places, joint_written, point_written, second_places, vertex_written}
use Rattle.outline_distance.proofs.laws.written_outlines_are_close.Goals as goal

pub returns-clause-vertices : goal.returns-clause-vertices
returns-clause-vertices c = vertex_written

pub returns-clause-joints : goal.returns-clause-joints
returns-clause-joints c = joint_written

pub returns-clause-points : goal.returns-clause-points
returns-clause-points c = point_written

pub returns-clause-to_joints : goal.returns-clause-to_joints
returns-clause-to_joints c = first_places

pub returns-clause-from_joints : goal.returns-clause-from_joints
returns-clause-from_joints c = second_places

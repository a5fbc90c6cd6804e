-- Strip by strip; past the strips there are no edges.
use Rattle.std.proofs.Common.{◌/◌, length, inl, inr, arith}
use Rattle.std.proofs.lemmas.Bool.{cases_lt}
use Rattle.boundary_edges.proofs.EdgeBits.{has_edge-past, strip_room}
use Rattle.boundary_edges.proofs.strips.is_white_band.Goals as goal

pub is_white_block-requires-clause-room : goal.is_white_block-requires-clause-room
is_white_block-requires-clause-room c = strip_room c.args.rows c.args.strips c.loop-strip.strip (length c.args.words.now) (omega arith) c.requires.room

pub loop-strip-preserved : goal.loop-strip-preserved
loop-strip-preserved c = λ u v left here. elim (cases_lt (u / 64) c.loop-strip.strip) [
  | inl before ↦ c.loop-strip.invariant u v before here
  | inr last ↦ c.is_white_block.ensures c.if-not-is_white_block.false u v (omega arith) here
]

pub returns : goal.returns
returns c = λ _ u v here. elim (cases_lt (u / 64) c.loop-strip.strip) [
  | inl inside ↦ c.loop-strip.invariant u v inside here
  | inr past ↦ has_edge-past c.args.rows c.args.strips c.args.words.now 0 u v c.requires.room (omega arith)
]

-- The pixels are in the strip's word and the one before it.
use Rattle.boundary_edges.proofs.EdgeBits.{two_words}
use Rattle.boundary_edges.proofs.strips.pixels_behind.Goals as goal

pub returns : goal.returns
returns c = λ row strip part i p.
    two_words row strip c.args.before c.args.here c.args.by i c.requires.some c.requires.most c.ranges.before.fits part.left part.word p

use Rattle.std.proofs.Common.{◌*◌, ◌∙◌, arith}
use Rattle.boundary_edges.proofs.Spread.{place_in, put_two_in}
use Rattle.boundary_edges.proofs.blocks.Blocks.put_two.Goals as goal

pub room_of-requires-clause-block : goal.room_of-requires-clause-block
room_of-requires-clause-block c = omega (arith, place_in c.self.inside.starts.items c.self.inside.words.items c.args.self.now (16 * c.args.block) c.self.view_is c.requires.block)

pub returns : goal.returns
returns c =
    (put_two_in c.room_of.new.starts.items c.room_of.new.words.items c.args.self.now c.in_ok-at.field-0 c.args.block c.args.i c.args.first c.args.second
    c.in_ok-at.ensures.blocks (c.in_ok-at.ensures.same ∙ c.self.view_is) c.requires.block c.requires.even c.requires.word c.in_ok-at.ensures.start.0 c.in_ok-at.ensures.start.1).1

use Rattle.std.proofs.Common.{arith}
use Rattle.straight_paths.proofs.Wording.{flag_on}
use Rattle.straight_paths.proofs.flags.Flags.with.Goals as goal

pub returns : goal.returns
returns c = λ path count is taken. record {
  east = flag_on path count c.args.self.east c.taken.result c.args.digit 0 c.requires (omega arith) c.taken.ensures.same c.taken.ensures.other is taken.east;
  north = flag_on path count c.args.self.north c.taken-2.result c.args.digit 1 c.requires (omega arith) c.taken-2.ensures.same c.taken-2.ensures.other is taken.north;
  west = flag_on path count c.args.self.west c.taken-3.result c.args.digit 2 c.requires (omega arith) c.taken-3.ensures.same c.taken-3.ensures.other is taken.west;
  south = flag_on path count c.args.self.south c.taken-4.result c.args.digit 3 c.requires (omega arith) c.taken-4.ensures.same c.taken-4.ensures.other is taken.south;
}

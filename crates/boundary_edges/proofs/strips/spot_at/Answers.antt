use Rattle.std.proofs.Common.{◌/◌, ◌%◌, ap}
use Rattle.boundary_edges.specs.Inner.Blocks.{stands_at}
use Rattle.boundary_edges.proofs.EdgeBits.{is_one-bit}
use Rattle.boundary_edges.proofs.strips.spot_at.Goals as goal

pub returns : goal.returns
returns c =
    record {
      block = ap (λ n. n / 16) c.word_place-place.ensures.value;
      place = ap (stands_at c.args.starts.now) c.word_place-place.ensures.value;
      bit = λ i short. is_one-bit (c.args.x % 64) i short;
    }

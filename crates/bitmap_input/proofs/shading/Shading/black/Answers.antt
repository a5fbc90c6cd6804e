use Rattle.std.proofs.Common.{nat_le}
use Rattle.bitmap_input.proofs.PaintedPixels.{turned}
use Rattle.bitmap_input.proofs.shading.Shading.black.Goals as goal

pub returns : goal.returns
returns c = turned c.args.self.now.invert (nat_le c.args.brightness c.args.self.now.limit)

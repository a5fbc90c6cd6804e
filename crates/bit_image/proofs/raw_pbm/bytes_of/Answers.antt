use Rattle.std.proofs.Common.{◌∙◌}
use Rattle.bit_image.proofs.Spelled.{word_bytes}
use Rattle.bit_image.proofs.raw_pbm.bytes_of.Goals as goal

pub returns : goal.returns
returns c = c.to_le_bytes.ensures ∙ word_bytes c.args.word c.turned.result c.turned.ensures

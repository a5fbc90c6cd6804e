-- Fewer than eight bytes are read; the others are 0.
use Rattle.std.proofs.Common.{refl}
use Rattle.bit_image.proofs.Bytes.{is_one-word_at, eight_past}
use Rattle.bit_image.proofs.packing.last_word.Goals as goal

pub returns : goal.returns
returns c = λ i p.
    is_one-word_at c.args.bytes.now _ c.args.at c.from_le_bytes.result c.turned.result i (λ k. (c.type_inv.bytes k).fits)
    (λ k q. eight_past c.args.bytes.now _ c.copy_from_slice.new.self c.args.at k c.copy_from_slice.ensures.after refl)
    c.from_le_bytes.ensures (c.turned.ensures i p) p

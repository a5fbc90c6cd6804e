use Rattle.std.proofs.Common.{◌≡◌, ◌++◌, ◌*◌, min}
use Rattle.bit_image.proofs.Spelled.{row_front}
use Rattle.bit_image.proofs.raw_pbm.put_row.Given as goal

-- the bytes of the words before the current one have been appended
abbrev pub invariant-words : goal.invariant-words
invariant-words l = l.out.items ≡ l.fn.out.items ++ row_front l.words (min (8 * l.at) l.count)

use Rattle.std.proofs.Common.{refl}
use Rattle.bitmap_input.specs.Cut.Kind.{UnknownFormat}
use Rattle.bitmap_input.specs.Cut.FileEnd.{Refused}
use Rattle.bitmap_input.proofs.gray_rows.check_gray.Goals as goal

pub returns-in-Color-clause-checks : goal.returns-in-Color-clause-checks
returns-in-Color-clause-checks c = (Refused UnknownFormat, refl, λ bytes. rw c.in-Color.is refl)

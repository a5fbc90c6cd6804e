-- Why a page can't be read, as text for a message.
use Rattle.std.specs.Prelude.{ℕ, List, [], codes}
use Rattle.bitmap_input.specs.Cut.{Kind}
use Rattle.bitmap_input.specs.Cut.Kind.{UnknownFormat, BadHeader, ZeroSide, TooLarge, Truncated, BadRaster, BmpKind, BadOffset, TooLong}
use Rattle.bitmap_input.specs.Cut.FileEnd.{End, Trailing, Refused}
use Rattle.bitmap_input.specs.Reading.{Cause}
use Rattle.bitmap_input.specs.Reading.Cause.{Says, Device, Memory}

-- the text for a kind of refusal
abbrev pub kind_text : Kind → List ℕ
kind_text UnknownFormat = codes "unknown format"
kind_text BadHeader = codes "bad header"
kind_text ZeroSide = codes "zero side"
kind_text TooLarge = codes "side too large"
kind_text Truncated = codes "truncated"
kind_text BadRaster = codes "bad raster"
kind_text BmpKind = codes "unsupported BMP kind"
kind_text BadOffset = codes "bad BMP offset"
kind_text TooLong = codes "gap too long"

-- the text for a cause
abbrev pub cause_text : Cause → List ℕ
cause_text (Says (Refused kind)) = kind_text kind
cause_text (Says End) = []
cause_text (Says Trailing) = []
cause_text Device = codes "read fault"
cause_text Memory = codes "out of memory"

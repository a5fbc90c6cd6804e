-- Cutting a list of bytes: a part of a page takes bytes from the beginning of the list, or stops the reading.
use Rattle.std.specs.Prelude.{ℕ, Bool, ◌||◌, List}

-- why a page is refused
pub data Kind : Type 0 where
  UnknownFormat : Kind
  BadHeader : Kind
  ZeroSide : Kind
  TooLarge : Kind
  Truncated : Kind
  BadRaster : Kind
  BmpKind : Kind
  BadOffset : Kind
  TooLong : Kind

-- how the pages of a file end: well, with bytes that don't begin a page, or with a page that is refused
pub data FileEnd : Type 0 where
  End : FileEnd
  Trailing : FileEnd
  Refused : Kind → FileEnd

-- what a part of a page finds in a list of bytes: it takes the first bytes, which have a value, and
-- leaves the rest, or the pages end here. The flag says whether it is by the end of the list:
-- whether bytes added to the list could change it.
pub data Cut (A : Type 0) : Type 0 where
  Takes : Bool → A → List ℕ → Cut A
  Stops : Bool → FileEnd → Cut A

-- the cut is by the end of the list: bytes added to the list could change it
abbrev pub is_by_end : {A : Type 0} → Cut A → Bool
is_by_end (Takes e x rest) = e
is_by_end (Stops e ending) = e

-- a cut that comes after another one: it is by the end if either of them is
abbrev pub after : {A : Type 0} → Bool → Cut A → Cut A
after d (Takes e x rest) = Takes (d || e) x rest
after d (Stops e ending) = Stops (d || e) ending

-- one part, and then another one that begins at the end of the first
infixl 10 ◌>>=◌
abbrev pub ◌>>=◌ : {A B : Type 0} → Cut A → (A → List ℕ → Cut B) → Cut B
(Takes e x rest) >>= f = after e (f x rest)
(Stops e ending) >>= f = Stops e ending

-- Pages with the number of bytes that they take, from which the bytes that a page claims after it follow.
use Rattle.std.specs.Prelude.{◌≡◌, ℕ, ◌+◌, ◌-◌, Bool, List, length, Result, Ok, Err}
use Rattle.bit_image.specs.Page.{Page}
use Rattle.bitmap_input.specs.Cut.{Cut, ◌>>=◌}
use Rattle.bitmap_input.specs.Cut.Cut.{Takes, Stops}
use Rattle.bitmap_input.specs.PageParts.{spaces}
use Rattle.bitmap_input.specs.Raw.{Raw, IsShown}
use Rattle.bitmap_input.specs.Front.{Magic, magic, body}
use Rattle.bitmap_input.specs.declared.stop.Stop.{Stop}
use Rattle.bitmap_input.specs.declared.extent.ReadPage.{ReadPage}

-- the value of a cut of these bytes, and how many bytes it takes
abbrev pub counted : {A : Type 0} → List ℕ → Cut A → Cut (A × ℕ)
counted bytes (Takes e a rest) = Takes e (a, length bytes - length rest) rest
counted bytes (Stops e ending) = Stops e ending

-- what follows the magic number, and how many bytes it takes
abbrev pub counted_body : Magic → List ℕ → Cut (Raw × ℕ)
counted_body m bytes = counted bytes (body m bytes)

-- the page, after any whitespace, and how many bytes it takes after its magic number
abbrev pub counted_page : Bool → List ℕ → Cut (Raw × ℕ)
counted_page later bytes = spaces bytes >>= λ _ rest. magic later rest >>= λ m rest. counted_body m rest

-- the page shows the raw page, and `behind` is what it claims beyond the bytes that it takes and
-- its magic number
abbrev pub IsRead : ℕ → Bool → ReadPage → Raw × ℕ → Type 0
IsRead level invert r p = IsShown level invert r.page p.0 × (r.behind ≡ p.0.least_length - (2 + p.1))

-- a page after which no bytes are skipped
abbrev pub claiming_none : Result Page Stop → Result ReadPage Stop
claiming_none (Ok page) = Ok (record { page = page; behind = 0 })
claiming_none (Err s) = Err s

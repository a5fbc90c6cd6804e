-- The rows of a gray page with which bytes begin.
use Rattle.std.specs.Prelude.{◌≡◌, ℕ, zero, suc, ◌*◌, ◌≤◌, ◌⊎◌, Bool, true, false, ◌&&◌, if◌then◌else◌, List, [], ◌∷◌, ◌++◌, length, nat_eq, nat_le}
use Rattle.pt_core.specs.declared.limits.TheConstants.{LONGEST_SIDE}
use Rattle.bitmap_input.specs.Cut.{Cut, is_by_end}
use Rattle.bitmap_input.specs.Cut.Cut.{Takes, Stops}
use Rattle.bitmap_input.specs.GrayRows.{gray_row}
use Rattle.mkbitmap_run.specs.PageHeader.{page_header}
use Rattle.mkbitmap_run.specs.PageHeader.{PageHeader}
use Rattle.run_output.specs.declared.status.Status.{Status}
use Rattle.run_output.specs.declared.status.Status.TheVariants as status
use Rattle.mkbitmap_words.specs.declared.setup.Setup.{Setup}

-- the next row of a page with this header
abbrev pub cut_row : PageHeader → List ℕ → Cut (List ℕ)
cut_row header bytes = gray_row header.plain header.maxval header.width bytes

-- a row that was read, and the rows after it
abbrev pub row_before : (List ℕ → List (List ℕ)) → Cut (List ℕ) → List (List ℕ)
row_before behind (Takes e row rest) = row ∷ behind rest
row_before behind (Stops e ending) = []

-- the rows, at most n, with which the bytes begin
abbrev pub standing : (List ℕ → Cut (List ℕ)) → ℕ → List ℕ → List (List ℕ)
standing part zero bytes = []
standing part (suc n) bytes = row_before (λ rest. standing part n rest) (part bytes)

-- a row that was read and is settled, and the settled rows after it
abbrev pub settled_before : (List ℕ → List (List ℕ)) → Cut (List ℕ) → List (List ℕ)
settled_before behind (Takes false row rest) = row ∷ behind rest
settled_before behind (Takes true row rest) = []
settled_before behind (Stops e ending) = []

-- the settled rows, at most n, with which the bytes begin; a row is settled if no further bytes can change it
abbrev pub settled_rows : (List ℕ → Cut (List ℕ)) → ℕ → List ℕ → List (List ℕ)
settled_rows part zero bytes = []
settled_rows part (suc n) bytes = settled_before (λ rest. settled_rows part n rest) (part bytes)

-- the bytes begin with these rows, and `left` follows them; a row that isn't settled needs `ended`
abbrev pub LeavesRows : Bool → (List ℕ → Cut (List ℕ)) → List ℕ → List (List ℕ) → List ℕ → Type 0
LeavesRows ended part bytes [] left = bytes ≡ left
LeavesRows ended part bytes (row ∷ rows) left =
    (e : Bool) × (rest : List ℕ) × (part bytes ≡ Takes e row rest) × (e ≡ true → ended ≡ true) × LeavesRows ended part rest rows left

-- the bytes have at most 65,536 bytes after a prefix that doesn't decide this part, or have at most 65,536 bytes
pub record ReachesNear {A : Type 0} (part : List ℕ → Cut A) (bytes : List ℕ) : Type 0 where
  pub front : List ℕ
  pub block : List ℕ
  pub split : bytes ≡ front ++ block
  pub undecided : (front ≡ []) ⊎ (is_by_end (part front) ≡ true)
  pub near : length block ≤ 65536

-- the result of a page with these sides isn't too large
abbrev pub fits_result : Setup → ℕ → ℕ → Bool
fits_result setup width height = nat_le (setup.times * width) LONGEST_SIDE && nat_le (setup.times * height) LONGEST_SIDE

-- how a run ends, by the header: it is done if the result isn't too large and all rows follow the header
abbrev pub head_ending : Setup → Cut PageHeader → Status
head_ending setup (Stops e why) = status.Refused
head_ending setup (Takes e header rest) =
    if fits_result setup header.width header.height && nat_eq (length (standing (cut_row header) header.height rest)) header.height
    then status.Done else status.Refused

-- how a run ends, by the bytes of standard input, if no device fails and there is enough memory
abbrev pub page_ending : Setup → List ℕ → Status
page_ending setup bytes = head_ending setup (page_header bytes)

-- What the checker says of a text.
use Rattle.std.specs.Prelude.{◌≡◌, ℕ, ◌+◌, ◌<◌, List, [], All, length, slice_index_or, take}
use Rattle.pt_core.specs.ClosedWalk.{IsClosedWalk}
use Rattle.outline_check.specs.Certificate.{IsCertificate}
use Rattle.outline_check.specs.ProofsText.{Certified}
use Rattle.outline_check.specs.Texts.{IsProofs}
use Rattle.outline_check.specs.declared.verdict.Verdict.{Verdict}
use Rattle.outline_check.specs.declared.verdict.Verdict.TheVariants.{Right, Wrong, BadProofs}

-- the points are a closed walk, and the rest is the certificate of its best polygon
pub record IsGood (c : Certified) : Type 0 where
  pub closed : IsClosedWalk c.points
  pub certificate : IsCertificate c.points c.at c.labels

-- no path at all
abbrev pub no_certified : Certified
no_certified = record { points = []; at = []; labels = [] }

-- the path at place k is the first that isn't good
pub record IsFirstBad (paths : List Certified) (k : ℕ) : Type 0 where
  pub within : k < length paths
  pub bad : ¬ IsGood (slice_index_or paths k no_certified)
  pub before : All IsGood (take k paths)

-- all of so many paths are good; or path number p, counted from 1, is the first that isn't; or the text isn't a
-- certificates' text
abbrev pub IsVerdict : List ℕ → Verdict → Type 0
IsVerdict text (Right p) = (width height : ℕ) × (paths : List Certified) × IsProofs text width height paths × All IsGood paths × (length paths ≡ p)
IsVerdict text (Wrong p) = (width height : ℕ) × (paths : List Certified) × (k : ℕ) × IsProofs text width height paths × IsFirstBad paths k × (k + 1 ≡ p)
IsVerdict text BadProofs = (width height : ℕ) (paths : List Certified) → IsProofs text width height paths → ⊥

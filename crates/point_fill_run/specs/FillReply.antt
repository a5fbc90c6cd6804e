-- What the program makes of its input.
use Rattle.std.specs.Prelude.{◌≡◌, ℕ, ◌⊎◌, List, codes}
use Rattle.bit_image.specs.Page.{Page}
use Rattle.bit_image.specs.PbmText.{pbm_text}
use Rattle.run_output.specs.declared.status.Status.{Status}
use Rattle.run_output.specs.declared.status.Status.TheVariants as status
use Rattle.point_fill.specs.Filled.{IsFilled}
use Rattle.point_fill.specs.FillText.{fill_text}
use Rattle.point_fill.specs.PointsFile.{IsSomePointsFile}
use Rattle.point_fill.specs.declared.fault.FillFault.TheVariants as fault

-- the reply to a text: the page that it fills, as raw PBM; or a refusal, if it describes no paths on a page
abbrev pub IsFillReply : List ℕ → Status → List ℕ → Type 0
IsFillReply text end reply =
    ((end ≡ status.Done) × ((page : Page) × IsFilled text page × (reply ≡ pbm_text page)))
    ⊎ ((end ≡ status.Refused) × (IsSomePointsFile text → ⊥) × (reply ≡ fill_text fault.BadPoints))

-- the program's name
abbrev pub filler : List ℕ
filler = codes "point_fill"

-- How the counts of faults move.
use Rattle.std.proofs.Common.{◌≡◌, ℕ, subst}
use Rattle.pt_core.specs.Counts.{Rose}
use Rattle.bitmap_input.specs.declared.fault.InFault.TheVariants as fault
use Rattle.run_output.specs.declared.status.Status.{Status}
use Rattle.file_documents.specs.Inner.Progress.{FaultsBy, status_of}
use Rattle.file_documents.specs.Outcome.{InputCount}
use Rattle.file_documents.specs.declared.pages.PagesEnd.{PagesEnd}
use Rattle.file_documents.specs.declared.pages.PagesEnd.TheVariants as why

-- a count moved since it stood
pub input_from : (s : Status) (a b c : ℕ) → b ≡ a → InputCount s b c → InputCount s a c
input_from s a b c e count = subst (λ n. InputCount s n c) e count

pub faults_from : (end : PagesEnd) (a b c : ℕ) → b ≡ a → FaultsBy end b c → FaultsBy end a c
faults_from end a b c e faults = subst (λ n. FaultsBy end n c) e faults

-- how the inputs moved where the pages of a file end so
pub input_by : (end : PagesEnd) (before now : ℕ) → FaultsBy end before now → InputCount (status_of end) before now
input_by why.End before now faults = faults
input_by why.Trailing before now faults = faults
input_by why.TooMany before now faults = faults
input_by (why.Fault fault.ReadFault) before now faults = tt
input_by (why.Fault fault.NoMemory) before now faults = tt
input_by (why.Fault f) before now faults = faults

-- a read failed
pub rose_by : (end : PagesEnd) (before now : ℕ) → FaultsBy end before now → end ≡ why.Fault fault.ReadFault → Rose before now
rose_by end before now faults is = subst (λ e. FaultsBy e before now) is faults

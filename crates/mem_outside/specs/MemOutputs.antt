-- Outputs in memory: what they hold, and which of their calls fail.
use Rattle.std.specs.Prelude.{◌≡◌, ℕ, Bool, ◌<◌, ◌⊎◌, List, length, Contains}
use Rattle.pt_core.specs.Counts.{next_count}
use Rattle.pt_core.specs.Documents.{Documents}
use Rattle.mem_outside.specs.declared.mem_outputs.OutCall.{OutCall}
use Rattle.mem_outside.specs.declared.mem_outputs.OutCall.TheVariants.{Begin, Write, End}

-- the documents, how many more can be added, the free bytes for names and texts, the most bytes that a write takes, the
-- calls that are to fail, the numbers of calls and faults, and whether the last call failed
pub record OutputsState : Type 0 where
  pub documents : Documents
  pub free_documents : ℕ
  pub free_bytes : ℕ
  pub most : ℕ
  pub fails : List OutCall
  pub begins : ℕ
  pub writes : ℕ
  pub ends : ℕ
  pub faults : ℕ
  pub broken : Bool

-- the next call of begin fails, since it is listed or exceeds the capacity
abbrev pub IsBeginDue : OutputsState → List ℕ → Type 0
IsBeginDue s name =
    Contains s.fails (Begin (next_count s.begins)) ⊎ ((s.free_documents ≡ 0) ⊎ (s.free_bytes < length name))

-- the next call of write fails, since it is listed or no byte is free
abbrev pub IsWriteDue : OutputsState → Type 0
IsWriteDue s = Contains s.fails (Write (next_count s.writes)) ⊎ (s.free_bytes ≡ 0)

-- the next call of end fails, since it is listed
abbrev pub IsEndDue : OutputsState → Type 0
IsEndDue s = Contains s.fails (End (next_count s.ends))

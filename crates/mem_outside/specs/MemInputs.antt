-- Inputs in memory: what they hold, and which of their calls fail.
use Rattle.std.specs.Prelude.{◌≢◌, ℕ, zero, suc, ◌<◌, ◌≤◌, Bool, cond, List, [], ◌∷◌, length, map, drop, Option, None, Some, Contains, string_bytes}
use Rattle.std.specs.FinMap.{from_entries}
use Rattle.pt_core.specs.Counts.{next_count}
use Rattle.pt_core.specs.Files.{Contents, Files, Opened}
use Rattle.mem_outside.specs.declared.mem_inputs.InCall.{InCall}
use Rattle.mem_outside.specs.declared.mem_inputs.InCall.TheVariants.{Open, Read}
use Rattle.mem_outside.specs.declared.mem_inputs.NamedBytes.{NamedBytes}

-- the files, the most bytes that a read returns, the calls that are to fail, and the numbers of calls and of faults
-- until now
pub record InputsState : Type 0 where
  pub files : Files
  pub most : ℕ
  pub fails : List InCall
  pub opens : ℕ
  pub reads : ℕ
  pub faults : ℕ

-- the bytes of a file's name
abbrev pub name_of : NamedBytes → List ℕ
name_of file = string_bytes file.name

-- a file as the entry of a map
abbrev pub entry_of : NamedBytes → List ℕ × List ℕ
entry_of file = (string_bytes file.name, file.bytes.items)

-- the map from names to bytes
abbrev pub contents_of : List NamedBytes → Contents
contents_of files = from_entries (map entry_of files)

-- the file at an index of the list, without its first bytes
abbrev pub opened_at : List NamedBytes → ℕ → ℕ → Option Opened
opened_at [] at offset = None
opened_at (file ∷ files) zero offset = Some (record { name = string_bytes file.name; rest = drop offset file.bytes.items })
opened_at (file ∷ files) (suc at) offset = opened_at files at offset

-- the bytes of the file at an index of the list
abbrev pub bytes_at : List NamedBytes → ℕ → List ℕ
bytes_at [] at = []
bytes_at (file ∷ files) zero = file.bytes.items
bytes_at (file ∷ files) (suc at) = bytes_at files at

-- there is a file at the index, and the offset is within it
pub record IsReached (files : List NamedBytes) (at offset : ℕ) : Type 0 where
  pub place : at < length files
  pub offset_within : offset ≤ length (bytes_at files at)

-- the open file, if there is one
abbrev pub opened_of : List NamedBytes → Bool → ℕ → ℕ → Option Opened
opened_of files is_opened at offset = cond is_opened (opened_at files at offset) None

-- no file of the list has this name
abbrev pub IsNoneOf : List ℕ → List NamedBytes → Type 0
IsNoneOf name [] = Unit {0}
IsNoneOf name (file ∷ files) = (name ≢ name_of file) × IsNoneOf name files

-- all files have different names
abbrev pub HaveOwnNames : List NamedBytes → Type 0
HaveOwnNames [] = Unit {0}
HaveOwnNames (file ∷ files) = IsNoneOf (name_of file) files × HaveOwnNames files

-- the next call of open is listed, so it fails if there is a file with the name
abbrev pub IsOpenDue : InputsState → Type 0
IsOpenDue s = Contains s.fails (Open (next_count s.opens))

-- the next call of read is listed, so it fails
abbrev pub IsReadDue : InputsState → Type 0
IsReadDue s = Contains s.fails (Read (next_count s.reads))

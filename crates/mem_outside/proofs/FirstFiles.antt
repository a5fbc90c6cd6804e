-- The first file with a name is found by looking at one index after the other.
use Rattle.std.proofs.Common.{◌≡◌, ◌<◌, ◌≤◌, ℕ, zero, suc, ◌+◌, Bool, true, false, cond, List, [], ◌∷◌, length, map, drop, get_or, Option, None, Some, is_some, option_map, IfSome, min, take, refl, sym, ◌∙◌, ap, drop-cons, drop-drop, add-one, arith}
use Rattle.std.specs.Ordering.{nat_cmp}
use Rattle.std.specs.Str.{bytes_eq}
use Rattle.std.specs.Cmp.Lexicographic.{slice_cmp}
use Rattle.std.specs.FinMap.{get, get-from_entries}
use Rattle.std.specs.FinMap.Entries.{find}
use Rattle.std.proofs.lemmas.List.{nil_from_length}
use Rattle.std.proofs.Math.ListN.{drop_of_length-le}
use Rattle.std.proofs.lemmas.Cmp.{nat_list_cmp_total}
use Rattle.std.proofs.lemmas.Map.Text.{is_eq-slice_cmp}
use Rattle.std.proofs.lemmas.Slice.Eq.{bytes_eq-Decides}
use Rattle.pt_core.specs.Files.{Opened, IsFront, file_at, taken_of}
use Rattle.mem_outside.specs.MemInputs.{name_of, entry_of, contents_of, opened_at, opened_of, bytes_at}
use Rattle.mem_outside.specs.declared.mem_inputs.NamedBytes.{NamedBytes}

-- the bytes of the first file with a name
abbrev pub found : List ℕ → List NamedBytes → Option (List ℕ)
found name files = find (slice_cmp nat_cmp) name (map entry_of files)

pub get-contents_of : (files : List NamedBytes) (name : List ℕ) → get (contents_of files) name ≡ found name files
get-contents_of files name = get-from_entries nat_list_cmp_total (map entry_of files) name

found-cons : (file : NamedBytes) (files : List NamedBytes) (name : List ℕ) (b : Bool) → bytes_eq name (name_of file) ≡ b
    → found name (file ∷ files) ≡ cond b (Some file.bytes.items) (found name files)
found-cons file files name b e =
    ap (λ t. cond t (Some file.bytes.items) (found name files)) (is_eq-slice_cmp name (name_of file) ∙ e)

found-drop : (file : NamedBytes) (files : List NamedBytes) (i : ℕ) (name : List ℕ) (b : Bool) → i < length files
    → file ≡ get_or files i file → bytes_eq name (name_of file) ≡ b
    → found name (drop i files) ≡ cond b (Some file.bytes.items) (found name (drop (suc i) files))
found-drop file files i name b within is e =
    ap (found name) (drop-cons files i file within ∙ ap (λ f. f ∷ drop (suc i) files) (sym is))
    ∙ found-cons file (drop (suc i) files) name b e

-- the file at index i has another name, so the name is found at a later index or not at all
pub found_on : (file : NamedBytes) (files : List NamedBytes) (i : ℕ) (name : List ℕ) → i < length files
    → file ≡ get_or files i file → bytes_eq name (name_of file) ≡ false
    → found name (drop i files) ≡ found name files → found name (drop (i + 1) files) ≡ found name files
found_on file files i name within is e so_far =
    rw add-one (sym (found-drop file files i name false within is e) ∙ so_far)

-- the file at index i has the name, and no earlier one does
pub found_here : (file : NamedBytes) (files : List NamedBytes) (i : ℕ) (name : List ℕ) → i < length files
    → file ≡ get_or files i file → bytes_eq name (name_of file) ≡ true
    → found name (drop i files) ≡ found name files → get (contents_of files) name ≡ Some file.bytes.items
found_here file files i name within is e so_far =
    get-contents_of files name ∙ sym so_far ∙ found-drop file files i name true within is e

pub opened_at-place : (file : NamedBytes) (files : List NamedBytes) (i offset : ℕ) → i < length files → file ≡ get_or files i file
    → opened_at files i offset ≡ Some (record { name = name_of file; rest = drop offset file.bytes.items })
opened_at-place file [] i offset within is = absurd (omega arith)
opened_at-place file (f ∷ files) zero offset within is =
    ap (λ g. Some (record { name = name_of g; rest = drop offset g.bytes.items })) (sym is)
opened_at-place file (f ∷ files) (suc i) offset within is = opened_at-place file files i offset (omega arith) is

pub bytes_at-place : (file : NamedBytes) (files : List NamedBytes) (i : ℕ) → i < length files → file ≡ get_or files i file
    → bytes_at files i ≡ file.bytes.items
bytes_at-place file [] i within is = absurd (omega arith)
bytes_at-place file (f ∷ files) zero within is = ap (λ g. g.bytes.items) (sym is)
bytes_at-place file (f ∷ files) (suc i) within is = bytes_at-place file files i (omega arith) is

-- the open file after n more bytes were read
pub opened_on : (files : List NamedBytes) (i offset n : ℕ)
    → option_map (taken_of n) (opened_at files i offset) ≡ opened_at files i (offset + n)
opened_on [] i offset n = refl
opened_on (file ∷ files) zero offset n = ap (λ rest. Some (record { name = name_of file; rest = rest })) (drop-drop n offset file.bytes.items)
opened_on (file ∷ files) (suc i) offset n = opened_on files i offset n

pub opened_here : (file : NamedBytes) (files : List NamedBytes) (i : ℕ) (name : List ℕ) → i < length files
    → file ≡ get_or files i file → bytes_eq name (name_of file) ≡ true
    → found name (drop i files) ≡ found name files → opened_at files i 0 ≡ file_at (contents_of files) name
opened_here file files i name within is e so_far =
    let same : name ≡ name_of file = (bytes_eq-Decides name (name_of file)).0 e in
    opened_at-place file files i 0 within is
    ∙ ap (λ n. Some (record { name = n; rest = file.bytes.items })) (sym same)
    ∙ ap (option_map (λ (bytes : List ℕ). record { name = name; rest = bytes })) (sym (found_here file files i name within is e so_far))

-- no file has the name
pub found_none : (files : List NamedBytes) (i : ℕ) (name : List ℕ) → length files ≤ i
    → found name (drop i files) ≡ found name files → get (contents_of files) name ≡ None
found_none files i name end so_far =
    get-contents_of files name ∙ sym so_far ∙ ap (found name) (drop_of_length-le files end)

-- the bytes that were copied are a prefix of the rest
pub given : (rest buf : List ℕ) (n most : ℕ) → 1 ≤ most → n ≡ min (length rest) (min most (length buf)) → take n buf ≡ take n rest
    → (n ≡ min (length rest) (min most (length buf))) × IsFront rest n buf
given rest buf n most some count same = (
  count,
  record { within = omega arith; same = same; ended = λ room none. nil_from_length rest (omega arith) },
)

pub IfSome-opened_of : (P : Opened → Type 0) (files : List NamedBytes) (is_opened : Bool) (i offset : ℕ)
    → is_some (opened_of files is_opened i offset) ≡ true → IfSome (opened_at files i offset) P → IfSome (opened_of files is_opened i offset) P
IfSome-opened_of P files false i offset e p = cc
IfSome-opened_of P files true i offset e p = p

pub opened_of-true : (files : List NamedBytes) (is_opened : Bool) (i offset : ℕ) → is_some (opened_of files is_opened i offset) ≡ true → is_opened ≡ true
opened_of-true files false i offset e = e
opened_of-true files true i offset e = refl

pub opened_of-on : (files : List NamedBytes) (is_opened : Bool) (i offset n : ℕ)
    → opened_of files is_opened i (offset + n) ≡ option_map (taken_of n) (opened_of files is_opened i offset)
opened_of-on files false i offset n = refl
opened_of-on files true i offset n = sym (opened_on files i offset n)

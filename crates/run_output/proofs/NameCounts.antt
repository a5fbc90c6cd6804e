-- How many documents have a base name, counted file by file.
use Rattle.std.proofs.Common.{◌≡◌, ◌≤◌, ℕ, zero, suc, ◌+◌, Bool, true, false, cond, List, [], ◌∷◌, ◌++◌, length, take, refl, sym, ◌∙◌, ap, append_assoc, append-nil, arith}
use Rattle.std.specs.Prelude.{replicate, string_bytes}
use Rattle.std.specs.List.{sum_by}
use Rattle.std.specs.Str.{bytes_eq}
use Rattle.std.proofs.lemmas.List.Sums.{count_by-le-length, sum_by-append, sum_by-cons, sum_by-take-le}
use Rattle.std.proofs.lemmas.Slice.Eq.{bytes_eq-Decides}
use Rattle.run_output.specs.Made.{Past}
use Rattle.run_output.specs.Inner.Made.{documents_of, made_by}
use Rattle.run_output.specs.Names.{count_of, document_name, made_with, next_name}
use Rattle.run_output.specs.declared.made.FileMade.{FileMade}

pub made_with-in : (base : List ℕ) (n : ℕ) (made : List (List ℕ)) → made_with base n (base ∷ made) ≡ base ∷ made_with base n made
made_with-in base zero made = refl
made_with-in base (suc n) made = ap (λ m. base ∷ m) (made_with-in base n made)

pub length-made_with : (base : List ℕ) (n : ℕ) (made : List (List ℕ)) → length (made_with base n made) ≡ n + length made
length-made_with base zero made = omega arith
length-made_with base (suc n) made = let more = length-made_with base n made in omega (arith, more)

replicate-append : (base : List ℕ) (n : ℕ) (made : List (List ℕ)) → replicate n base ++ made ≡ made_with base n made
replicate-append base zero made = refl
replicate-append base (suc n) made = ap (λ m. base ∷ m) (replicate-append base n made)

abbrev as_one : Bool → ℕ
as_one t = cond t 1 0

abbrev as_many : ℕ → Bool → ℕ
as_many n t = cond t n 0

-- one more document of this base name adds 1 to its count
count_of-same : (base : List ℕ) (made : List (List ℕ)) → count_of base (base ∷ made) ≡ 1 + count_of base made
count_of-same base made =
    let same : bytes_eq base base ≡ true = (bytes_eq-Decides base base).1 refl in
    sum_by-cons (λ name. cond (bytes_eq name base) 1 0) base made ∙ ap (λ (t : Bool). as_one t + count_of base made) same

pub count_of-made_with : (base : List ℕ) (n : ℕ) (made : List (List ℕ)) → count_of base (made_with base n made) ≡ n + count_of base made
count_of-made_with base zero made = omega arith
count_of-made_with base (suc n) made =
    let more = count_of-made_with base n made in let one = count_of-same base (made_with base n made) in omega (arith, more, one)

-- the name of the next document, after n documents of its file and others of earlier files
pub next_name-made_with : (base : List ℕ) (first n : ℕ) (made : List (List ℕ)) → first ≡ count_of base made
    → next_name base (made_with base n made) ≡ document_name base (first + n + 1)
next_name-made_with base first n made is =
    let more = count_of-made_with base n made in
    let k : 1 + count_of base (made_with base n made) ≡ first + n + 1 = omega (arith, more, is) in
    ap (document_name base) k

pub documents_by : (t : Bool) (base name : List ℕ) (n : ℕ) → bytes_eq name base ≡ t → count_of base (replicate n name) ≡ as_many n t
documents_by true base name zero is = refl
documents_by false base name zero is = refl
documents_by true base name (suc n) is =
    let rest = documents_by true base name n is in
    let one = sum_by-cons (λ x. cond (bytes_eq x base) 1 0) name (replicate n name) in
    let test : as_one (bytes_eq name base) ≡ as_one true = ap as_one is in omega (arith, rest, one, test)
documents_by false base name (suc n) is =
    let rest = documents_by false base name n is in
    let one = sum_by-cons (λ x. cond (bytes_eq x base) 1 0) name (replicate n name) in
    let test : as_one (bytes_eq name base) ≡ as_one false = ap as_one is in omega (arith, rest, one, test)

pub documents_same : (base name : List ℕ) (n : ℕ) → name ≡ base → n ≡ count_of base (replicate n name)
documents_same base name n is = sym (documents_by true base name n ((bytes_eq-Decides name base).1 is))

-- the counts of all files add up to the count of all documents
pub documents_all : (base : List ℕ) (files : List FileMade) → sum_by (documents_of base) files ≡ count_of base (made_by files)
documents_all base [] = refl
documents_all base (file ∷ files) =
    let rest = documents_all base files in
    let one = sum_by-cons (documents_of base) file files in
    let both = sum_by-append (λ x. cond (bytes_eq x base) 1 0) (made_by files) (replicate file.documents (string_bytes file.base)) in
    omega (arith, rest, one, both)

-- the first i files have no more documents than all files
pub documents_most : (base : List ℕ) (files : List FileMade) (i : ℕ) → sum_by (documents_of base) (take i files) ≤ length (made_by files)
documents_most base files i =
    let some = sum_by-take-le (documents_of base) files i in
    let all = documents_all base files in
    let most = count_by-le-length (λ name. bytes_eq name base) (made_by files) in
    omega (arith, some, all, most)

-- one more file adds its documents to the base names
pub made_by_push : (files : List FileMade) (file : FileMade) → made_by (files ++ file ∷ []) ≡ made_with (string_bytes file.base) file.documents (made_by files)
made_by_push [] file = sym (append-nil (replicate file.documents (string_bytes file.base))) ∙ replicate-append (string_bytes file.base) file.documents []
made_by_push (f ∷ files) file =
    let more : List (List ℕ) = replicate f.documents (string_bytes f.base) in
    ap (λ l. l ++ more) (made_by_push files file ∙ sym (replicate-append (string_bytes file.base) file.documents (made_by files)))
    ∙ append_assoc (replicate file.documents (string_bytes file.base)) (made_by files) more
    ∙ replicate-append (string_bytes file.base) file.documents (made_by files ++ more)

-- two runs made the same if their documents and their numbers of pages agree
pub same_past : (past other : Past) → past.made ≡ other.made → past.pages ≡ other.pages → past ≡ other
same_past past other made pages =
    ap (λ (m : List (List ℕ)). at m past.pages) made ∙ ap (λ (n : ℕ). at other.made n) pages where
      at : List (List ℕ) → ℕ → Past
      at m n = record { made = m; pages = n }

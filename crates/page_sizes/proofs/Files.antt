-- How long the document of a file of pages is.
use Rattle.std.proofs.Common.{◌≡◌, ℕ, suc, ◌+◌, ◌*◌, ◌≤◌, List, [], ◌∷◌, ◌++◌, decimal, length, length-append, sum_by, arith}
use Rattle.std.specs.List.{concat}
use Rattle.std.proofs.lemmas.Fmt.{length-decimal-le}
use Rattle.std.proofs.lemmas.List.Sums.{sum_by-cons}
use Rattle.run_output.specs.Parts.{file_text, page_pieces, pages_text, prolog_text, trailer_text}

number_most : (n : ℕ) → n ≤ 65536 → length (decimal n) ≤ 5
number_most n few = length-decimal-le 5 n (omega arith) (omega arith) (omega arith)

page_most : (p : ℕ) (text : List ℕ) → p ≤ 65536 → length (concat (page_pieces p text)) ≤ length text + 20
page_most p text few =
    let number = number_most p few in
    simp length-append (omega arith)

pages_most : (before : ℕ) (texts : List (List ℕ)) → before + length texts ≤ 65536 → length (pages_text before texts) ≤ sum_by length texts + 20 * length texts
pages_most before [] few = omega arith
pages_most before (text ∷ texts) few =
    let here = page_most (before + 1) text (omega arith) in
    let rest = pages_most (suc before) texts (omega arith) in
    let sums : sum_by length (text ∷ texts) ≡ length text + sum_by length texts = sum_by-cons length text texts in
    omega (arith, length-append (concat (page_pieces (before + 1) text)) (pages_text (suc before) texts))

pub file_most : (texts : List (List ℕ)) → length texts ≤ 65536 → length (file_text texts) ≤ sum_by length texts + 20 * length texts + 77
file_most texts few =
    let pages = pages_most 0 texts (omega arith) in
    let number = number_most (length texts) few in
    let trailer : length (trailer_text (length texts)) ≤ 31 = simp length-append (omega arith) in
    omega (arith, length-append (prolog_text ++ pages_text 0 texts) (trailer_text (length texts)), length-append prolog_text (pages_text 0 texts))

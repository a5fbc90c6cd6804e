-- A file has exactly one list of pages.
use Rattle.std.proofs.Common.{◌≡◌, refl, ℕ, zero, suc, ◌≤◌, Bool, true, List, [], ◌∷◌, length, drop, arith, ap, ◌∙◌, subst}
use Rattle.std.proofs.lemmas.List.{length-drop}
use Rattle.bitmap_input.specs.Cut.{FileEnd}
use Rattle.bitmap_input.specs.Raw.{Raw}
use Rattle.bitmap_input.specs.Front.{Answer, front}
use Rattle.bitmap_input.specs.Front.Answer.{Page, Ends}
use Rattle.bitmap_input.specs.FilePages.{FilePages, next_begins}
use Rattle.bitmap_input.specs.FilePages.FilePages.{Ended, Next}
use Rattle.bitmap_input.proofs.FrontKeeps.{front_takes_some}

pub file_pages_same : {later : Bool} {bytes : List ℕ} {raws others : List Raw} {ending other : FileEnd} →
    FilePages later bytes raws ending → FilePages later bytes others other → (others ≡ raws) × (other ≡ ending)
file_pages_same (Ended h) (Ended k) = (refl, cc)
file_pages_same (Ended h) (Next k rest) = cc
file_pages_same (Next h rest) (Ended k) = cc
file_pages_same {bytes = bytes} (Next {raw = raw} {used = used} h rest) (Next {raw = raw2} {used = used2} {raws = raws2} {ending = ending2} k rest2) =
    let same : raw2 ≡ raw = cc in
    let n : used2 ≡ used = cc in
    let at : next_begins bytes raw2 used2 ≡ next_begins bytes raw used = cc in
    let both = file_pages_same rest (subst (λ m. FilePages true (drop m bytes) raws2 ending2) at rest2) in
    (ap (λ x. x ∷ raws2) same ∙ ap (λ xs. raw ∷ xs) both.0, both.1)

-- there is a list of pages, by the number of bytes that are left
some_pages : (n : ℕ) (later : Bool) (bytes : List ℕ) → length bytes ≤ n → (answer : Answer) → front later bytes ≡ answer →
    (raws : List Raw) × (ending : FileEnd) × FilePages later bytes raws ending
some_pages n later bytes within (Ends ending) is = ([], ending, Ended is)
some_pages zero later bytes within (Page raw used) is =
    let some = front_takes_some later bytes raw used is in absurd (omega arith)
some_pages (suc n) later bytes within (Page raw used) is =
    let some = front_takes_some later bytes raw used is in
    let left : List ℕ = drop (next_begins bytes raw used) bytes in
    let fewer : length left ≤ n = omega (arith, length-drop (next_begins bytes raw used) bytes) in
    let (raws, ending, pages) = some_pages n true left fewer (front true left) refl in
    (raw ∷ raws, ending, Next is pages)

pub file_pages_some : (later : Bool) (bytes : List ℕ) → (raws : List Raw) × (ending : FileEnd) × FilePages later bytes raws ending
file_pages_some later bytes = some_pages (length bytes) later bytes (omega arith) (front later bytes) refl

-- The positions of the documents on a shelf, in order.
use Rattle.std.proofs.Common.{◌≡◌, ℕ, zero, suc, ◌-◌, Bool, true, false, List, [], ◌∷◌, ◌++◌, length, map, take, drop, get_or, Option, None, Some, IfSome, refl, sym, ◌∙◌, ap, length-drop, arith}
use Rattle.std.specs.List.{slice_get}
use Rattle.std.proofs.lemmas.List.{take_all}
use Rattle.pt_core.specs.Documents.{Document, as_list}
use Rattle.mem_outside.specs.Shelf.{document_at, open_at}
use Rattle.mem_outside.specs.declared.shelf.ShelfPlace.{ShelfPlace}

-- the position of the open document
abbrev pub open_place : ℕ → ℕ → ℕ → ShelfPlace
open_place start middle end = record { start = start; middle = middle; end = end }

open_is : (is_open : Bool) (start middle : ℕ) (bytes : List ℕ)
    → IfSome (open_at is_open start middle bytes) (λ d. d ≡ document_at bytes (open_place start middle (length bytes)))
open_is false start middle bytes = tt
open_is true start middle bytes =
    ap (λ t. record { name = take (middle - start) (drop start bytes); bytes = t })
    (sym (take_all (length bytes - middle) (drop middle bytes) (rw length-drop (omega arith))))

listed_is : (bytes : List ℕ) (last : ShelfPlace) (o : Option Document) → IfSome o (λ d. d ≡ document_at bytes last)
    → (places : List ShelfPlace) (i : ℕ) → IfSome (slice_get (map (document_at bytes) places ++ as_list o) i) (λ d. d ≡ document_at bytes (get_or places i last))
listed_is bytes last None is [] i = tt
listed_is bytes last (Some d) is [] zero = is
listed_is bytes last (Some d) is [] (suc i) = tt
listed_is bytes last o is (p ∷ places) zero = refl
listed_is bytes last o is (p ∷ places) (suc i) = listed_is bytes last o is places i

pub place_is : (is_open : Bool) (start middle : ℕ) (bytes : List ℕ) (places : List ShelfPlace) (i : ℕ)
    → IfSome (slice_get (map (document_at bytes) places ++ as_list (open_at is_open start middle bytes)) i)
    (λ d. d ≡ document_at bytes (get_or places i (open_place start middle (length bytes))))
place_is is_open start middle bytes places i =
    listed_is bytes (open_place start middle (length bytes)) (open_at is_open start middle bytes) (open_is is_open start middle bytes) places i

-- a fact about an optional value and its image
pub IfSome-is : (A B : Type 0) (f : A → B) (o : Option A) (a : A) (b : B) → b ≡ f a → IfSome o (λ d. d ≡ a) → IfSome o (λ d. b ≡ f d)
IfSome-is A B f None a b e h = tt
IfSome-is A B f (Some d) a b e h = e ∙ ap f (sym h)

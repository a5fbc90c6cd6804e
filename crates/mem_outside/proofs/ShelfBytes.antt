-- Appending bytes to the buffer leaves the documents on a shelf as they are.
use Rattle.std.proofs.Common.{◌≡◌, ◌≤◌, ℕ, ◌+◌, ◌-◌, Bool, true, false, List, [], ◌∷◌, ◌++◌, length, map, take, drop, All, Option, None, Some, is_some, refl, ◌∙◌, ap, suc, length-append, length-drop, arith}
use Rattle.std.proofs.Math.Seq.{take-length, drop-append_seam, drop-length}
use Rattle.std.proofs.lemmas.List.{take-append-le, drop-append-le}
use Rattle.pt_core.specs.Documents.{Document, grown}
use Rattle.mem_outside.specs.Shelf.{ShelfState, document_at, open_at, IsWithin, shelf_of, count_with}
use Rattle.mem_outside.specs.declared.shelf.ShelfPlace.{ShelfPlace}

-- a part of the first bytes stays the same
part_stays : (n m : ℕ) (bytes more : List ℕ) → n ≤ m → m ≤ length bytes → take (m - n) (drop n (bytes ++ more)) ≡ take (m - n) (drop n bytes)
part_stays n m bytes more before within =
    let n_within : n ≤ length bytes = omega arith in
    let fits : m - n ≤ length (drop n bytes) = rw length-drop (omega arith) in
    ap (take (m - n)) (drop-append-le n bytes more n_within) ∙ take-append-le (m - n) (drop n bytes) more fits

same_document : (n m : List ℕ) (t u : List ℕ) → n ≡ m → t ≡ u → ◌≡◌ {A = Document} (record { name = n; bytes = t }) (record { name = m; bytes = u })
same_document n m t u p q = cc

document_stays : (bytes more : List ℕ) (p : ShelfPlace) → IsWithin (length bytes) p → document_at (bytes ++ more) p ≡ document_at bytes p
document_stays bytes more p within =
    same_document _ _ _ _ (part_stays p.start p.middle bytes more within.0 (omega arith)) (part_stays p.middle p.end bytes more within.1 within.2)

same_cons : (d e : Document) (ds es : List Document) → d ≡ e → ds ≡ es → d ∷ ds ≡ e ∷ es
same_cons d e ds es p q = cc

pub documents_stay : (bytes more : List ℕ) (places : List ShelfPlace) → All (IsWithin (length bytes)) places
    → map (document_at (bytes ++ more)) places ≡ map (document_at bytes) places
documents_stay bytes more [] all = refl
documents_stay bytes more (p ∷ places) all =
    let here : IsWithin (length bytes) p = all 0 p (omega arith) in
    same_cons _ _ _ _ (document_stays bytes more p here)
    (documents_stay bytes more places (λ k d h. all (suc k) d (omega arith)))

same_shelf : (w w' : List Document) (o o' : Option Document) (d d' b b' : ℕ) → w ≡ w' → o ≡ o' → d ≡ d' → b ≡ b'
    → ◌≡◌ {A = ShelfState} (record { documents = record { whole = w; last_open = o }; free_documents = d; free_bytes = b })
    (record { documents = record { whole = w'; last_open = o' }; free_documents = d'; free_bytes = b' })
same_shelf w w' o o' d d' b b' p q r s = cc

open_grows : (bytes more : List ℕ) (is_open : Bool) (start middle : ℕ) → is_open ≡ true → start ≤ middle → middle ≤ length bytes
    → open_at is_open start middle (bytes ++ more) ≡ grown (open_at is_open start middle bytes) more
open_grows bytes more false start middle e f g = cc
open_grows bytes more true start middle e f g =
    ap (λ n. Some (record { name = n; bytes = drop middle (bytes ++ more) })) (part_stays start middle bytes more f g)
    ∙ ap (λ t. Some (record { name = take (middle - start) (drop start bytes); bytes = t })) (drop-append-le middle bytes more g)

is_open_of : (is_open : Bool) (start middle : ℕ) (bytes : List ℕ) → is_some (open_at is_open start middle bytes) ≡ true → is_open ≡ true
is_open_of false start middle bytes e = e
is_open_of true start middle bytes e = refl

pub shelf_of-add : (bytes more : List ℕ) (room : ℕ) (places : List ShelfPlace) (room_for : ℕ) (is_open : Bool) (start middle : ℕ)
    → All (IsWithin (length bytes)) places → (is_open ≡ true → (start ≤ middle) × (middle ≤ length bytes))
    → is_some (open_at is_open start middle bytes) ≡ true
    → shelf_of (bytes ++ more) room places room_for is_open start middle ≡ record {
      documents = record { whole = map (document_at bytes) places; last_open = grown (open_at is_open start middle bytes) more };
      free_documents = room_for - count_with is_open (length places);
      free_bytes = room - length bytes - length more;
    }
shelf_of-add bytes more room places room_for is_open start middle all begun opened =
    let yes : is_open ≡ true = is_open_of is_open start middle bytes opened in
    same_shelf _ _ _ _ _ _ _ _ (documents_stay bytes more places all)
    (open_grows bytes more is_open start middle yes (begun yes).0 (begun yes).1) refl (rw length-append (omega arith))

-- a name that was appended to the buffer
begun_at : (bytes name : List ℕ) (start middle : ℕ) → start ≡ length bytes → middle ≡ length bytes + length name
    → open_at true start middle (bytes ++ name) ≡ Some (record { name = name; bytes = [] })
begun_at bytes name start middle e f =
    let whole : take (middle - start) (drop start (bytes ++ name)) ≡ name =
    ap (λ n. take (middle - n) (drop n (bytes ++ name))) e
    ∙ ap (λ n. take n (drop (length bytes) (bytes ++ name))) (omega arith)
    ∙ ap (take (length name)) (drop-append_seam bytes name) ∙ take-length name in
    let none : drop middle (bytes ++ name) ≡ [] =
    ap (λ n. drop n (bytes ++ name)) (rw length-append f) ∙ drop-length (bytes ++ name) in
    ap Some (same_document _ _ _ _ whole none)

one_less : (is_open : Bool) (start middle : ℕ) (bytes : List ℕ) (n room_for : ℕ) → open_at is_open start middle bytes ≡ None
    → room_for - count_with true n ≡ room_for - count_with is_open n - 1
one_less false start middle bytes n room_for closed = omega arith
one_less true start middle bytes n room_for closed = cc

pub shelf_of-begin : (bytes name : List ℕ) (room : ℕ) (places : List ShelfPlace) (room_for : ℕ) (is_open : Bool) (start middle s m : ℕ)
    → All (IsWithin (length bytes)) places → open_at is_open start middle bytes ≡ None
    → s ≡ length bytes → m ≡ length (bytes ++ name)
    → shelf_of (bytes ++ name) room places room_for true s m ≡ record {
      documents = record { whole = map (document_at bytes) places; last_open = Some (record { name = name; bytes = [] }) };
      free_documents = room_for - count_with is_open (length places) - 1;
      free_bytes = room - length bytes - length name;
    }
shelf_of-begin bytes name room places room_for is_open start middle s m all closed e f =
    same_shelf _ _ _ _ _ _ _ _ (documents_stay bytes name places all)
    (begun_at bytes name s m e (rw length-append at f)) (one_less is_open start middle bytes (length places) room_for closed)
    (rw length-append (omega arith))

-- What a run of pieces is after one more piece was written, whole or in part.
use Rattle.std.proofs.Common.{◌≡◌, ◌≤◌, ◌<◌, ℕ, ◌+◌, List, [], ◌∷◌, ◌++◌, length, map, take, drop, get_or, Option, sym, ◌∙◌, ap, append_assoc, add-one, length-append, arith}
use Rattle.std.specs.List.{concat}
use Rattle.std.proofs.Math.Seq.{take-append-add, take-suc}
use Rattle.std.proofs.lemmas.List.Folds.{concat-append}
use Rattle.std.proofs.lemmas.List.{take-append-drop, map-append, append-nil, take-append-le}
use Rattle.pt_core.specs.Documents.{Documents, with_bytes}
use Rattle.pt_base.proofs.Writing.{with_bytes-with_bytes}

-- the first i + 1 pieces are the first i and the next one
pub concat-step : (A : Type 0) (f : A → List ℕ) (xs : List A) (i : ℕ) (d : A) → i < length xs
    → concat (map f (take (i + 1) xs)) ≡ concat (map f (take i xs)) ++ f (get_or xs i d)
concat-step A f xs i d within =
    rw (add-one, take-suc xs i d within)
    (ap concat (map-append f (take i xs) (get_or xs i d ∷ [])) ∙ concat-append (map f (take i xs)) (f (get_or xs i d) ∷ [])
    ∙ ap (λ r. concat (map f (take i xs)) ++ r) (append-nil (f (get_or xs i d))))

-- all pieces are the first i and the rest
concat-begins : (A : Type 0) (f : A → List ℕ) (xs : List A) (i : ℕ)
    → concat (map f xs) ≡ concat (map f (take i xs)) ++ concat (map f (drop i xs))
concat-begins A f xs i =
    ap (λ r. concat (map f r)) (sym (take-append-drop i xs)) ∙ ap concat (map-append f (take i xs) (drop i xs))
    ∙ concat-append (map f (take i xs)) (map f (drop i xs))

pub piece_said : (A : Type 0) (f : A → List ℕ) (old mid new : Option Documents) (xs : List A) (i : ℕ) (d : A) → i < length xs
    → mid ≡ with_bytes old (concat (map f (take i xs))) → new ≡ with_bytes mid (f (get_or xs i d))
    → new ≡ with_bytes old (concat (map f (take (i + 1) xs)))
piece_said A f old mid new xs i d within e h =
    h ∙ ap (λ t. with_bytes t (f (get_or xs i d))) e ∙ with_bytes-with_bytes old _ _
    ∙ ap (with_bytes old) (sym (concat-step A f xs i d within))

-- if a prefix of a piece was written and the rest was dropped, a prefix of all bytes was written
pub piece_cut : (A : Type 0) (f : A → List ℕ) (old mid new : Option Documents) (xs : List A) (i : ℕ) (d : A) → i < length xs
    → mid ≡ with_bytes old (concat (map f (take i xs)))
    → ((n : ℕ) × (n ≤ length (f (get_or xs i d))) × (new ≡ with_bytes mid (take n (f (get_or xs i d)))))
    → (n : ℕ) × (n ≤ length (concat (map f xs))) × (new ≡ with_bytes old (take n (concat (map f xs))))
piece_cut A f old mid new xs i d within e (n, most, h) =
    let front = concat (map f (take i xs)) in
    let piece = f (get_or xs i d) in
    let rest = concat (map f (drop (i + 1) xs)) in
    let split : concat (map f xs) ≡ (front ++ piece) ++ rest =
    concat-begins A f xs (i + 1) ∙ ap (λ r. r ++ rest) (concat-step A f xs i d within) in
    let short : length front + n ≤ length (concat (map f xs)) = rw (split, length-append, length-append) (omega arith) in
    let cut : take (length front + n) (concat (map f xs)) ≡ front ++ take n piece =
    ap (take (length front + n)) (split ∙ append_assoc front piece rest) ∙ take-append-add front (piece ++ rest) n
    ∙ ap (λ r. front ++ r) (take-append-le n piece rest most) in (
      length front + n,
      short,
      h ∙ ap (λ t. with_bytes t (take n piece)) e ∙ with_bytes-with_bytes old front (take n piece) ∙ ap (with_bytes old) (sym cut),
    )

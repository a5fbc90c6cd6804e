-- The rows with which bytes begin, and how many bytes were read after them.
use Rattle.std.proofs.Common.{◌≡◌, ℕ, zero, suc, ◌+◌, ◌≤◌, ◌⊎◌, inl, inr, Bool, true, false, List, [], ◌∷◌, ◌++◌, length, refl, ap, sym, ◌∙◌, subst, arith, append_assoc}
use Rattle.std.proofs.lemmas.List.{append-nil}
use Rattle.bitmap_input.specs.Cut.{Cut, is_by_end}
use Rattle.bitmap_input.specs.Cut.Cut.{Takes, Stops}
use Rattle.bitmap_input.specs.Reading.{AreNeeded}
use Rattle.bitmap_input.proofs.AddedBytes.{Stays, with_more}
use Rattle.bitmap_input.proofs.ComposedSteps.{not_true}
use Rattle.mkbitmap_run.specs.Rows.{LeavesRows, ReachesNear, row_before, settled_before, settled_rows, standing}

none_more : {A : Type 0} (cut : Cut A) → with_more [] cut ≡ cut
none_more (Takes e x rest) = ap (Takes e x) (append-nil rest)
none_more (Stops e ending) = refl

-- a part that was read stays the same if more bytes come, unless the end decided it
pub cut_stays : {A : Type 0} (part : List ℕ → Cut A) → Stays part → (bytes tail : List ℕ) (cut : Cut A) (ended : Bool) → part bytes ≡ cut
    → (is_by_end cut ≡ true → ended ≡ true) → (ended ≡ true → tail ≡ []) → part (bytes ++ tail) ≡ with_more tail cut
cut_stays part stays bytes tail cut ended is settled none = by (is_by_end cut) refl
  where
    by : (t : Bool) → is_by_end cut ≡ t → part (bytes ++ tail) ≡ with_more tail cut
    by false test = stays bytes tail (ap is_by_end is ∙ test) ∙ ap (with_more tail) is
    by true test =
        let empty : tail ≡ [] = none (settled test) in
        ap (λ (l : List ℕ). part (bytes ++ l)) empty ∙ ap part (append-nil bytes) ∙ is ∙ sym (none_more cut) ∙ ap (λ (l : List ℕ). with_more l cut) (sym empty)

pub leaves_weaken : (d e : Bool) (part : List ℕ → Cut (List ℕ)) (bytes : List ℕ) (rows : List (List ℕ)) (left : List ℕ) → (d ≡ true → e ≡ true)
    → LeavesRows d part bytes rows left → LeavesRows e part bytes rows left
leaves_weaken d e part bytes [] left more same = same
leaves_weaken d e part bytes (row ∷ rows) left more (by_end, rest, is, may, behind) =
    (by_end, rest, is, λ h. more (may h), leaves_weaken d e part rest rows left more behind)

pub leaves_on : (e : Bool) (part : List ℕ → Cut (List ℕ)) (bytes mid left : List ℕ) (xs ys : List (List ℕ))
    → LeavesRows e part bytes xs mid → LeavesRows e part mid ys left → LeavesRows e part bytes (xs ++ ys) left
leaves_on e part bytes mid left [] ys same next = subst (λ (l : List ℕ). LeavesRows e part l ys left) (sym same) next
leaves_on e part bytes mid left (x ∷ xs) ys (by_end, rest, is, may, behind) next =
    (by_end, rest, is, may, leaves_on e part rest mid left xs ys behind next)

-- the rows with which the bytes begin are these rows and those after them
pub standing_is : (e : Bool) (part : List ℕ → Cut (List ℕ)) (bytes : List ℕ) (rows : List (List ℕ)) (left : List ℕ) (n k : ℕ) → n ≡ length rows + k
    → LeavesRows e part bytes rows left → standing part n bytes ≡ rows ++ standing part k left
standing_is e part bytes [] left n k many same =
    let all : n ≡ k = omega (arith, many) in ap (λ (m : ℕ). standing part m bytes) all ∙ ap (standing part k) same
standing_is e part bytes (row ∷ rows) left zero k many leaves = absurd (omega (arith, many))
standing_is e part bytes (row ∷ rows) left (suc n) k many (by_end, rest, is, may, behind) =
    ap (λ (c : Cut (List ℕ)). row_before (λ (l : List ℕ). standing part n l) c) is
    ∙ ap (λ (l : List (List ℕ)). row ∷ l) (standing_is e part rest rows left n k (omega (arith, many)) behind)

pub settled_is : (part : List ℕ → Cut (List ℕ)) (bytes : List ℕ) (rows : List (List ℕ)) (left : List ℕ) (n k : ℕ) → n ≡ length rows + k
    → LeavesRows false part bytes rows left → settled_rows part n bytes ≡ rows ++ settled_rows part k left
settled_is part bytes [] left n k many same =
    let all : n ≡ k = omega (arith, many) in ap (λ (m : ℕ). settled_rows part m bytes) all ∙ ap (settled_rows part k) same
settled_is part bytes (row ∷ rows) left zero k many leaves = absurd (omega (arith, many))
settled_is part bytes (row ∷ rows) left (suc n) k many (true, rest, is, may, behind) = absurd (not_true (may refl))
settled_is part bytes (row ∷ rows) left (suc n) k many (false, rest, is, may, behind) =
    ap (λ (c : Cut (List ℕ)). settled_before (λ (l : List ℕ). settled_rows part n l) c) is
    ∙ ap (λ (l : List (List ℕ)). row ∷ l) (settled_is part rest rows left n k (omega (arith, many)) behind)

stopped : (behind : List ℕ → List (List ℕ)) (cut : Cut (List ℕ)) → is_by_end cut ≡ true → settled_before behind cut ≡ []
stopped behind (Takes true row rest) end = refl
stopped behind (Takes false row rest) end = absurd (not_true end)
stopped behind (Stops e why) end = refl

-- no row is settled if the end of the bytes decides the first one
pub none_settled : (part : List ℕ → Cut (List ℕ)) (bytes : List ℕ) (k : ℕ) → is_by_end (part bytes) ≡ true → settled_rows part k bytes ≡ []
none_settled part bytes zero end = refl
none_settled part bytes (suc k) end = stopped (λ (l : List ℕ). settled_rows part k l) (part bytes) end

-- bytes that were needed after those at hand, which were at most a block
pub near_of : {A : Type 0} (part : List ℕ → Cut A) (held more : List ℕ) → length held ≤ 65536 → AreNeeded (λ bytes. part (held ++ bytes)) more → ReachesNear part (held ++ more)
near_of part held more few needed = by needed.undecided
  where
    by : (more ≡ []) ⊎ (is_by_end (part (held ++ needed.before)) ≡ true) → ReachesNear part (held ++ more)
    by (inl none) = record {
      front = [];
      block = held ++ more;
      split = refl;
      undecided = inl refl;
      near = omega (arith, few, ap length (ap (λ (l : List ℕ). held ++ l) none ∙ append-nil held));
    }
    by (inr undecided) = record {
      front = held ++ needed.before;
      block = needed.block;
      split = ap (λ (l : List ℕ). held ++ l) needed.split ∙ sym (append_assoc held needed.before needed.block);
      undecided = inr undecided;
      near = needed.within;
    }

-- two parts that are decided by the same bytes
pub near_by : {A B : Type 0} (part : List ℕ → Cut A) (other : List ℕ → Cut B) (bytes : List ℕ) → ((bytes : List ℕ) → is_by_end (other bytes) ≡ is_by_end (part bytes))
    → ReachesNear part bytes → ReachesNear other bytes
near_by part other bytes same near = record { front = near.front; block = near.block; split = near.split; undecided = by near.undecided; near = near.near }
  where
    by : (near.front ≡ []) ⊎ (is_by_end (part near.front) ≡ true) → (near.front ≡ []) ⊎ (is_by_end (other near.front) ≡ true)
    by (inl none) = inl none
    by (inr undecided) = inr (same near.front ∙ undecided)

-- Bytes are read only if those read before don't decide.
use Rattle.std.proofs.Common.{◌≡◌, refl, ℕ, ◌≤◌, ◌⊎◌, inl, inr, true, false, List, [], ◌∷◌, ◌++◌, length, arith, ap, sym, ◌∙◌, Option, append_assoc, append-nil}
use Rattle.pt_core.specs.Files.{Files}
use Rattle.bitmap_input.specs.Cut.{Cut, is_by_end, ◌>>=◌}
use Rattle.bitmap_input.specs.Cut.Cut.{Takes, Stops}
use Rattle.bitmap_input.specs.Reading.{Buffered, AreNeeded}
use Rattle.bitmap_input.specs.Inner.Buffer.{ReadsOn}
use Rattle.bitmap_input.proofs.AddedBytes.{is_by_end-after}

-- no byte was read
pub needs_none : {A : Type 0} (cut : List ℕ → Cut A) → AreNeeded cut []
needs_none cut = record { before = []; block = []; split = refl; within = omega arith; undecided = inl refl }

-- another cut that bytes added could change whenever they could change this one
pub needs_as : {A B : Type 0} {cut : List ℕ → Cut A} {more : List ℕ} (other : List ℕ → Cut B) →
    ((bytes : List ℕ) → is_by_end (cut bytes) ≡ true → is_by_end (other bytes) ≡ true) → AreNeeded cut more → AreNeeded other more
needs_as other open_end n = record {
  before = n.before;
  block = n.block;
  split = n.split;
  within = n.within;
  undecided = elim n.undecided [
    | inl none ↦ inl none
    | inr still ↦ inr (open_end n.before still)
  ];
}

-- one more block was read, and the bytes before it don't decide
pub needs_more : {A : Type 0} (cut : List ℕ → Cut A) (more block : List ℕ) → AreNeeded cut more →
    (block ≡ []) ⊎ ((is_by_end (cut more) ≡ true) × (length block ≤ 65536)) → AreNeeded cut (more ++ block)
needs_more cut more block n (inl none) = rw (none, append-nil) n
needs_more cut more block n (inr (still, within)) =
    record { before = more; block = block; split = refl; within = within; undecided = inr still }

-- what a second step needs after what the first one took
needs_second : {A B : Type 0} (cut : List ℕ → Cut A) (next : List ℕ → Cut B) (more more2 : List ℕ) → AreNeeded cut more → (n : AreNeeded next more2) →
    (is_by_end (next n.before) ≡ true → is_by_end (cut (more ++ n.before)) ≡ true) →
    (more2 ≡ []) ⊎ (is_by_end (next n.before) ≡ true) → AreNeeded cut (more ++ more2)
needs_second cut next more more2 first n open_end (inl none) = rw (none, append-nil) first
needs_second cut next more more2 first n open_end (inr still) = record {
  before = more ++ n.before;
  block = n.block;
  split = ap (λ xs. more ++ xs) n.split ∙ sym (append_assoc more n.before n.block);
  within = n.within;
  undecided = inr (open_end still);
}

pub needs_behind : {A B : Type 0} (cut : List ℕ → Cut A) (next : List ℕ → Cut B) (more more2 : List ℕ) → AreNeeded cut more → (n : AreNeeded next more2) →
    (is_by_end (next n.before) ≡ true → is_by_end (cut (more ++ n.before)) ≡ true) → AreNeeded cut (more ++ more2)
needs_behind cut next more more2 first n open_end = needs_second cut next more more2 first n open_end n.undecided

-- a look reads if no byte was left, and bytes added could change the cut of those before
pub needs_look : {A : Type 0} {old mid : Buffered} {files fmid : Option Files} (cut : List ℕ → Cut A) (more : List ℕ) → AreNeeded cut more →
    (on : ReadsOn old files mid fmid) → (old.bytes ≡ [] → is_by_end (cut more) ≡ true) → AreNeeded cut (more ++ on.more)
needs_look cut more n on open_end = needs_more cut more on.more n (elim on.one_block [
  | inl none ↦ inl none
  | inr (empty, within) ↦ inr (open_end empty, within)
])

-- the first look of a part
pub needs_first : {A : Type 0} {old mid : Buffered} {files fmid : Option Files} (part : List ℕ → Cut A) → (on : ReadsOn old files mid fmid) →
    is_by_end (part []) ≡ true → AreNeeded (λ bytes. part (old.bytes ++ bytes)) on.more
needs_first {old = old} part on by_end =
    needs_look (λ bytes. part (old.bytes ++ bytes)) [] (needs_none (λ bytes. part (old.bytes ++ bytes))) on
    (λ none. ap (λ xs. is_by_end (part (xs ++ []))) none ∙ by_end)

-- if bytes added could change the first part, they could change both
pub by_end-bind : {A B : Type 0} (c : Cut A) (next : A → List ℕ → Cut B) → is_by_end c ≡ true → is_by_end (c >>= next) ≡ true
by_end-bind (Takes true x rest) next h = is_by_end-after true (next x rest)
by_end-bind (Takes false x rest) next h = cc
by_end-bind (Stops e ending) next h = h

-- nothing comes before nothing
pub front_of_none : (front rest : List ℕ) → front ++ rest ≡ [] → front ≡ []
front_of_none [] rest h = refl
front_of_none (x ∷ xs) rest h = cc

-- What the step on the word tells a seat is one event.
use Rattle.std.proofs.Common.{◌≡◌, ℕ, zero, suc, ◌<◌, ◌≤◌, List, [], ◌∷◌, ◌++◌, set, slice_index_or, Bool, true, false, cond, nat_lt, Option, Some, None, IsNone, refl, sym, ap, ◌∙◌, subst, arith}
use Rattle.std.proofs.lemmas.Bool.Decides.{nat_tests}
use Rattle.std.specs.Prelude.{◌↔◌}
use mathlib.Core.Option.{some, some-ne-none, some-injective}
use lib.ListN.{get_elem?}
use Rattle.page_workers.specs.declared.hand.Hand.{Hand}
use Rattle.page_workers.specs.NumberLists.{IsAbove}
use Rattle.page_workers.specs.Draws.{Draws, AllDrawn, page_numbered}
use Rattle.page_workers.specs.Inner.Rule.{IsDraw}
use Rattle.page_workers.specs.Seats.{Claimant, IsClaim}
use Rattle.page_workers.proofs.Events.{no_page}

-- after the event the list of the one who drew has the number behind it
after_draw : (lists : List (List ℕ)) (by next : ℕ) (xs : List ℕ) → get_elem? lists by ≡ some xs → get_elem? (set lists by (slice_index_or lists by [] ++ next ∷ [])) by ≡ some (xs ++ next ∷ [])
after_draw [] by next xs e = absurd (some-ne-none xs (sym e))
after_draw (l ∷ ls) zero next xs e = ap (λ ys. some (ys ++ next ∷ [])) (some-injective l xs e)
after_draw (l ∷ ls) (suc by) next xs e = after_draw ls by next xs e

pub is_claim : (old new : Claimant) (v w : Hand) (word : ℕ) (answer : Option ℕ) → IsDraw v word w → old.drawn ≡ v.drawn → new.drawn ≡ w.drawn → answer ≡ page_numbered old.counter.total word → IsClaim old new answer
is_claim old new v w word answer d before after page =
    let s : Draws = record { next = word; lists = d.lists } in
    let mine : get_elem? d.lists d.by ≡ some old.drawn = d.mine ∙ ap some (sym before) in
    let more : new.drawn ≡ old.drawn ++ word ∷ [] = after ∙ ap (λ (h : Hand). h.drawn) d.hand ∙ ap (λ xs. xs ++ word ∷ []) (sym before) in
    record {
      before = s;
      by = d.by;
      drawn = d.drawn;
      mine = mine;
      event = after_draw d.lists d.by word old.drawn mine ∙ ap some (sym more);
      more = more;
      above = subst (IsAbove word) (sym before) d.above;
      page = page;
      none = subst (λ a. IsNone a ↔ AllDrawn old.counter.total s) (sym page) (no_page old.counter.total s d.drawn);
    }

pub page_below : (total n : ℕ) → n < total → Some n ≡ page_numbered total n
page_below total n inside = one (nat_lt n total) refl
  where
    one : (b : Bool) → nat_lt n total ≡ b → Some n ≡ cond b (Some n) None
    one true lt = refl
    one false ge = absurd (grind (arith, nat_tests))

pub page_past : (total n : ℕ) → total ≤ n → None ≡ page_numbered total n
page_past total n past = one (nat_lt n total) refl
  where
    one : (b : Bool) → nat_lt n total ≡ b → None ≡ cond b (Some n) None
    one true lt = absurd (grind (arith, nat_tests))
    one false ge = refl

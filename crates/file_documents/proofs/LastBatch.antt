-- Memory ran out behind whole batches.
use Rattle.std.proofs.Common.{◌≡◌, ◌≤◌, ◌<◌, ℕ, ◌+◌, List, [], ◌∷◌, ◌++◌, Result, Ok, Err, IfErr, refl, sym, ◌∙◌, ap, subst, append_assoc, arith}
use Rattle.std.proofs.lemmas.List.{append-nil}
use Rattle.run_output.specs.Messages.{out_of_memory}
use Rattle.run_output.specs.declared.status.Status.{Status}
use Rattle.run_output.specs.declared.status.Status.TheVariants as status
use Rattle.page_batches.specs.Held.{Held}
use Rattle.page_batches.specs.Inner.Held.{Holds, pages_held}
use Rattle.page_batches.specs.Inner.ItemsDone.{IsIdle}
use Rattle.page_batches.specs.Items.{Item, page_count}
use Rattle.page_batches.specs.ItemsDone.{AreCarriedOut, HasEnded, IsOutOfMemory}
use Rattle.run_output.specs.Told.{Sinks}
use Rattle.page_batches.proofs.Carrying.{carried_on}
use Rattle.page_batches.proofs.Holding.{page_count-append, page_count-held, split_on}
use Rattle.file_documents.specs.Manner.{Manner}
use Rattle.file_documents.specs.Inner.Progress.{EndsHeld, RunsOutIn}

-- items, and then others within which memory ran out
pub out_on : (items more : List Item) (a b c : Sinks) → AreCarriedOut items [] a b → (u : IsOutOfMemory more b c)
    → (v : IsOutOfMemory (items ++ more) a c) × (v.before ≡ items ++ u.before)
out_on items more a b c done u = (
  record {
    before = items ++ u.before;
    after = u.after;
    split = ap (λ l. items ++ l) u.split ∙ sym (append_assoc items u.before u.after);
    done = carried_on items u.before (out_of_memory ∷ []) a b c done u.done;
  },
  refl,
)

-- the same of items that are these
pub out_as : (items others : List Item) (a b : Sinks) → items ≡ others → (u : IsOutOfMemory others a b) → (v : IsOutOfMemory items a b) × (v.before ≡ u.before)
out_as items others a b same u = (record { before = u.before; after = u.after; split = same ∙ u.split; done = u.done }, refl)

-- the same of these and more
pub out_more : (items more : List Item) (a b : Sinks) → (u : IsOutOfMemory items a b) → (v : IsOutOfMemory (items ++ more) a b) × (v.before ≡ u.before)
out_more items more a b u = (
  record { before = u.before; after = u.after ++ more; split = ap (λ l. l ++ more) u.split ∙ append_assoc u.before u.after more; done = u.done },
  refl,
)

-- what was read, and more that isn't held: with what is held of it that fills no batch, or one, and none of it is carried out
pub batch_out : (size : ℕ) (manner : Manner) (read more : List Item) (held : List Held) (a b c : Sinks) → Holds manner.binding size manner.belongs read held a b
    → AreCarriedOut [] (out_of_memory ∷ []) b c → pages_held held + page_count more ≤ size → RunsOutIn size (read ++ more) a c
batch_out size manner read more held a b c h idle few =
    let split = split_on h.done h.left read more h.split in
    let all = ap page_count split ∙ page_count-append h.done (h.left ++ more) in
    let last = page_count-append h.left more in
    let held_is = page_count-held manner.binding manner.belongs held h.left h.are_held in
    record {
      out = record {
        before = h.done;
        after = h.left ++ more;
        split = split;
        done = subst (λ (l : List Item). AreCarriedOut l (out_of_memory ∷ []) a c) (append-nil h.done) (carried_on h.done [] (out_of_memory ∷ []) a b c h.carried idle);
      };
      batches = h.batches;
      whole = h.whole;
      most = omega (arith, all, last, held_is, h.whole, few);
    }

-- the same of what is held
pub batch_held : (size : ℕ) (manner : Manner) (read : List Item) (held : List Held) (a b c : Sinks) → Holds manner.binding size manner.belongs read held a b
    → AreCarriedOut [] (out_of_memory ∷ []) b c → pages_held held < size → RunsOutIn size read a c
batch_held size manner read held a b c h idle few =
    subst (λ (l : List Item). RunsOutIn size l a c) (append-nil read) (batch_out size manner read [] held a b c h idle (omega (arith, few)))

-- where nothing was to be carried out, nothing was
out_none : (a b : Sinks) → HasEnded status.OutOfMemory [] a b → AreCarriedOut [] (out_of_memory ∷ []) a b
out_none a b u = subst (λ (l : List Item). AreCarriedOut l (out_of_memory ∷ []) a b) (none u.before u.after u.split) u.done where
  none : (before after : List Item) → [] ≡ before ++ after → before ≡ []
  none [] after e = refl
  none (item ∷ before) after e = cc

-- memory ran out before the end of a file was held
pub idle_held : (r : Result Unit Status) (size : ℕ) (manner : Manner) (more : List Item) (held held_now : List Held) (a b : Sinks) → EndsHeld r manner size more held held_now a b → IfErr r (λ s. IsIdle s a b)
idle_held (Ok done) size manner more held held_now a b ends = tt
idle_held (Err s) size manner more held held_now a b (is, out) = λ e. out_none a b (out [])

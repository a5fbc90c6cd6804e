-- Messages that were said one after another, put together.
use Rattle.std.proofs.Common.{◌≡◌, ◌≤◌, ◌⊎◌, ℕ, List, [], ◌∷◌, length, take, inl, inr, refl, sym, ◌∙◌, ap, arith}
use Rattle.std.specs.List.{concat}
use Rattle.std.proofs.lemmas.List.{take_all}
use Rattle.pt_core.specs.Counts.{Rose}
use Rattle.pt_core.specs.Documents.{IsSaid, with_bytes}
use Rattle.pt_base.proofs.Writing.{with_bytes-none, with_bytes-with_bytes}
use Rattle.page_batches.specs.ItemsDone.{AreFronts, AreSaid}
use Rattle.run_output.specs.Told.{IsMessage, Told}

-- a front of each message stands there
pub record SaidInFronts (old new : Told) (messages : List (List ℕ)) : Type 0 where
  pub texts : List (List ℕ)
  pub are : AreFronts texts messages
  pub appended : new.documents ≡ with_bytes old.documents (concat texts)
  pub whole : (texts ≡ messages) ⊎ Rose old.faults new.faults
  pub never_falls : old.faults ≤ new.faults

-- one message, and then others
front_of : (message : List ℕ) (old new : Told) → IsMessage message old new
    → (text : List ℕ) × ((n : ℕ) × (n ≤ length message) × (text ≡ take n message)) × (new.documents ≡ with_bytes old.documents text) × ((text ≡ message) ⊎ Rose old.faults new.faults)
front_of message old new said = cases said.said where
  cases : IsSaid old.documents new.documents old.faults new.faults message
      → (text : List ℕ) × ((n : ℕ) × (n ≤ length message) × (text ≡ take n message)) × (new.documents ≡ with_bytes old.documents text) × ((text ≡ message) ⊎ Rose old.faults new.faults)
  cases (inl e) = (message, (length message, omega arith, sym (take_all (length message) message (omega arith))), e, inl refl)
  cases (inr (rose, (n, most, e))) = (take n message, (n, most, refl), e, inr rose)

both : (texts messages : List (List ℕ)) (text message : List ℕ) (f g h : ℕ) → f ≤ g → g ≤ h → (text ≡ message) ⊎ Rose f g → (texts ≡ messages) ⊎ Rose g h
    → (text ∷ texts ≡ message ∷ messages) ⊎ Rose f h
both texts messages text message f g h fg gh (inl e) (inl d) = inl (ap (λ t. t ∷ texts) e ∙ ap (λ ts. message ∷ ts) d)
both texts messages text message f g h fg gh (inl e) (inr (inl more)) = inr (inl (omega (arith, fg, more)))
both texts messages text message f g h fg gh (inl e) (inr (inr full)) = inr (inr full)
both texts messages text message f g h fg gh (inr (inl more)) d = inr (inl (omega (arith, gh, more)))
both texts messages text message f g h fg gh (inr (inr full)) d = inr (inr (omega (arith, gh, full)))

pub said_in_fronts : (old new : Told) (messages : List (List ℕ)) → AreSaid old new messages → SaidInFronts old new messages
said_in_fronts old new [] same = record {
  texts = [];
  are = tt;
  appended = ap (λ t. t.documents) same ∙ sym (with_bytes-none old.documents);
  whole = inl refl;
  never_falls = let e = ap (λ t. t.faults) same in omega (arith, e);
}
said_in_fronts old new (message ∷ messages) (mid, one, said) =
    let first = front_of message old mid one in
    let rest = said_in_fronts mid new messages said in
    record {
      texts = first.0 ∷ rest.texts;
      are = (first.1, rest.are);
      appended = rest.appended ∙ ap (λ o. with_bytes o (concat rest.texts)) first.2 ∙ with_bytes-with_bytes old.documents first.0 (concat rest.texts);
      whole = both rest.texts messages first.0 message old.faults mid.faults new.faults one.never_falls rest.never_falls first.3 rest.whole;
      never_falls = let less = rest.never_falls in let most = one.never_falls in omega (arith, less, most);
    }

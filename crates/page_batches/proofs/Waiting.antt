-- What is held begins and ends documents in turn, and more behind it.
use Rattle.std.proofs.Common.{◌≡◌, ℕ, zero, suc, Bool, false, List, [], ◌∷◌, ◌++◌, map, refl, sym, ◌∙◌, ap, subst, arith}
use Rattle.bit_image.specs.Page.{Page as Pixels}
use Rattle.run_output.specs.Inner.Parts.{is_begun}
use Rattle.run_output.specs.declared.part.Binding.{Binding}
use Rattle.run_output.specs.declared.part.Binding.TheVariants.{Apart, Together}
use Rattle.page_batches.specs.Held.{AreHeld, Held}
use Rattle.page_batches.specs.Inner.Held.{AreInTurn, Waits, end_held, is_open_held, pages_held}
use Rattle.page_batches.specs.Held.Held.{End, Message, Page}
use Rattle.page_batches.specs.Items.{Item, is_open_behind}
use Rattle.page_batches.proofs.Batching.{open_behind_page}
use Rattle.page_batches.proofs.Holding.{Belongs, pages_held-append}

pub AreInTurn-append : (b : Binding) (is_open : Bool) (held more : List Held) → AreInTurn b is_open held → AreInTurn b (is_open_held b is_open held) more
    → AreInTurn b is_open (held ++ more)
AreInTurn-append b is_open [] more turn behind = behind
AreInTurn-append b is_open (Page name before page ∷ held) more turn behind = (turn.0, AreInTurn-append b (is_begun b (suc before)) held more turn.1 behind)
AreInTurn-append b is_open (End name pages notes ∷ held) more turn behind = (turn.0, AreInTurn-append b false held more turn.1 behind)
AreInTurn-append b is_open (Message message ∷ held) more turn behind = AreInTurn-append b is_open held more turn behind

pub is_open_held-append : (b : Binding) (is_open : Bool) (held more : List Held) → is_open_held b is_open (held ++ more) ≡ is_open_held b (is_open_held b is_open held) more
is_open_held-append b is_open [] more = refl
is_open_held-append b is_open (Page name before page ∷ held) more = is_open_held-append b (is_begun b (suc before)) held more
is_open_held-append b is_open (End name pages notes ∷ held) more = is_open_held-append b false held more
is_open_held-append b is_open (Message message ∷ held) more = is_open_held-append b is_open held more

-- one page more of the file that came last
pub turn_page : (b : Binding) (size before : ℕ) (is_open : Bool) (held held_now : List Held) (name : List ℕ) (page : Pixels) → held_now ≡ held ++ Page name before page ∷ []
    → Waits b size before is_open held → AreInTurn b is_open held_now × (is_open_held b is_open held_now ≡ is_begun b (suc before))
turn_page b size before is_open held held_now name page is w = rw is (
  AreInTurn-append b is_open held (Page name before page ∷ []) w.turn (w.next, tt),
  is_open_held-append b is_open held (Page name before page ∷ []),
)

-- the file's end, of which these messages are said: a document is open no more
pub end_waits : (b : Binding) (size pages : ℕ) (is_open : Bool) (held : List Held) (name : List ℕ) (notes : List (List ℕ)) → Waits b size pages is_open held
    → Waits b size 0 is_open (held ++ end_held b name pages notes)
end_waits b size pages is_open held name notes w = record {
  few = let both = pages_held-append held (end_held b name pages notes) in let none = no_pages b name pages notes in omega (arith, both, none, w.few);
  turn = AreInTurn-append b is_open held (end_held b name pages notes) w.turn (subst (λ o. AreInTurn b o (end_held b name pages notes)) (sym w.next) (ends b name pages notes));
  next = is_open_held-append b is_open held (end_held b name pages notes) ∙ ap (λ o. is_open_held b o (end_held b name pages notes)) w.next ∙ closes b name pages notes;
} where
  only_notes : (b : Binding) (o : Bool) (notes : List (List ℕ)) → AreInTurn b o (map Message notes) × (is_open_held b o (map Message notes) ≡ o) × (pages_held (map Message notes) ≡ 0)
  only_notes b o [] = (tt, refl, refl)
  only_notes b o (note ∷ notes) = only_notes b o notes

  no_pages : (b : Binding) (name : List ℕ) (pages : ℕ) (notes : List (List ℕ)) → pages_held (end_held b name pages notes) ≡ 0
  no_pages Apart name pages notes = (only_notes Apart false notes).2
  no_pages Together name zero notes = (only_notes Together false notes).2
  no_pages Together name (suc k) notes = refl

  ends : (b : Binding) (name : List ℕ) (pages : ℕ) (notes : List (List ℕ)) → AreInTurn b (is_begun b pages) (end_held b name pages notes)
  ends Apart name pages notes = (only_notes Apart false notes).0
  ends Together name zero notes = (only_notes Together false notes).0
  ends Together name (suc k) notes = (refl, tt)

  closes : (b : Binding) (name : List ℕ) (pages : ℕ) (notes : List (List ℕ)) → is_open_held b (is_begun b pages) (end_held b name pages notes) ≡ is_begun b 0
  closes Apart name pages notes = (only_notes Apart false notes).1
  closes Together name zero notes = (only_notes Together false notes).1
  closes Together name (suc k) notes = refl

-- a document is open behind the items of what is held, where it is behind that
pub open_as_held : (b : Binding) (belongs : Belongs) (is_open : Bool) (held : List Held) (items : List Item) → AreHeld b belongs held items
    → is_open_behind is_open items ≡ is_open_held b is_open held
open_as_held b belongs is_open [] items is = ap (is_open_behind is_open) is
open_as_held b belongs is_open (Page name before page ∷ held) items (text, rest, is_text, is, are) =
    ap (is_open_behind is_open) is ∙ ap (λ o. is_open_behind o rest) (open_behind_page b name before text) ∙ open_as_held b belongs (is_begun b (suc before)) held rest are
open_as_held b belongs is_open (End name pages notes ∷ held) items (rest, is, are) = ap (is_open_behind is_open) is ∙ open_as_held b belongs false held rest are
open_as_held b belongs is_open (Message message ∷ held) items (rest, is, are) = ap (is_open_behind is_open) is ∙ open_as_held b belongs is_open held rest are

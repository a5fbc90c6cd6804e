-- The items of files, and then those of the files behind them.
use Rattle.std.proofs.Common.{◌≡◌, ℕ, suc, ◌+◌, min, List, [], ◌∷◌, ◌++◌, length, Option, inl, inr, sym, ◌∙◌, ap, subst, append_assoc, length-append, arith}
use Rattle.pt_core.specs.Counts.{last_count}
use Rattle.pt_core.specs.Files.{Contents}
use Rattle.bitmap_input.specs.Cut.{FileEnd}
use Rattle.bitmap_input.specs.Cut.FileEnd.{End, Trailing, Refused}
use Rattle.bitmap_input.specs.Raw.{Raw}
use Rattle.run_output.specs.Made.{Past, past_file}
use Rattle.run_output.specs.Messages.{trailing_line}
use Rattle.run_output.specs.Names.{next_name}
use Rattle.run_output.specs.declared.part.Binding.{Binding}
use Rattle.page_batches.specs.Items.{GoesOn, Item, end_items}
use Rattle.run_output.specs.Told.{Source}
use Rattle.page_batches.proofs.Carrying.{GoesOn-behind}
use Rattle.file_documents.specs.FileItems.{AreEndItems, AreItems, ArePageItems, FileEnds, Rest}
use Rattle.file_documents.specs.Manner.{Manner, base_by}
use Rattle.file_documents.specs.Outcome.{LastEndsNear, OpensUpTo}
use Rattle.file_documents.specs.Inner.Progress.{EndsWith}

-- where what follows goes on with these items, so does the end of a file
end_joins : (b : Binding) (file name : List ℕ) (pages : ℕ) (ending : FileEnd) (F G : List Item → Type 0) (after : List Item)
    → ((items : List Item) → GoesOn items → F items → G (items ++ after)) → (items : List Item) → GoesOn items
    → AreEndItems b file name pages ending F items → AreEndItems b file name pages ending G (items ++ after)
end_joins b file name pages End F G after on items goes (rest, is, follow) =
    let front = end_items b name pages [] in
    (rest ++ after, ap (λ l. l ++ after) is ∙ append_assoc front rest after, on rest (GoesOn-behind front rest (subst GoesOn is goes)) follow)
end_joins b file name pages Trailing F G after on items goes (rest, is, follow) =
    let front = end_items b name pages (trailing_line file pages ∷ []) in
    (rest ++ after, ap (λ l. l ++ after) is ∙ append_assoc front rest after, on rest (GoesOn-behind front rest (subst GoesOn is goes)) follow)
end_joins b file name pages (Refused kind) F G after on items goes is = absurd (subst GoesOn is goes)

file_end_joins : (manner : Manner) (name base : List ℕ) (ending : FileEnd) (F G : Rest) (after : List Item)
    → ((past : Past) (items : List Item) → GoesOn items → F past items → G past (items ++ after)) → (pages : ℕ) (past : Past) (items : List Item) → GoesOn items
    → FileEnds manner name base ending F pages past items → FileEnds manner name base ending G pages past (items ++ after)
file_end_joins manner name base ending F G after on pages past items goes are =
    let now = past_file manner.binding base pages past in
    end_joins manner.binding name (next_name base past.made) pages ending (F now) (G now) after (on now) items goes are

-- and so do the pages
pages_join : (manner : Manner) (name base : List ℕ) (F G : ℕ → Rest) (after : List Item)
    → ((pages : ℕ) (past : Past) (items : List Item) → GoesOn items → F pages past items → G pages past (items ++ after))
    → (raws : List Raw) (pages : ℕ) (past : Past) (items : List Item) → GoesOn items
    → ArePageItems manner name base F raws pages past items → ArePageItems manner name base G raws pages past (items ++ after)
pages_join manner name base F G after on [] pages past items goes are = on pages past items goes are
pages_join manner name base F G after on (raw ∷ raws) pages past items goes (inl (few, (text, rest, is_text, is, are))) =
    inl (few, (text, rest ++ after, is_text, ap (λ l. l ++ after) is, pages_join manner name base F G after on raws (suc pages) past rest (subst GoesOn is goes) are))
pages_join manner name base F G after on (raw ∷ raws) pages past items goes (inr (full, is)) = absurd (subst GoesOn is goes)

-- the items of files, and then those of files behind them
pub items_behind : (contents : Option Contents) (manner : Manner) (F G : Rest) (back : List (List ℕ)) (after : List Item)
    → ((past : Past) (items : List Item) → GoesOn items → F past items → AreItems contents manner G back past (items ++ after))
    → (front : List (List ℕ)) (past : Past) (before : List Item) → GoesOn before
    → AreItems contents manner F front past before → AreItems contents manner G (front ++ back) past (before ++ after)
items_behind contents manner F G back after on [] past before goes are = on past before goes are
items_behind contents manner F G back after on (name ∷ front) past before goes (inl (absent, is)) = absurd (subst GoesOn is goes)
items_behind contents manner F G back after on (name ∷ front) past before goes (inr (raws, ending, holds, are)) =
    inr (
      raws,
      ending,
      holds,
      pages_join manner name (base_by manner name) (FileEnds manner name (base_by manner name) ending (AreItems contents manner F front))
          (FileEnds manner name (base_by manner name) ending (AreItems contents manner G (front ++ back))) after
          (file_end_joins manner name (base_by manner name) ending (AreItems contents manner F front) (AreItems contents manner G (front ++ back)) after
          (λ m items goes_on h. items_behind contents manner F G back after on front m items goes_on h)) raws 0 past before goes are,
    )

-- the same where this was made by those of the first files
pub items_join : (contents : Option Contents) (manner : Manner) (F : Rest) (back : List (List ℕ)) (mid : Past) (after : List Item)
    → AreItems contents manner F back mid after → (front : List (List ℕ)) (past : Past) (before : List Item) → GoesOn before
    → AreItems contents manner (EndsWith mid) front past before → AreItems contents manner F (front ++ back) past (before ++ after)
items_join contents manner F back mid after follow front past before goes are =
    items_behind contents manner (EndsWith mid) F back after on front past before goes are where
      on : (m : Past) (items : List Item) → GoesOn items → EndsWith mid m items → AreItems contents manner F back m (items ++ after)
      on m items goes_on (same, none) =
          let P : Past → Type 0 = λ n. AreItems contents manner F back n (items ++ after) in
          let Q : List Item → Type 0 = λ l. AreItems contents manner F back mid (l ++ after) in
          subst P (sym same) (subst Q (sym none) follow)

pub opened_on : (n k l m o : ℕ) → m ≡ min (l + n) last_count → o ≡ min (m + (k + 1)) last_count → o ≡ min (l + (n + k + 1)) last_count
opened_on n k l m o e f = omega (arith, e, f)

pub opened_behind : (n k l m o : ℕ) → m ≡ min (l + n) last_count → o ≡ min (m + k) last_count → o ≡ min (l + (n + k)) last_count
opened_behind n k l m o e f = omega (arith, e, f)

-- the last of some files is the last of them and those in front
pub near_on : (contents : Option Contents) (front : List (List ℕ)) (name : List ℕ) (back : List (List ℕ)) (now : Source)
    → LastEndsNear contents (name ∷ back) now → LastEndsNear contents (front ++ name ∷ back) now
near_on contents [] name back now near = near
near_on contents (first ∷ []) name back now near = near
near_on contents (first ∷ next ∷ front) name back now near = near_on contents (next ∷ front) name back now near

-- what was reached among the files behind is reached among all
pub reached_on : (front back : List (List ℕ)) (start then now : ℕ) → then ≡ min (start + length front) last_count
    → (name : List ℕ) (more : List (List ℕ)) → OpensUpTo back name more then now → OpensUpTo (front ++ back) name (front ++ more) start now
reached_on front back start then now openings name more r = record {
  back = r.back;
  listed = ap (λ l. front ++ l) r.listed ∙ sym (append_assoc front more (name ∷ r.back));
  grew = rw (length-append front more) (opened_on (length front) (length more) start then now openings r.grew);
}

-- One page more, and the end of the pages.
use Rattle.std.proofs.Common.{◌≡◌, ◌≢◌, ◌≤◌, ◌<◌, ◌⊎◌, inl, inr, ℕ, suc, ◌+◌, Bool, true, false, List, [], ◌∷◌, ◌++◌, length, drop, Option, None, Some, IfSome, option_map, refl, sym, ◌∙◌, ap, subst, append_assoc, length-append, arith}
use Rattle.std.specs.Prelude.{nat_lt}
use Rattle.std.proofs.lemmas.Bool.Decides.{nat_tests}
use Rattle.std.proofs.lemmas.List.{append-nil}
use Rattle.pt_core.specs.Files.{Files, unread}
use Rattle.bit_image.specs.Page.{Page as Pixels}
use Rattle.bitmap_input.specs.declared.fault.InFault.TheVariants as fault
use Rattle.bitmap_input.specs.Cut.{is_by_end}
use Rattle.bitmap_input.specs.Raw.{Raw}
use Rattle.bitmap_input.specs.Front.{front, page_at}
use Rattle.bitmap_input.specs.Front.Answer.{Page}
use Rattle.bitmap_input.specs.FilePages.{next_begins}
use Rattle.bitmap_input.specs.Reading.{Moves}
use Rattle.bitmap_input.specs.Reader.{Reader, ReadFails, ahead as reader_ahead, at_start, is_later as reader_is_later}
use Rattle.run_output.specs.Made.{Past, most_pages, page_name}
use Rattle.run_output.specs.Parts.{page_part}
use Rattle.run_output.specs.declared.status.Status.{Status}
use Rattle.run_output.specs.declared.status.Status.TheVariants as status
use Rattle.page_batches.specs.Held.{AreHeld}
use Rattle.page_batches.specs.Inner.Held.{Holds, pages_held}
use Rattle.page_batches.specs.Items.{Item}
use Rattle.page_batches.specs.Inner.ItemsDone.{IsIdle}
use Rattle.page_batches.specs.ItemsDone.{HasEnded}
use Rattle.page_batches.proofs.Holding.{all_held, ended_behind, holds_on, pages_in-page}
use Rattle.file_documents.specs.FileItems.{page_item}
use Rattle.file_documents.specs.Manner.{Manner}
use Rattle.file_documents.specs.Outcome.{BeginsSettled, LeavesBehind, ReadsNear, is_later}
use Rattle.file_documents.specs.Inner.Outcome.{BeginsWith}
use Rattle.file_documents.specs.Inner.Progress.{AreConverted, Converts, EndsBy, HasUnread, IsInBatch, ReadsPage, RunsOutIn, Settles, TakesNeeded, ahead, text_items}
use Rattle.file_documents.specs.declared.pages.PagesEnd.{PagesEnd}
use Rattle.file_documents.specs.declared.pages.PagesEnd.TheVariants as why
use Rattle.file_documents.proofs.LastBatch.{batch_out}
use Rattle.file_documents.proofs.OnePass.{batch_halts}
use Rattle.file_documents.proofs.Paging.{AreConverted-more, BeginsSettled-more, BeginsWith-more, LeavesBehind-more}
use Rattle.file_documents.proofs.Reading.{first_taken, unread-with_read}
use Rattle.file_documents.proofs.Standing.{HaltsAt, Standing}

-- from the one standing to the other the first k pages were read; of what was held before and their documents, which have
-- these texts, the first are carried out, and the others are held; the reader stands behind the pages
pub record IsConverted (size : ℕ) (manner : Manner) (base : List ℕ) (from now : Standing) (reader : Reader) (k : ℕ) : Type 0 where
  pub raws : List Raw
  pub texts : List (List ℕ)
  pub taken : List ℕ
  pub count : k ≡ length raws
  pub converted : AreConverted manner raws texts
  pub begins : IfSome (unread from.source.files) (λ all. (left : List ℕ) × (ahead reader now.source.files ≡ Some left) × BeginsWith false all raws left)
  pub told : IfSome (unread from.source.files) (λ all. (rest : List ℕ) × (all ≡ taken ++ rest) × (unread now.source.files ≡ Some rest))
  pub settled : reader.ended ≡ false → (tail : List ℕ) → BeginsSettled false (taken ++ tail) raws (reader_ahead reader tail)
  pub near : IfSome (unread from.source.files) (λ all. (behind : List ℕ) × (rest : List ℕ) × LeavesBehind false all raws behind × (unread now.source.files ≡ Some rest) × (length behind ≤ length rest + 65536))
  pub holds : (first : List Item) → AreHeld manner.binding manner.belongs from.held first → Holds manner.binding size manner.belongs (first ++ text_items manner base from.made 0 texts) now.held from.sinks now.sinks
  pub counted : reader.pages ≡ k
  pub going_on : reader.over ≡ false

-- nothing is converted yet
pub none_converted : (size : ℕ) (manner : Manner) (base : List ℕ) (from : Standing) → IsConverted size manner base from from at_start 0
none_converted size manner base from = record {
  raws = [];
  texts = [];
  taken = [];
  count = refl;
  converted = tt;
  begins = at_first (unread from.source.files);
  told = all_left (unread from.source.files);
  settled = λ _ tail. refl;
  near = all_near (unread from.source.files);
  holds = λ first are. rw (append-nil first) (all_held manner.binding size manner.belongs from.held first from.sinks are);
  counted = refl;
  going_on = refl;
} where
  at_first : (o : Option (List ℕ)) → IfSome o (λ all. (left : List ℕ) × (option_map (reader_ahead at_start) o ≡ Some left) × (all ≡ left))
  at_first None = tt
  at_first (Some all) = (all, refl, refl)

  all_left : (o : Option (List ℕ)) → IfSome o (λ all. (rest : List ℕ) × (all ≡ rest) × (o ≡ Some rest))
  all_left None = tt
  all_left (Some all) = (all, refl, refl)

  all_near : (o : Option (List ℕ)) → IfSome o (λ all. (behind : List ℕ) × (rest : List ℕ) × (all ≡ behind) × (o ≡ Some rest) × (length behind ≤ length rest + 65536))
  all_near None = tt
  all_near (Some all) = (all, all, refl, refl, omega arith)

-- a page came before exactly where one was converted
later_is : (reader : Reader) (raws : List Raw) (k : ℕ) → reader.pages ≡ k → k ≡ length raws → reader_is_later reader ≡ is_later false raws
later_is reader [] k counted count = ap (nat_lt 0) (counted ∙ count)
later_is reader (raw ∷ raws) k counted count = ap (nat_lt 0) (counted ∙ count) ∙ some (length raws) where
  some : (n : ℕ) → nat_lt 0 (suc n) ≡ true
  some n = grind (arith, nat_tests)

begins_more : (bytes before now : Option (List ℕ)) (raws : List Raw) (raw : Raw) (used : ℕ) (later : Bool) → later ≡ is_later false raws
    → IfSome bytes (λ all. (left : List ℕ) × (before ≡ Some left) × BeginsWith false all raws left)
    → IfSome before (λ bs. (front later bs ≡ Page raw used) × (now ≡ Some (drop (next_begins bs raw used) bs)))
    → IfSome bytes (λ all. (left : List ℕ) × (now ≡ Some left) × BeginsWith false all (raws ++ raw ∷ []) left)
begins_more None before now raws raw used later same begins told = tt
begins_more (Some all) before now raws raw used later same (left, is, b) told =
    let here = subst (λ (o : Option (List ℕ)). IfSome o (λ bs. (front later bs ≡ Page raw used) × (now ≡ Some (drop (next_begins bs raw used) bs)))) is told in
    (drop (next_begins left raw used) left, here.1, BeginsWith-more false all raws left raw used b (ap (λ l. front l left) (sym same) ∙ here.0))

-- more bytes are taken
told_more : (bytes : Option (List ℕ)) (before now : Option Files) (taken more : List ℕ) (ended ended_now : Bool) → Moves ended before ended_now now more
    → IfSome bytes (λ all. (rest : List ℕ) × (all ≡ taken ++ rest) × (unread before ≡ Some rest))
    → IfSome bytes (λ all. (rest : List ℕ) × (all ≡ (taken ++ more) ++ rest) × (unread now ≡ Some rest))
told_more None before now taken more ended ended_now moves told = tt
told_more (Some all) before now taken more ended ended_now moves (rest, is, unread_is) =
    let still : unread now ≡ Some (drop (length more) rest) = ap unread moves.files ∙ unread-with_read before (length more) rest unread_is in
    let whole = first_taken before more rest moves.told unread_is in
    (drop (length more) rest, is ∙ ap (λ l. taken ++ l) whole ∙ sym (append_assoc taken more (drop (length more) rest)), still)

-- before a read gave nothing none had
still_going : (ended ended_now : Bool) → (ended ≡ true → ended_now ≡ true) → ended_now ≡ false → ended ≡ false
still_going false ended_now stays going = refl
still_going true ended_now stays going = absurd (let wrong : true ≡ false = sym (stays refl) ∙ going in cc)

settled_more : (manner : Manner) (bytes : List ℕ) (old new : Reader) (before after : Option Files) (page : Pixels) (raws : List Raw)
    → (later : reader_is_later old ≡ is_later false raws) → (old.ended ≡ false → (tail : List ℕ) → BeginsSettled false (bytes ++ tail) raws (reader_ahead old tail))
    → (p : ReadsPage manner old before page new after) → new.ended ≡ false → (tail : List ℕ)
    → BeginsSettled false ((bytes ++ p.more) ++ tail) (raws ++ p.raw ∷ []) (reader_ahead new tail)
settled_more manner bytes old new before after page raws later settled p going tail =
    let was : old.ended ≡ false = still_going old.ended new.ended (λ e. (p.moves.stopped e).1) going in
    let next = subst (λ l. Settles l (reader_ahead old (p.more ++ tail)) p.raw p.used (reader_ahead new tail)) later (p.settled going tail) in
    subst (λ bs. BeginsSettled false bs (raws ++ p.raw ∷ []) (reader_ahead new tail)) (sym (append_assoc bytes p.more tail))
    (BeginsSettled-more false (bytes ++ (p.more ++ tail)) raws (reader_ahead old (p.more ++ tail)) p.raw p.used (reader_ahead new tail) (settled was (p.more ++ tail)) next)

-- little is taken behind one page more
near_more : (manner : Manner) (bytes : Option (List ℕ)) (old new : Reader) (before now : Option Files) (page : Pixels) (raws : List Raw) → reader_is_later old ≡ is_later false raws
    → IfSome bytes (λ all. (left : List ℕ) × (ahead old before ≡ Some left) × BeginsWith false all raws left) → (p : ReadsPage manner old before page new now)
    → IfSome bytes (λ all. (behind : List ℕ) × (rest : List ℕ) × LeavesBehind false all (raws ++ p.raw ∷ []) behind × (unread now ≡ Some rest) × (length behind ≤ length rest + 65536))
near_more manner None old new before now page raws same begins p = tt
near_more manner (Some all) old new before now page raws same (left, is, b) p = by_rest (unread before) refl where
  by_rest : (o : Option (List ℕ)) → unread before ≡ o
      → (behind : List ℕ) × (rest : List ℕ) × LeavesBehind false all (raws ++ p.raw ∷ []) behind × (unread now ≡ Some rest) × (length behind ≤ length rest + 65536)
  by_rest None e = absurd (let no : None ≡ Some left = sym (ap (option_map (reader_ahead old)) e) ∙ is in cc)
  by_rest (Some rest) e =
      let there : Some (reader_ahead old rest) ≡ Some left = sym (ap (option_map (reader_ahead old)) e) ∙ is in
      let at : reader_ahead old rest ≡ left = cc in
      let here = (subst (λ (o : Option (List ℕ)). IfSome o (λ bs. (front (reader_is_later old) bs ≡ Page p.raw p.used) × (ahead new now ≡ Some (drop (next_begins bs p.raw p.used) bs)))) is p.told).0 in
      let (unread_now, still, few) = subst (λ (o : Option (List ℕ)). IfSome o
      (λ r. (left : List ℕ) × (unread now ≡ Some left) × (length (drop p.used (reader_ahead old r)) ≤ length left + 65536))) e p.near in
      let P : List ℕ → Type 0 = λ l. length (drop p.used l) ≤ length unread_now + 65536 in
      (drop p.used left, unread_now, LeavesBehind-more false all raws left p.raw p.used b (ap (λ l. front l left) (sym same) ∙ here), still, subst P at few)

-- little is taken behind the pages, or behind what is needed to settle what follows them
near_end : (bytes : Option (List ℕ)) (reader after : Reader) (files now : Option Files) (taken : List ℕ) (raws : List Raw) → reader_is_later reader ≡ is_later false raws
    → IfSome bytes (λ all. (behind : List ℕ) × (rest : List ℕ) × LeavesBehind false all raws behind × (unread files ≡ Some rest) × (length behind ≤ length rest + 65536))
    → IfSome bytes (λ all. (rest : List ℕ) × (all ≡ taken ++ rest) × (unread files ≡ Some rest))
    → (reader.ended ≡ false → (tail : List ℕ) → BeginsSettled false (taken ++ tail) raws (reader_ahead reader tail)) → TakesNeeded reader files after now
    → IfSome bytes (λ all. (left : List ℕ) × (unread now ≡ Some left) × ReadsNear all raws left)
near_end None reader after files now taken raws later near told settled t = tt
near_end (Some all) reader after files now taken raws later (behind, rest, leaves, unread_is, few) (same_rest, split, same_unread) settled t =
    (left, ap unread t.moves.files ∙ unread-with_read files (length t.more) rest unread_is, by_ended reader.ended refl) where
      left : List ℕ
      left = drop (length t.more) rest

      unmoved : t.more ≡ [] → ReadsNear all raws left
      unmoved none =
          let P : List ℕ → Type 0 = λ m. length behind ≤ length (drop (length m) rest) + 65536 in inl (behind, leaves, subst P (sym none) few)

      farther : reader.ended ≡ false → is_by_end (page_at (reader_is_later reader) (reader_ahead reader t.needed.before)) ≡ true → ReadsNear all raws left
      farther going by_end =
          let both : Some same_rest ≡ Some rest = sym same_unread ∙ unread_is in
          let same : same_rest ≡ rest = cc in
          let block = length-append t.needed.block left in
          inr (
            taken ++ t.needed.before,
            t.needed.block ++ left,
            split ∙ ap (λ l. taken ++ l) (same ∙ first_taken files t.more rest t.moves.told unread_is ∙ ap (λ m. m ++ left) t.needed.split ∙ append_assoc t.needed.before t.needed.block left)
                ∙ sym (append_assoc taken t.needed.before (t.needed.block ++ left)),
            record {
              left = reader_ahead reader t.needed.before;
              pages = settled going t.needed.before;
              by_end = ap (λ l. is_by_end (page_at l (reader_ahead reader t.needed.before))) (sym later) ∙ by_end;
            },
            omega (arith, block, t.needed.within),
          )

      by_needed : reader.ended ≡ false → (t.more ≡ []) ⊎ (is_by_end (page_at (reader_is_later reader) (reader_ahead reader t.needed.before)) ≡ true) → ReadsNear all raws left
      by_needed going (inl none) = unmoved none
      by_needed going (inr by_end) = farther going by_end

      by_ended : (e : Bool) → reader.ended ≡ e → ReadsNear all raws left
      by_ended true ended = unmoved (t.moves.stopped ended).0
      by_ended false going = by_needed going t.needed.undecided

-- the page of one text more
text_items-more : (manner : Manner) (base : List ℕ) (past : Past) (pages k : ℕ) (texts : List (List ℕ)) (text : List ℕ) → k ≡ pages + length texts
    → text_items manner base past pages (texts ++ text ∷ []) ≡ text_items manner base past pages texts ++ page_item manner base past k text ∷ []
text_items-more manner base past pages k [] text count =
    let same : pages ≡ k = omega (arith, count) in ap (λ (n : ℕ). page_item manner base past n text ∷ []) same
text_items-more manner base past pages k (t ∷ texts) text count =
    ap (λ (l : List Item). page_item manner base past pages t ∷ l) (text_items-more manner base past (suc pages) k texts text (omega (arith, count)))

-- a text for each page
pub converted_length : (manner : Manner) (raws : List Raw) (texts : List (List ℕ)) → AreConverted manner raws texts → length raws ≡ length texts
converted_length manner [] [] t = refl
converted_length manner (raw ∷ raws) (text ∷ texts) t = ap suc (converted_length manner raws texts t.1)
converted_length manner [] (text ∷ texts) t = absurd t
converted_length manner (raw ∷ raws) [] t = absurd t

-- the items before, and then the page of one text more
items_more : (manner : Manner) (base : List ℕ) (past : Past) (first : List Item) (texts : List (List ℕ)) (text : List ℕ) (k : ℕ) → k ≡ length texts
    → (first ++ text_items manner base past 0 texts) ++ page_item manner base past k text ∷ [] ≡ first ++ text_items manner base past 0 (texts ++ text ∷ [])
items_more manner base past first texts text k count =
    append_assoc first (text_items manner base past 0 texts) (page_item manner base past k text ∷ [])
    ∙ ap (λ l. first ++ l) (sym (text_items-more manner base past 0 k texts text (omega (arith, count))))

-- the bytes begin with the pages
just_begins : (bytes rest : Option (List ℕ)) (raws : List Raw) → IfSome bytes (λ all. (left : List ℕ) × (rest ≡ Some left) × BeginsWith false all raws left)
    → IfSome bytes (λ all. (left : List ℕ) × BeginsWith false all raws left)
just_begins None rest raws begins = tt
just_begins (Some all) rest raws (left, is, begins) = (left, begins)

-- there is a last page
no_less : (raws : List Raw) (raw : Raw) → raws ++ raw ∷ [] ≢ []
no_less [] raw = λ e. cc
no_less (first ∷ raws) raw = λ e. cc

-- behind the first k pages
module _ {size : ℕ} {manner : Manner} {base : List ℕ} (from now : Standing) {reader : Reader} {k : ℕ} (t : IsConverted size manner base from now reader k) where
  -- the bytes of the file, where they are told
  abbrev bytes : Option (List ℕ)
  bytes = unread from.source.files

  -- the item of a page that comes next
  abbrev next_item : List ℕ → Item
  next_item text = page_item manner base from.made k text

  later : reader_is_later reader ≡ is_later false t.raws
  later = later_is reader t.raws k t.counted t.count

  -- the items of the pages, and of one more
  items_on : (first : List Item) (text : List ℕ)
      → (first ++ text_items manner base from.made 0 t.texts) ++ next_item text ∷ [] ≡ first ++ text_items manner base from.made 0 (t.texts ++ text ∷ [])
  items_on first text = items_more manner base from.made first t.texts text k (t.count ∙ converted_length manner t.raws t.texts t.converted)

  -- one page more is read, and what has to be done of its document is held or carried out
  pub one_more : (next : Standing) (after : Reader) (page : Pixels) (text : List ℕ)
      → ReadsPage manner reader now.source.files page after next.source.files → manner.belongs page text
      → ((left : List Item) → AreHeld manner.binding manner.belongs now.held left → Holds manner.binding size manner.belongs (left ++ next_item text ∷ []) next.held now.sinks next.sinks)
      → IsConverted size manner base from next after (k + 1)
  one_more next after page text p is_text holds = record {
    raws = t.raws ++ p.raw ∷ [];
    texts = t.texts ++ text ∷ [];
    taken = t.taken ++ p.more;
    count = rw length-append (omega (arith, t.count));
    converted = AreConverted-more manner t.raws t.texts p.raw text t.converted (subst (λ pixels. manner.belongs pixels text) p.shows is_text);
    begins = begins_more bytes (ahead reader now.source.files) (ahead after next.source.files) t.raws p.raw p.used (reader_is_later reader) later t.begins p.told;
    told = told_more bytes now.source.files next.source.files t.taken p.more reader.ended after.ended p.moves t.told;
    settled = settled_more manner t.taken reader after now.source.files next.source.files page t.raws later t.settled p;
    near = near_more manner bytes reader after now.source.files next.source.files page t.raws later t.begins p;
    holds = λ first are. subst (λ l. Holds manner.binding size manner.belongs l next.held from.sinks next.sinks) (items_on first text)
        (holds_on manner.binding size manner.belongs (first ++ text_items manner base from.made 0 t.texts) (next_item text ∷ []) now.held next.held from.sinks now.sinks next.sinks (t.holds first are) holds);
    counted = omega (arith, p.counted, t.counted);
    going_on = p.going_on;
  }

  -- one page more is read, and what was held with it couldn't be carried out
  pub halted : (s : Status) (next : Standing) (after : Reader) (page : Pixels) (text : List ℕ)
      → ReadsPage manner reader now.source.files page after next.source.files → manner.belongs page text
      → ((left : List Item) → AreHeld manner.binding manner.belongs now.held left → HasEnded s (left ++ next_item text ∷ []) now.sinks next.sinks)
      → k + from.made.pages < most_pages → (s ≡ status.Unwritten → pages_held now.held + 1 ≡ size) → pages_held now.held < size → IsIdle s now.sinks next.sinks
      → HaltsAt s size manner base from from.source next
  halted s next after page text p is_text ended few full waits idle =
      let part = page_part manner.binding (page_name manner.binding base from.made.made k) k text in
      let one = pages_in-page manner.binding (page_name manner.binding base from.made.made k) k text in
      let begins = begins_more bytes (ahead reader now.source.files) (ahead after next.source.files) t.raws p.raw p.used (reader_is_later reader) later t.begins p.told in
      record {
        raws = t.raws ++ p.raw ∷ [];
        texts = t.texts ++ text ∷ [];
        few = rw length-append (omega (arith, t.count, few));
        converted = AreConverted-more manner t.raws t.texts p.raw text t.converted (subst (λ pixels. manner.belongs pixels text) p.shows is_text);
        begins = just_begins bytes (ahead after next.source.files) (t.raws ++ p.raw ∷ []) begins;
        some = no_less t.raws p.raw;
        near = near_more manner bytes reader after now.source.files next.source.files page t.raws later t.begins p;
        in_batch = λ is first are. subst (λ l. IsInBatch size l from.sinks next.sinks) (items_on first text)
            (batch_halts size manner (first ++ text_items manner base from.made 0 t.texts) part now.held from.sinks now.sinks next.sinks one (t.holds first are)
            (λ left held. subst (λ v. HasEnded v (left ++ next_item text ∷ []) now.sinks next.sinks) is (ended left held)) (full is));
        in_memory = λ is first are. subst (λ l. RunsOutIn size l from.sinks next.sinks) (items_on first text)
            (batch_out size manner (first ++ text_items manner base from.made 0 t.texts) (next_item text ∷ []) now.held from.sinks now.sinks next.sinks (t.holds first are) (idle is)
            (omega (arith, one, waits)));
        ended = λ first are. subst (λ l. HasEnded s l from.sinks next.sinks) (items_on first text)
            (ended_behind s manner.binding size manner.belongs (first ++ text_items manner base from.made 0 t.texts) (next_item text ∷ []) now.held from.sinks now.sinks next.sinks (t.holds first are) ended);
      }

  -- a read failed behind the pages that were read
  unread_more : (after : Reader) (files : Option Files) → ReadFails reader now.source.files after files → HasUnread t.raws from.source.files files
  unread_more after files fails =
      let was : reader.ended ≡ false = still_going reader.ended after.ended (λ e. (fails.moves.stopped e).1) fails.going_on in
      record {
        taken = t.taken ++ fails.more;
        stops = record {
          left = reader_ahead reader fails.more;
          pages = t.settled was fails.more;
          by_end = ap (λ l. is_by_end (page_at l (reader_ahead reader fails.more))) (sym later) ∙ fails.by_end;
        };
        told = told_more bytes now.source.files files t.taken fails.more reader.ended after.ended fails.moves t.told;
      }

  -- no page more is read, and nothing of what is held is carried out
  pub no_more : (after : Reader) (files : Option Files) (end : PagesEnd) → EndsBy (reader_is_later reader) (ahead reader now.source.files) end
      → (end ≡ why.Fault fault.ReadFault → ReadFails reader now.source.files after files) → TakesNeeded reader now.source.files after files
      → k + from.made.pages ≤ most_pages → (end ≡ why.TooMany → most_pages ≤ k + from.made.pages)
      → Converts size manner base from.made from.source.files files from.held now.held from.sinks now.sinks k end
  no_more after files end ends fails takes few full = record {
    raws = t.raws;
    texts = t.texts;
    count = t.count;
    few = few;
    converted = t.converted;
    rest = ahead reader now.source.files;
    begins = t.begins;
    ends = subst (λ l. EndsBy l (ahead reader now.source.files) end) later ends;
    full = full;
    unread = λ e. unread_more after files (fails e);
    near = near_end bytes reader after now.source.files files t.taken t.raws later t.near t.told t.settled takes;
    holds = t.holds;
  }

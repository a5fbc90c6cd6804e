-- How far a run has read where a document couldn't be written.
use Rattle.std.proofs.Common.{◌≡◌, ◌≤◌, ◌<◌, ℕ, ◌+◌, ◌*◌, ◌/◌, ◌%◌, List, [], ◌∷◌, ◌++◌, ◌∙◌, ap, subst, add-mul, div-add-mod', div-mul-le_self, mod-lt, mul-le-mul_right, arith}
use Rattle.std.proofs.lemmas.Nat.{div_below, le-div}
use Rattle.pt_core.specs.Counts.{Rose}
use Rattle.page_batches.specs.Held.{AreHeld, Held}
use Rattle.page_batches.specs.Inner.Held.{Holds, pages_held}
use Rattle.run_output.specs.Parts.{Part}
use Rattle.page_batches.specs.Items.{Item, page_count, pages_in}
use Rattle.page_batches.specs.Items.Item.{Write}
use Rattle.page_batches.specs.ItemsDone.{IsUnwritten}
use Rattle.run_output.specs.Told.{Sinks}
use Rattle.page_batches.proofs.Carrying.{unwritten_as, unwritten_more, unwritten_on}
use Rattle.page_batches.proofs.Holding.{page_count-append, page_count-held, split_on}
use Rattle.file_documents.specs.Manner.{Manner}
use Rattle.file_documents.specs.OnePass.{IfReadsTo, batch_end}
use Rattle.file_documents.specs.Order.{AreAllItems, Order}
use Rattle.file_documents.specs.Inner.Progress.{IsInBatch, IsInPart}
use Rattle.file_documents.proofs.Standing.{IsOnePassAt, Standing}

-- the items in front of one are among those in front of the last one
before_last : (read before after : List Item) (last item : Item) → read ++ last ∷ [] ≡ before ++ item ∷ after → page_count before ≤ page_count read
before_last read [] after last item e = omega arith
before_last [] (x ∷ []) after last item e = cc
before_last [] (x ∷ y ∷ before) after last item e = cc
before_last (r ∷ read) (x ∷ before) after last item e =
    let same : r ≡ x = cc in
    let rest : read ++ last ∷ [] ≡ before ++ item ∷ after = cc in
    let less = before_last read before after last item rest in
    let one = ap (λ (i : Item). page_count (i ∷ [])) same in
    let here = page_count-append (x ∷ []) before in
    let there = page_count-append (r ∷ []) read in omega (arith, less, one, here, there)

-- the batch in which the k-th page is ends with this one
batch_end_least : (size k batches : ℕ) → 0 < size → batches * size ≤ k → batches * size + size ≤ batch_end size k
batch_end_least size k batches some least =
    let n : batches ≤ k / size = le-div batches k size some least in
    let product : (batches + 1) * size ≤ (k / size + 1) * size = mul-le-mul_right size (omega (arith, n)) in
    let sum = add-mul batches 1 size in omega (arith, product, sum)

batch_end_is : (size k batches : ℕ) → 0 < size → batches * size ≤ k → k < batches * size + size → batch_end size k ≡ batches * size + size
batch_end_is size k batches some least most =
    let n : batches ≤ k / size = le-div batches k size some least in
    let sum = add-mul batches 1 size in
    let m : k / size < batches + 1 = div_below k size (batches + 1) some (omega (arith, most, sum)) in
    let same : k / size ≡ batches = omega (arith, n, m) in
    ap (λ q. (q + 1) * size) same ∙ omega (arith, sum)

-- behind whole batches
pub batch_end_behind : (size k batches : ℕ) → 0 < size → batch_end size (batches * size + k) ≡ batches * size + batch_end size k
batch_end_behind size k batches some =
    let q = k / size in
    let low : q * size ≤ k = div-mul-le_self k size in
    let next : k < q * size + size = below size k some in
    let sum = add-mul batches q size in
    let here = batch_end_is size k q some low next in
    let there = batch_end_is size (batches * size + k) (batches + q) some (omega (arith, sum, low)) (omega (arith, sum, next)) in
    omega (arith, here, there, sum) where
      below : (size k : ℕ) → 0 < size → k < k / size * size + size
      below size k some =
          let rest = div-add-mod' k size in
          let small : k % size < size = mod-lt k some in omega (arith, rest, small)

-- what was read, and then a page, and what is held with it fills a batch: a part of these couldn't be written
pub batch_halts : (size : ℕ) (manner : Manner) (read : List Item) (page : Part) (held : List Held) (a b c : Sinks) → pages_in page.begins page.ends ≡ 1 → (h : Holds manner.binding size manner.belongs read held a b)
    → ((left : List Item) → AreHeld manner.binding manner.belongs held left → IsUnwritten (left ++ Write page ∷ []) b c) → pages_held held + 1 ≡ size → IsInBatch size (read ++ Write page ∷ []) a c
batch_halts size manner read page held a b c one h behind full =
    let more : List Item = Write page ∷ [] in
    let u = behind h.left h.are_held in
    let (v, e) = unwritten_on h.done (h.left ++ more) a b c h.carried u in
    let split = split_on h.done h.left read more h.split in
    let (w, d) = unwritten_as (read ++ more) (h.done ++ (h.left ++ more)) a c split v in
    let before = ap page_count (d ∙ e) ∙ page_count-append h.done u.before in
    let all = ap page_count split ∙ page_count-append h.done (h.left ++ more) in
    let last = page_count-append h.left more in
    let held_is = page_count-held manner.binding manner.belongs held h.left h.are_held in
    let less = before_last read w.before w.after (Write page) (Write w.part) w.split in
    let sum = page_count-append read more in
    record { unwritten = w; batches = h.batches; behind = omega (arith, before, h.whole); within = omega (arith, less, sum, one); full = omega (arith, all, last, held_is, h.whole, full, one) }

-- what was read, and what is held of it fills no batch: a part of that couldn't be written
pub part_halts : (size : ℕ) (manner : Manner) (read : List Item) (held : List Held) (a b c : Sinks) → (h : Holds manner.binding size manner.belongs read held a b)
    → ((left : List Item) → AreHeld manner.binding manner.belongs held left → IsUnwritten left b c) → pages_held held < size → IsInPart size read a c
part_halts size manner read held a b c h behind few =
    let u = behind h.left h.are_held in
    let (v, e) = unwritten_on h.done h.left a b c h.carried u in
    let (w, d) = unwritten_as read (h.done ++ h.left) a c h.split v in
    let before = ap page_count (d ∙ e) ∙ page_count-append h.done u.before in
    let all = ap page_count h.split ∙ page_count-append h.done h.left in
    let held_is = page_count-held manner.binding manner.belongs held h.left h.are_held in
    record { unwritten = w; batches = h.batches; behind = omega (arith, before, h.whole); most = omega (arith, all, held_is, h.whole, few) }

module _ (size : ℕ) (some : 0 < size) (first : List Item) (order : Order) (from to : Standing) where
  abbrev Passes : Type 0
  Passes = IsOnePassAt size first order from to

  -- the run ended within items that fill no batch, and no document is behind them
  pub pass_of_part : (read last items : List Item) → AreAllItems order from.made items → IsInPart size read from.sinks to.sinks
      → first ++ items ≡ read ++ last → page_count last ≡ 0 → Passes
  pass_of_part read last items are p split none =
      let (v, e) = unwritten_more read last from.sinks to.sinks p.unwritten in
      let (w, d) = unwritten_as (first ++ items) (read ++ last) from.sinks to.sinks split v in
      let before : page_count w.before ≡ page_count p.unwritten.before = ap page_count (d ∙ e) in
      let all = ap page_count split ∙ page_count-append read last in
      let least = batch_end_least size (page_count w.before) p.batches some (omega (arith, before, p.behind)) in
      record { items = items; are = are; unwritten = w; no_farther = λ steady enough. absurd (omega (arith, enough, least, all, none, p.most)) }

  -- an input failed
  pub pass_of_rise : (read more items : List Item) → AreAllItems order from.made items → IsUnwritten read from.sinks to.sinks
      → first ++ items ≡ read ++ more → Rose from.source.faults to.source.faults → Passes
  pass_of_rise read more items are u split rose =
      let (v, e) = unwritten_more read more from.sinks to.sinks u in
      let (w, d) = unwritten_as (first ++ items) (read ++ more) from.sinks to.sinks split v in
      record { items = items; are = are; unwritten = w; no_farther = λ steady enough. absurd (steady rose) }

  -- the run ended with a whole batch
  pub pass_of_batch : (read more items : List Item) → AreAllItems order from.made items → (p : IsInBatch size read from.sinks to.sinks)
      → first ++ items ≡ read ++ more → IfReadsTo (page_count read) first order from.made from.source to.source → Passes
  pass_of_batch read more items are p split reads =
      let (v, e) = unwritten_more read more from.sinks to.sinks p.unwritten in
      let (w, d) = unwritten_as (first ++ items) (read ++ more) from.sinks to.sinks split v in
      let before : page_count w.before ≡ page_count p.unwritten.before = ap page_count (d ∙ e) in
      let is = batch_end_is size (page_count w.before) p.batches some (omega (arith, before, p.behind)) (omega (arith, before, p.within, p.full)) in
      let same : page_count read ≡ batch_end size (page_count w.before) = omega (arith, is, p.full) in
      record {
        items = items;
        are = are;
        unwritten = w;
        no_farther = λ steady enough. subst (λ n. IfReadsTo n first order from.made from.source to.source) same reads;
      }

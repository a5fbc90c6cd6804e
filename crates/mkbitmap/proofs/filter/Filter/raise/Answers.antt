use Rattle.std.proofs.Common.{[], List, ◌≡◌, ℕ, ◌+◌, ◌*◌, ◌<◌, length, get_or, min, ◌-◌, ◌%◌, arith, ap, sym, ◌∙◌, subst}
use Rattle.std.proofs.lemmas.Nat.{mod_below}
use Rattle.std.proofs.lemmas.List.{with_items_is}
use Rattle.mkbitmap.specs.Relief.{raised_of}
use Rattle.mkbitmap.specs.Filtering.{Filtering}
use Rattle.mkbitmap.specs.Follows.{HoldsRows}
use Rattle.mkbitmap.specs.Inner.Layout.{first_held, filtering_of, held_row}
use Rattle.mkbitmap.proofs.LargerRows.{row_most}
use Rattle.mkbitmap.proofs.RingRows.{held_page, holds_itself, ring_of, row_raised, slot_is, sums_small}
use Rattle.mkbitmap.proofs.filter.Filter.raise.Goals as goal

pub raise_row-requires-clause-samples : goal.raise_row-requires-clause-samples
raise_row-requires-clause-samples c = λ x.
    let f = c.self.inside in
    let laid = c.self.invariant in
    let due : f.pairs < f.height = subst (λ (v : Filtering). v.pairs < v.height) (sym c.self.view_is) c.requires.0 in
    let ready : f.taken ≡ min f.height (f.pairs + f.radius + 1) = subst (λ (v : Filtering). v.taken ≡ min v.height (v.pairs + v.radius + 1)) (sym c.self.view_is) c.requires.1 in
    let slots : c.len.result ≡ 2 * f.radius + 1 = c.len.ensures ∙ f.ring.ok.0 ∙ laid.room.slots in
    let below : f.pairs % c.len.result < length f.ring.items = rw (slots, laid.room.slots) (mod_below f.pairs (2 * f.radius + 1) (omega arith)) in
    let is : c.samples.result.now ≡ held_row f f.pairs
    = c.samples.ensures ∙ slot_is f.ring.items (f.pairs % c.len.result) c.index.result.now below c.index.ensures ∙ ap (λ n. get_or f.ring.items (f.pairs % n) []) slots in
    rw is (laid.bright f.pairs (omega arith) (omega (arith, ready, due)) x)

pub raise_row-requires-clause-columns : goal.raise_row-requires-clause-columns
raise_row-requires-clause-columns c = λ x.
    let f = c.self.inside in
    let due : f.pairs < f.height = subst (λ (v : Filtering). v.pairs < v.height) (sym c.self.view_is) c.requires.0 in
    let low : c.saturating_sub.result ≡ first_held f = omega (arith, c.saturating_sub.ensures, due) in
    rw (c.deref.ensures.value, low) (sums_small f c.self.invariant x)

pub invariant_of-self : goal.invariant_of-self
invariant_of-self c =
    let f = c.self.inside in
    let laid = c.self.invariant in
    let room = laid.room in
    let due : f.pairs < f.height = subst (λ (v : Filtering). v.pairs < v.height) (sym c.self.view_is) c.requires.0 in
    let ready : f.taken ≡ min f.height (f.pairs + f.radius + 1) = subst (λ (v : Filtering). v.taken ≡ min v.height (v.pairs + v.radius + 1)) (sym c.self.view_is) c.requires.1 in
    let slots : c.len.result ≡ 2 * f.radius + 1 = c.len.ensures ∙ f.ring.ok.0 ∙ room.slots in
    let below : f.pairs % c.len.result < length f.ring.items = rw (slots, room.slots) (mod_below f.pairs (2 * f.radius + 1) (omega arith)) in
    let is : c.samples.result.now ≡ held_row f f.pairs
    = c.samples.ensures ∙ slot_is f.ring.items (f.pairs % c.len.result) c.index.result.now below c.index.ensures ∙ ap (λ n. get_or f.ring.items (f.pairs % n) []) slots in
    let size : length c.raise_row.new.relief ≡ f.lower.len = c.raise_row.ensures.same_room ∙ c.deref_mut.ensures.len in
    let wide : length c.raise_row.new.relief ≡ f.width = size ∙ f.lower.ok.0 ∙ room.lower in
    let raised : (x : ℕ) → x < f.width → get_or c.raise_row.new.relief x 0 ≡ raised_of (held_page f) f.radius x f.pairs = λ x within.
    row_raised (held_page f) f laid (holds_itself f laid) due ready x within c.samples.result.now c.deref.result.now (f.taken - c.saturating_sub.result) (get_or c.raise_row.new.relief x 0)
    (record {
      row_is = is;
      columns_are = c.deref.ensures.value;
      rows_are = omega (arith, c.saturating_sub.ensures);
      value_is = c.raise_row.ensures.value x (rw c.deref.ensures.value (omega (arith, within, room.columns)));
    }) in
    record {
      room = record {
        setup = room.setup;
        slots = room.slots;
        slot = room.slot;
        columns = room.columns;
        upper = room.upper;
        lower = ap length (with_items_is f.lower c.raise_row.new.relief size) ∙ wide;
        mixed = room.mixed;
        packed = room.packed;
        pairs = room.pairs;
        taken = room.taken;
        low = room.low;
        room = room.room;
      };
      bright = laid.bright;
      sums = laid.sums;
      upper = laid.upper;
      lower = λ x. rw (with_items_is f.lower c.raise_row.new.relief size)
          (row_most (held_page f) f.radius f.pairs c.raise_row.new.relief (holds_itself f laid).bright room.setup.most_white due wide raised x);
    }

pub returns-clause-lower : goal.returns-clause-lower
returns-clause-lower c = λ page old.
    let f = c.self.inside in
    let laid = c.self.invariant in
    let due : f.pairs < f.height = subst (λ (v : Filtering). v.pairs < v.height) (sym c.self.view_is) c.requires.0 in
    let ready : f.taken ≡ min f.height (f.pairs + f.radius + 1) = subst (λ (v : Filtering). v.taken ≡ min v.height (v.pairs + v.radius + 1)) (sym c.self.view_is) c.requires.1 in
    let pairs : c.args.self.now.pairs ≡ f.pairs = ap (λ (v : Filtering). v.pairs) (sym c.self.view_is) in
    let holds : HoldsRows page (filtering_of f) = subst (λ (v : Filtering). HoldsRows page v) (sym c.self.view_is) old in
    let slots : c.len.result ≡ 2 * f.radius + 1 = c.len.ensures ∙ f.ring.ok.0 ∙ laid.room.slots in
    let below : f.pairs % c.len.result < length f.ring.items = rw (slots, laid.room.slots) (mod_below f.pairs (2 * f.radius + 1) (omega arith)) in
    let is : c.samples.result.now ≡ held_row f f.pairs
    = c.samples.ensures ∙ slot_is f.ring.items (f.pairs % c.len.result) c.index.result.now below c.index.ensures ∙ ap (λ n. get_or f.ring.items (f.pairs % n) []) slots in
    let size : length c.raise_row.new.relief ≡ f.lower.len = c.raise_row.ensures.same_room ∙ c.deref_mut.ensures.len in (
      record { width = holds.width; height = holds.height; maxval = holds.maxval; bright = holds.bright; held = holds.held },
      λ x within.
          ap (λ (l : List ℕ). get_or l x 0) (with_items_is f.lower c.raise_row.new.relief size)
          ∙ row_raised page f laid (ring_of page f laid holds) due ready x within c.samples.result.now c.deref.result.now (f.taken - c.saturating_sub.result) (get_or c.raise_row.new.relief x 0)
          (record {
            row_is = is;
            columns_are = c.deref.ensures.value;
            rows_are = omega (arith, c.saturating_sub.ensures);
            value_is = c.raise_row.ensures.value x (rw c.deref.ensures.value (omega (arith, within, laid.room.columns)));
          })
          ∙ ap (raised_of page f.radius x) (sym pairs),
    )

use Rattle.std.proofs.Common.{◌≡◌, ℕ, ◌+◌, ◌*◌, ◌≤◌, ◌<◌, length, get_or, min, ◌-◌, ◌%◌, set, refl, arith, ap, sym, ◌∙◌, subst, inl, inr}
use Rattle.std.proofs.lemmas.Nat.{mul-le, mod_below}
use Rattle.std.proofs.lemmas.Bool.{cases_lt}
use Rattle.std.proofs.lemmas.List.{length-set, with_items_is, get_or_past}
use Rattle.mkbitmap.specs.Filtering.{Filtering}
use Rattle.mkbitmap.specs.Follows.{Follows, IsRow}
use Rattle.mkbitmap.specs.Inner.Layout.{first_held, filtering_of}
use Rattle.mkbitmap.specs.declared.limits.TheConstants.{GREATEST_MAXVAL, LONGEST_BOX}
use Rattle.mkbitmap.proofs.RingRows.{has_slot, holds_of, ring_of, rows_next, slot_is, slot_next, sums_next, sums_small}
use Rattle.mkbitmap.proofs.filter.Filter.take.Goals as goal

pub keep-requires-clause-small : goal.keep-requires-clause-small
keep-requires-clause-small c = λ x.
    let f = c.self.inside in
    let room = c.self.invariant.room in
    let wanted : f.taken < min f.height (f.pairs + f.radius + 1) = subst (λ (v : Filtering). v.taken < min v.height (v.pairs + v.radius + 1)) (sym c.self.view_is) c.requires.wanted in
    let free = has_slot f room wanted in
    let small = sums_small f c.self.invariant x in
    let bound : (f.taken - first_held f) * f.maxval ≤ LONGEST_BOX * GREATEST_MAXVAL = mul-le (f.taken - first_held f) f.maxval LONGEST_BOX GREATEST_MAXVAL (omega (arith, room.setup.most_radius, free)) room.setup.most_white in
    rw c.deref_mut.ensures.value (omega (arith, small, bound, room.setup.most_white))

pub invariant_of-self : goal.invariant_of-self
invariant_of-self c =
    let f = c.self.inside in
    let laid = c.self.invariant in
    let room = laid.room in
    let wanted : f.taken < min f.height (f.pairs + f.radius + 1) = subst (λ (v : Filtering). v.taken < min v.height (v.pairs + v.radius + 1)) (sym c.self.view_is) c.requires.wanted in
    let whole : length c.args.row.now ≡ f.width = subst (λ (v : Filtering). length c.args.row.now ≡ v.width) (sym c.self.view_is) c.requires.whole in
    let free = has_slot f room wanted in
    let slots : c.len.result ≡ 2 * f.radius + 1 = c.len.ensures ∙ f.ring.ok.0 ∙ room.slots in
    let below : f.taken % c.len.result < 2 * f.radius + 1 = rw slots (mod_below f.taken (2 * f.radius + 1) (omega arith)) in
    let columns : length c.keep.new.columns ≡ f.columns.len = c.keep.ensures.length ∙ c.deref_mut.ensures.len in
    let wide : length c.keep.new.self ≡ f.width = c.keep.ensures.same_room ∙ ap length (slot_is f.ring.items (f.taken % c.len.result) c.index_mut.result.now (omega (arith, below, room.slots)) c.index_mut.ensures.value)
    ∙ room.slot (f.taken % c.len.result) below in
    record {
      room = record {
        setup = room.setup;
        slots = length-set f.ring.items (f.taken % c.len.result) c.keep.new.self ∙ room.slots;
        slot = slot_next (2 * f.radius + 1) (f.taken % c.len.result) f.width f.ring.items c.keep.new.self (omega (arith, below, room.slots)) room.slot wide;
        columns = ap length (with_items_is f.columns c.keep.new.columns columns) ∙ columns ∙ f.columns.ok.0 ∙ room.columns;
        upper = room.upper;
        lower = room.lower;
        mixed = room.mixed;
        packed = room.packed;
        pairs = room.pairs;
        taken = omega (arith, wanted);
        low = omega (arith, room.low);
        room = omega (arith, free);
      };
      bright = rw slots (rows_next (2 * f.radius + 1) (first_held f) f.taken f.ring.items c.keep.new.self (omega arith) room.slots free (λ j r. (x : ℕ) → get_or r x 0 ≤ f.maxval) laid.bright
          (λ x. elim (cases_lt x f.width) [
            | inl within ↦ rw (c.keep.ensures.kept x (omega (arith, within, whole))) (omega arith)
            | inr past ↦ rw (get_or_past c.keep.new.self x 0 (omega (arith, wide, past))) (omega arith)
          ]));
      sums = λ x within.
          let item : get_or c.deref_mut.result.now x 0 ≡ get_or f.columns.items x 0 = ap (λ l. get_or l x 0) c.deref_mut.ensures.value in
          let next = sums_next (2 * f.radius + 1) (first_held f) f.taken f.ring.items c.keep.new.self (omega arith) room.slots free room.low x in
          ap (λ l. get_or l x 0) (with_items_is f.columns c.keep.new.columns columns) ∙ c.keep.ensures.sums x (omega (arith, within, whole))
          ∙ rw slots (omega (arith, item, laid.sums x within, c.keep.ensures.kept x (omega (arith, within, whole)), next));
      upper = laid.upper;
      lower = laid.lower;
    }

pub returns-clause-follows : goal.returns-clause-follows
returns-clause-follows c = λ page follows row.
    let f = c.self.inside in
    let laid = c.self.invariant in
    let room = laid.room in
    let wanted : f.taken < min f.height (f.pairs + f.radius + 1) = subst (λ (v : Filtering). v.taken < min v.height (v.pairs + v.radius + 1)) (sym c.self.view_is) c.requires.wanted in
    let whole : length c.args.row.now ≡ f.width = subst (λ (v : Filtering). length c.args.row.now ≡ v.width) (sym c.self.view_is) c.requires.whole in
    let before : Follows page (filtering_of f) = subst (λ (v : Filtering). Follows page v) (sym c.self.view_is) follows in
    let here : IsRow page f.taken c.args.row.now = subst (λ (v : Filtering). IsRow page v.taken c.args.row.now) (sym c.self.view_is) row in
    let ring = ring_of page f laid before.holds in
    let slots : c.len.result ≡ 2 * f.radius + 1 = c.len.ensures ∙ f.ring.ok.0 ∙ room.slots in
    record {
      holds = holds_of page _ (2 * f.radius + 1) (first_held f) (set f.ring.items (f.taken % c.len.result) c.keep.new.self) refl (omega (arith, room.low)) ring.width ring.height ring.maxval ring.bright
          (rw slots (rows_next (2 * f.radius + 1) (first_held f) f.taken f.ring.items c.keep.new.self (omega arith) room.slots (has_slot f room wanted)
          (λ j r. (x : ℕ) → x < f.width → get_or r x 0 ≡ page.sample x j) ring.held
          (λ x within. c.keep.ensures.kept x (omega (arith, within, whole)) ∙ ap (λ w. min (get_or c.args.row.now x 0) w) (sym ring.maxval) ∙ sym (here.sample x (omega (arith, within, ring.width))))));
      upper = before.upper;
      lower = before.lower;
    }

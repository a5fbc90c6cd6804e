use Rattle.std.proofs.Common.{◌≡◌, ℕ, List, refl, ◌+◌, ◌*◌, ◌<◌, length, get_or, min, [], ◌-◌, ◌%◌, arith, ap, sym, ◌∙◌, subst, inl, inr}
use Rattle.std.proofs.lemmas.Bool.{cases_lt}
use Rattle.std.proofs.lemmas.Nat.{mod_below}
use Rattle.std.proofs.lemmas.List.{with_items_is, get_or_past}
use Rattle.mkbitmap.specs.Filtering.{Filtering}
use Rattle.mkbitmap.specs.Follows.{HoldsRows}
use Rattle.mkbitmap.specs.Inner.Layout.{held_row}
use Rattle.mkbitmap.proofs.RingRows.{first_goes, holds_of, ring_of, slot_is}
use Rattle.mkbitmap.proofs.filter.Filter.let_go.Goals as goal

pub leave-requires-clause-within : goal.leave-requires-clause-within
leave-requires-clause-within c = λ x.
    let f = c.self.inside in
    let laid = c.self.invariant in
    let room = laid.room in
    let due : f.pairs < f.height = subst (λ (v : Filtering). v.pairs < v.height) (sym c.self.view_is) c.requires.0 in
    let ready : f.taken ≡ min f.height (f.pairs + f.radius + 1) = subst (λ (v : Filtering). v.taken ≡ min v.height (v.pairs + v.radius + 1)) (sym c.self.view_is) c.requires.1 in
    let slots : c.len.result ≡ 2 * f.radius + 1 = c.len.ensures ∙ f.ring.ok.0 ∙ room.slots in
    let modulo : (f.pairs - f.radius) % c.len.result < 2 * f.radius + 1 = rw slots (mod_below (f.pairs - f.radius) (2 * f.radius + 1) (omega arith)) in
    let below : (f.pairs - f.radius) % c.len.result < length f.ring.items = omega (arith, modulo, room.slots) in
    let here : c.samples.result.now ≡ get_or f.ring.items ((f.pairs - f.radius) % c.len.result) []
    = c.samples.ensures ∙ slot_is f.ring.items ((f.pairs - f.radius) % c.len.result) c.index.result.now below c.index.ensures in
    let is : c.samples.result.now ≡ held_row f (f.pairs - f.radius) = here ∙ ap (λ n. get_or f.ring.items ((f.pairs - f.radius) % n) []) slots in
    let wide : length c.samples.result.now ≡ f.width = ap length here ∙ room.slot ((f.pairs - f.radius) % c.len.result) modulo in
    elim (cases_lt x f.width) [
      | inl within ↦
          let goes = first_goes f laid due c.if-y-self.false ready x within c.samples.result.now is in
          rw c.deref_mut.ensures.value (omega (arith, goes))
      | inr past ↦ rw (get_or_past c.samples.result.now x 0 (omega (arith, wide, past))) (omega arith)
    ]

pub invariant_of-self-2 : goal.invariant_of-self-2
invariant_of-self-2 c =
    let f = c.self.inside in
    let laid = c.self.invariant in
    let room = laid.room in
    let due : f.pairs < f.height = subst (λ (v : Filtering). v.pairs < v.height) (sym c.self.view_is) c.requires.0 in
    let ready : f.taken ≡ min f.height (f.pairs + f.radius + 1) = subst (λ (v : Filtering). v.taken ≡ min v.height (v.pairs + v.radius + 1)) (sym c.self.view_is) c.requires.1 in
    let slots : c.len.result ≡ 2 * f.radius + 1 = c.len.ensures ∙ f.ring.ok.0 ∙ room.slots in
    let modulo : (f.pairs - f.radius) % c.len.result < 2 * f.radius + 1 = rw slots (mod_below (f.pairs - f.radius) (2 * f.radius + 1) (omega arith)) in
    let below : (f.pairs - f.radius) % c.len.result < length f.ring.items = omega (arith, modulo, room.slots) in
    let is : c.samples.result.now ≡ held_row f (f.pairs - f.radius)
    = c.samples.ensures ∙ slot_is f.ring.items ((f.pairs - f.radius) % c.len.result) c.index.result.now below c.index.ensures
    ∙ ap (λ n. get_or f.ring.items ((f.pairs - f.radius) % n) []) slots in
    let size : length c.leave.new.columns ≡ f.columns.len = c.leave.ensures.length ∙ c.deref_mut.ensures.len in
    record {
      room = record {
        setup = room.setup;
        slots = room.slots;
        slot = room.slot;
        columns = ap length (with_items_is f.columns c.leave.new.columns size) ∙ size ∙ f.columns.ok.0 ∙ room.columns;
        upper = room.upper;
        lower = room.lower;
        mixed = room.mixed;
        packed = room.packed;
        pairs = omega (arith, due);
        taken = room.taken;
        low = omega (arith, due, ready);
        room = omega (arith, due, ready);
      };
      bright = λ j from. laid.bright j (omega (arith, from));
      sums = λ x within.
          let goes = first_goes f laid due c.if-y-self.false ready x within c.samples.result.now is in
          let old : get_or c.deref_mut.result.now x 0 ≡ get_or f.columns.items x 0 = ap (λ (l : List ℕ). get_or l x 0) c.deref_mut.ensures.value in
          ap (λ (l : List ℕ). get_or l x 0) (with_items_is f.columns c.leave.new.columns size) ∙ omega (arith, c.leave.ensures.sums x, old, goes);
      upper = laid.upper;
      lower = laid.lower;
    }

pub returns-clause-holds : goal.returns-clause-holds
returns-clause-holds c = λ page old.
    let f = c.self.inside in
    let due : f.pairs < f.height = subst (λ (v : Filtering). v.pairs < v.height) (sym c.self.view_is) c.requires.0 in
    let ready : f.taken ≡ min f.height (f.pairs + f.radius + 1) = subst (λ (v : Filtering). v.taken ≡ min v.height (v.pairs + v.radius + 1)) (sym c.self.view_is) c.requires.1 in
    let ring = ring_of page f c.self.invariant (subst (λ (v : Filtering). HoldsRows page v) (sym c.self.view_is) old) in
    holds_of page _ (2 * f.radius + 1) (min (f.pairs + 1) f.height - f.radius) f.ring.items refl (omega (arith, due, ready)) ring.width ring.height ring.maxval ring.bright
    (λ j from. ring.held j (omega (arith, from)))

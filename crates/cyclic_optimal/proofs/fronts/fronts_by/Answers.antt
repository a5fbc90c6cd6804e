use Rattle.std.proofs.Common.{◌≡◌, ◌+◌, ◌-◌, ◌<◌, ℕ, [], ◌∷◌, get_or, length, length-append, ◌∙◌, ap, sym, subst, arith, refl}
use Rattle.std.specs.Prelude.{slice_index}
use Rattle.straight_paths.specs.Straight.{IsPossible}
use Rattle.least_walk.specs.Inner.Suffix.{IsFewestFrom}
use Rattle.least_walk.proofs.Going.{fewest_below}
use Rattle.cyclic_optimal.specs.declared.fronts.Front.{Front}
use Rattle.cyclic_optimal.specs.Inner.Fronts.{AreTops, IsFrontAt}
use Rattle.cyclic_optimal.proofs.Layers.{fronts_more, last_front}
use Rattle.cyclic_optimal.proofs.fronts.fronts_by.Goals as goal

pub earlier_by-requires-clause-left : goal.earlier_by-requires-clause-left
earlier_by-requires-clause-left c =
    let s = c.args.sides.now in
    let end : ℕ = c.args.start + length s.moments.now in
    let few = fewest_below end (IsPossible s.moments.now) c.args.start (length c.args.tops.now - 1) c.requires.fewest in
    omega (arith, s.few, c.loop-c.invariant.left, c.loop-c-test.true)

-- the front at the end, and one front earlier
pub loop-c-init : goal.loop-c-init
loop-c-init c =
    let s = c.args.sides.now in
    let end : ℕ = c.args.start + s.size in
    let front : Front = record { end = end; left = 0; low = end; least = c.in_ok-vec.field-0 } in
    let one = c.in_ok-vec.ensures.items_if_clones_equal (λ y same. same) in
    let none = ap length c.in_ok-fronts.ensures.items in
    record {
      size = omega arith;
      each = λ left d below. (let no : ⊥ = omega arith in elim no [ ]);
      front = last_front s.moments.now front refl refl one;
      end = refl;
      left = omega arith;
      few = omega (arith, ap length one, s.points, s.few, c.requires.start);
      top = omega (arith, ap length one, s.points, c.requires.tops.within (length c.args.tops.now - 1) (omega arith));
    }

pub earlier_by-requires-clause-top : goal.earlier_by-requires-clause-top
earlier_by-requires-clause-top c = omega (arith, c.requires.tops.within (c.loop-c.c - 1) (omega (arith, c.loop-c.auto.c)), c.requires.start)

pub earlier_by-requires-clause-end : goal.earlier_by-requires-clause-end
earlier_by-requires-clause-end c = omega (arith, c.loop-c.invariant.end, c.args.sides.now.points, c.args.sides.now.few, c.requires.start)

pub earlier_by-requires-clause-few : goal.earlier_by-requires-clause-few
earlier_by-requires-clause-few c = c.loop-c.invariant.few

pub earlier_by-requires-clause-front : goal.earlier_by-requires-clause-front
earlier_by-requires-clause-front c = c.loop-c.invariant.front

pub earlier_by-requires-clause-reached : goal.earlier_by-requires-clause-reached
earlier_by-requires-clause-reached c = λ i j below possible within.
    let so_far = c.loop-c.invariant in
    let s = c.args.sides.now in
    let next : c.loop-c.c - 1 + 1 ≡ c.loop-c.c = omega (arith, c.loop-c-test.true) in
    let before : c.loop-c.c - 1 < length c.args.tops.now - 1 = omega (arith, c.loop-c-test.true, c.loop-c.auto.c) in
    let reached = c.requires.tops.onwards (c.loop-c.c - 1) i j before below possible (omega (arith, so_far.end, s.points)) in
    omega (arith, reached, ap (slice_index c.args.tops.now) next, so_far.top)

pub earlier_by-requires-clause-before : goal.earlier_by-requires-clause-before
earlier_by-requires-clause-before c =
    let so_far = c.loop-c.invariant in
    omega (
      arith,
      so_far.end,
      c.args.sides.now.points,
      c.requires.tops.before (c.loop-c.c - 1) (omega (arith, c.loop-c-test.true, c.loop-c.auto.c)),
    )

pub loop-c-preserved : goal.loop-c-preserved
loop-c-preserved c =
    let s = c.args.sides.now in
    let so_far = c.loop-c.invariant in
    let front = c.in_ok-next.ensures in
    let at : c.loop-c.c ≡ length c.args.tops.now - 1 - length c.loop-c.fronts.items = omega (arith, so_far.left, so_far.size) in
    let here : IsFrontAt s.moments.now (c.args.start + s.size) (slice_index c.args.tops.now (length c.args.tops.now - 1 - length c.loop-c.fronts.items)) (length c.loop-c.fronts.items) c.loop-c.front
    = record {
      is = so_far.front;
      ends = so_far.end;
      count = sym so_far.size;
      above = omega (arith, so_far.top, ap (slice_index c.args.tops.now) at);
      few = so_far.few;
    } in
    let P : ℕ → Front → Type 0 = λ left front. IsFrontAt s.moments.now (c.args.start + s.size) (slice_index c.args.tops.now (length c.args.tops.now - 1 - left)) left front in
    record {
      size = omega (arith, ap length c.in_ok-push.ensures.items, length-append c.loop-c.fronts.items (c.loop-c.front ∷ []), so_far.size, front.left);
      each = fronts_more P c.loop-c.fronts.items c.push.new.self.items c.loop-c.front c.in_ok-push.ensures.items so_far.each here;
      front = front.front;
      end = front.end ∙ so_far.end;
      left = omega (arith, front.left, so_far.left, c.loop-c-test.true);
      few = omega (arith, front.top, c.requires.tops.within (c.loop-c.c - 1) (omega (arith, c.loop-c.auto.c)), c.requires.start, s.few);
      top = omega (arith, front.top);
    }

pub returns : goal.returns
returns c =
    let s = c.args.sides.now in
    let points = s.moments.now in
    let so_far = c.loop-c.invariant in
    let tops = c.args.tops.now in
    let end : ℕ = c.args.start + length points in
    let fronts = c.push-2.new.self.items in
    let none_left : c.loop-c.c ≡ 0 = omega (arith, c.loop-c-test.false) in
    let at : c.loop-c.c ≡ length tops - 1 - length c.loop-c.fronts.items = omega (arith, so_far.left, so_far.size) in
    let same_end : c.args.start + s.size ≡ end = omega (arith, s.points) in
    let P : ℕ → Front → Type 0 = λ left front. IsFrontAt points (c.args.start + s.size) (slice_index tops (length tops - 1 - left)) left front in
    let last : IsFrontAt s.moments.now (c.args.start + s.size) (slice_index c.args.tops.now (length c.args.tops.now - 1 - length c.loop-c.fronts.items)) (length c.loop-c.fronts.items) c.loop-c.front
    = record {
      is = so_far.front;
      ends = so_far.end;
      count = sym so_far.size;
      above = omega (arith, so_far.top, ap (slice_index c.args.tops.now) at);
      few = so_far.few;
    } in
    let all = fronts_more P c.loop-c.fronts.items fronts c.loop-c.front c.in_ok-push-2.ensures.items so_far.each last in
    let count : length fronts ≡ length tops
    = omega (arith, ap length c.in_ok-push-2.ensures.items, length-append c.loop-c.fronts.items (c.loop-c.front ∷ []), so_far.left, so_far.size, c.requires.some) in
    let Q : ℕ → Type 0 = λ n. AreTops points c.args.start end (n - 1) tops in
    let R : ℕ → Type 0 = λ n. IsFewestFrom end (IsPossible points) c.args.start (n - 1) in
    let S : ℕ → Type 0 = λ n. (left : ℕ) (d : Front) → left < length fronts → IsFrontAt points end (slice_index tops (n - 1 - left)) left (get_or fronts left d) in
    let T : ℕ → Type 0 = λ e. (left : ℕ) (d : Front) → left < length fronts
    → IsFrontAt points e (slice_index tops (length tops - 1 - left)) left (get_or fronts left d) in
    record {
      some = omega (arith, count, c.requires.some);
      tops = tops;
      are = subst Q (sym count) c.requires.tops;
      fewest = subst R (sym count) c.requires.fewest;
      each = subst S (sym count) (subst T same_end all);
    }

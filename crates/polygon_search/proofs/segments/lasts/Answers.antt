use Rattle.std.proofs.Common.{◌≡◌, ℕ, ◌<◌, ◌≤◌, length, set, sym, ◌∙◌, subst, get_or-set_same, inl, inr, arith}
use Rattle.std.proofs.lemmas.Bool.{cases_eq}
use Rattle.std.proofs.lemmas.List.{get_or_default, get_or-set_other, length-set}
use Rattle.std.specs.Prelude.{slice_index}
use Rattle.straight_paths.specs.Straight.{IsFarthest}
use Rattle.polygon_search.specs.Inner.Lasts.{IsLast}
use Rattle.polygon_search.proofs.Reaching.{last_from_farthest}
use Rattle.polygon_search.proofs.segments.lasts.Goals as goal

pub loop-i-preserved : goal.loop-i-preserved
loop-i-preserved c =
    let points = c.args.points.now in
    let lasts = c.loop-i.lasts.items in
    let i = c.loop-i.i in
    let inv = c.loop-i.invariant in
    let last = c.min.result in
    let below : i < length points = omega (arith, c.requires.closed.most) in
    let there : i < length lasts = omega (arith, inv.places) in
    let far : c.index.result.now ≡ slice_index lasts i = c.index.ensures ∙ get_or_default lasts i c.index.result.now 0 there in
    let some = inv.some i (omega arith) below in
    let longest = last_from_farthest points i (slice_index lasts i) last (inv.left i (omega arith) below) below some
    (omega (arith, c.min.ensures, c.requires.closed.most)) (omega (arith, c.min.ensures, far, c.requires.closed.most))
    (omega (arith, c.min.ensures, far, c.requires.closed.most)) (λ j within reached. omega (arith, c.min.ensures, far, c.requires.closed.most)) in
    record {
      places = omega (arith, inv.places, length-set lasts i last);
      each = λ k early. elim (cases_eq k i) [
        | inl same ↦ (
            let P : ℕ → Type 0 = λ n. IsLast points n (slice_index (set lasts i last) n) in
            subst P (sym same) (subst (IsLast points i) (sym (get_or-set_same lasts i last 0 there)) longest))
        | inr other ↦ subst (IsLast points k) (sym (get_or-set_other lasts i k last 0 other)) (inv.each k (omega arith))
      ];
      left = λ k above within. subst (IsFarthest points k) (sym (get_or-set_other lasts i k last 0 (λ same. omega arith))) (inv.left k (omega arith) within);
      some = λ k above within. subst (λ n. 1 ≤ n) (sym (get_or-set_other lasts i k last 0 (λ same. omega arith))) (inv.some k (omega arith) within);
    }

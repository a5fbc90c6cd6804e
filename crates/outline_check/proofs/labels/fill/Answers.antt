use Rattle.std.proofs.Common.{◌≡◌, ℕ, ◌+◌, ◌-◌, ◌<◌, length, set, get_or-set_same, subst, arith}
use Rattle.std.proofs.lemmas.List.{get_or-set_other, length-set}
use Rattle.polygon_search.specs.Inner.Lasts.{IsUpToLast}
use Rattle.polygon_search.specs.Polygon.{penalty_of}
use Rattle.outline_check.specs.Labels.{no_label}
use Rattle.outline_check.specs.Inner.Known.{AreRightDownTo}
use Rattle.outline_check.proofs.Right.{known_more, begin_same}
use Rattle.outline_check.proofs.labels.fill.Goals as goal

pub loop-from-preserved : goal.loop-from-preserved
loop-from-preserved c =
    let s = c.args.segments.now in
    let size = length s.moments in
    let lasts = s.lasts.items in
    let labels = c.loop-from.labels in
    let label = c.before-stage.result.label in
    let i : ℕ = c.loop-from.from - 1 in
    let low : c.loop-from.from ≡ i + 1 = omega arith in
    let below : i < size = omega arith in
    let known = subst (λ n. AreRightDownTo size (IsUpToLast lasts) (penalty_of s.moments) n labels) low c.loop-from.invariant.known in
    let room : i < length labels = omega (arith, known.places) in
    let more = set labels i label in
    record {
      known = known_more size lasts s.onwards s.rising (penalty_of s.moments) s.cheap
          labels more i below known label (record {
            right = c.before-stage.ensures.label;
            places = omega (arith, length-set labels i label, known.places);
            here = get_or-set_same labels i label no_label room;
            same = λ k above within. get_or-set_other labels i k label no_label (λ same. let no : ⊥ = omega arith in no);
          });
      begin = λ inside. begin_same size lasts s.onwards s.rising (penalty_of s.moments) labels i below known more c.before-stage.result.begin
          (λ k above within. get_or-set_other labels i k label no_label (λ same. let no : ⊥ = omega arith in no)) c.before-stage.ensures.begin;
    }

pub returns : goal.returns
returns c =
    let s = c.args.segments.now in
    let start : c.loop-from.from ≡ 0 = omega arith in
    subst (λ n. AreRightDownTo (length s.moments) (IsUpToLast s.lasts.items) (penalty_of s.moments) n c.loop-from.labels) start c.loop-from.invariant.known

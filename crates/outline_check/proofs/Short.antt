-- How small the right labels of a closed walk are.
use Rattle.std.proofs.Common.{◌≡◌, ℕ, zero, suc, ◌+◌, ◌*◌, ◌<◌, ◌≤◌, List, length, ap, ◌∙◌, inl, inr, arith}
use Rattle.std.proofs.lemmas.Bool.{cases_eq}
use Rattle.pt_core.specs.ClosedWalk.{IsClosedWalk}
use Rattle.pt_core.specs.declared.point.Point.{Point}
use Rattle.polygon_search.specs.Inner.OnePenalty.{penalty_is}
use Rattle.polygon_search.specs.Polygon.{penalty_of}
use Rattle.polygon_search.proofs.Small.{possible_most}
use Rattle.outline_check.specs.declared.label.Label.{Label}
use Rattle.outline_check.specs.Certificate.{AreRightLabels}
use Rattle.outline_check.specs.Labels.{label_at}
use Rattle.outline_check.specs.Texts.{IsShortLabel}

-- from index k on no more segments are left than steps, and for each step no more than a pixel
record IsLow (size k : ℕ) (label : Label) : Type 0 where
  count : label.count + k ≤ size
  cost : label.cost + 256 * k ≤ 256 * size

module _ (points : List Point) (closed : IsClosedWalk points) (labels : List Label) (right : AreRightLabels points labels) where
  low_from : (fuel i : ℕ) → i + fuel ≡ length points → (k : ℕ) → i ≤ k → k ≤ length points → IsLow (length points) k (label_at labels k)
  low_from zero i at k above within =
      let end : k ≡ length points = omega arith in
      let count : (label_at labels k).count ≡ 0 = ap (λ n. (label_at labels n).count) end ∙ ap (λ (l : Label). l.count) right.last in
      let cost : (label_at labels k).cost ≡ 0 = ap (λ n. (label_at labels n).cost) end ∙ ap (λ (l : Label). l.cost) right.last in
      record { count = omega arith; cost = omega arith }
  low_from (suc fuel) i at k above within =
      elim (cases_eq k i) [
        | inl here ↦
            let is = right.each k (omega arith) in
            let segment = is.leads.allowed in
            let rises = segment.possible.rises in
            let ends = segment.ends in
            let count : (label_at labels k).count ≡ (label_at labels is.next).count + 1 = ap (λ (l : Label). l.count) is.leads.by_step in
            let cost : (label_at labels k).cost ≡ (label_at labels is.next).cost + penalty_of points k is.next = ap (λ (l : Label). l.cost) is.leads.by_step in
            let later = low_from fuel (suc i) (omega arith) is.next (omega arith) ends in
            let few = later.count in
            let cheap = later.cost in
            let most = possible_most points k is.next (penalty_of points k is.next) closed segment.possible (penalty_is points k is.next) in
            record { count = omega arith; cost = omega arith }
        | inr later ↦ low_from fuel (suc i) (omega arith) k (omega arith) within
      ]

  pub short : (k : ℕ) → k < length labels → IsShortLabel (label_at labels k)
  short k below =
      let low = low_from (length points) 0 (omega arith) k (omega arith) (omega (arith, right.places)) in
      let count = low.count in
      let cost = low.cost in
      record { count = omega (arith, closed.most); cost = omega (arith, closed.most) }

-- Labels while they are made, or checked, from the end down.
use Rattle.std.specs.Prelude.{◌≡◌, ℕ, ◌+◌, ◌*◌, ◌<◌, ◌≤◌, ◌^◌, List, length, slice_index}
use Rattle.outline_check.specs.declared.label.Label.{Label}
use Rattle.outline_check.specs.Labels.{no_label, label_at, IsRight}

-- the labels from index `low` on are right; so they fall, and none is large
pub record AreRightDownTo (size : ℕ) (is_allowed : ℕ → ℕ → Type 0) (cost : ℕ → ℕ → ℕ) (low : ℕ) (labels : List Label) : Type 0 where
  pub places : length labels ≡ size + 1
  pub last : label_at labels size ≡ no_label
  pub each : (k : ℕ) → low ≤ k → k < size → IsRight is_allowed cost labels k (label_at labels k)
  pub falling : (j k : ℕ) → low ≤ j → j ≤ k → k ≤ size → (label_at labels k).count ≤ (label_at labels j).count
  pub few : (k : ℕ) → low ≤ k → k ≤ size → (label_at labels k).count + k ≤ size
  pub small : (k : ℕ) → low ≤ k → k ≤ size → (label_at labels k).cost ≤ (label_at labels k).count * 2 ^ 24

-- the first point after i that has as few segments left as the farthest that a segment from i reaches
pub record IsWindowBegin (size : ℕ) (lasts : List ℕ) (labels : List Label) (i begin : ℕ) : Type 0 where
  pub above : i < begin
  pub within : begin ≤ slice_index lasts i
  pub level : (label_at labels begin).count ≡ (label_at labels (slice_index lasts i)).count
  pub none_before : (k : ℕ) → i < k → k ≤ size → (label_at labels k).count ≡ (label_at labels (slice_index lasts i)).count → begin ≤ k

-- The lines of a certificates' text: its first, and the three of a path.
use Rattle.std.proofs.Common.{◌≡◌, ℕ, ◌<◌, ◌^◌, List, ◌∷◌, ◌++◌, length, refl, ap, sym, ◌∙◌, append_assoc, codes, flat_map}
use Rattle.pt_base.specs.PointsText.{point_text}
use Rattle.pt_base.specs.PolygonsText.{index_text}
use Rattle.pt_core.specs.declared.point.Point.{Point}
use Rattle.outline_check.specs.declared.label.Label.{Label}
use Rattle.outline_check.specs.Inner.CertifiedPaths.{IsGroup}
use Rattle.list_reader.specs.Inner.LineTexts.{IsSomeLine}
use Rattle.outline_check.specs.ProofsText.{Certified, certified_text, label_text}
use Rattle.list_reader.specs.PagePoints.{IsInPage, IsIndex}
use Rattle.list_reader.specs.Inner.SidesLines.{IsSidesLine}
use Rattle.outline_check.specs.Texts.{IsShortLabel, IsProofs}
use Rattle.list_reader.proofs.EntryLines.{one_some_line}
use Rattle.list_reader.proofs.NumberPairs.{points_are_entries, indices_are_entries}
use Rattle.list_reader.proofs.SidesLines.{Behind, cancel}
use Rattle.outline_check.proofs.LabelReading.{labels_are_entries}

-- what follows the first line, and the second
abbrev pub labels_bytes : Certified → List ℕ → List ℕ
labels_bytes c rest = flat_map label_text c.labels ++ 10 ∷ rest

abbrev pub indices_bytes : Certified → List ℕ → List ℕ
indices_bytes c rest = flat_map index_text c.at ++ 10 ∷ (codes "labels" ++ labels_bytes c rest)

abbrev pub points_bytes : Certified → List ℕ → List ℕ
points_bytes c rest = flat_map point_text c.points ++ 10 ∷ (codes "at" ++ indices_bytes c rest)

pub group_bytes : (c : Certified) (rest : List ℕ) → certified_text c ++ rest ≡ codes "path" ++ points_bytes c rest
group_bytes c rest = simp append_assoc

-- a line was read at the front, and this is what follows it
pub record ReadLine (A : Type 0) (text : A → List ℕ) (IsIn : A → Type 0) (bytes : List ℕ) : Type 0 where
  pub values : List A
  pub after : List ℕ
  pub is : IsSomeLine A text IsIn bytes values after

module _ (width height : ℕ) (wide : width < 2 ^ 64) (high : height < 2 ^ 64) where
  abbrev PointsLine : List ℕ → List Point → List ℕ → Type 0
  PointsLine = IsSomeLine Point point_text (IsInPage width height)

  abbrev IndicesLine : List ℕ → List ℕ → List ℕ → Type 0
  IndicesLine = IsSomeLine ℕ index_text IsIndex

  abbrev LabelsLine : List ℕ → List Label → List ℕ → Type 0
  LabelsLine = IsSomeLine Label label_text IsShortLabel

  abbrev ReadPoints : List ℕ → Type 0
  ReadPoints = ReadLine Point point_text (IsInPage width height)

  abbrev ReadIndices : List ℕ → Type 0
  ReadIndices = ReadLine ℕ index_text IsIndex

  abbrev ReadLabels : List ℕ → Type 0
  ReadLabels = ReadLine Label label_text IsShortLabel

  -- what was read at the front of a path's text, step by step
  module _ (bytes : List ℕ) (c : Certified) (rest : List ℕ) (group : IsGroup width height bytes c rest) where
    pub begins : bytes ≡ codes "path" ++ points_bytes c rest
    begins = group.is ∙ group_bytes c rest

    pub first_line : (path : Behind (codes "path") bytes) → PointsLine path.after c.points (codes "at" ++ indices_bytes c rest)
    first_line path = record {
      line = record { is = cancel (codes "path") path.after (points_bytes c rest) (sym path.is ∙ begins); all = group.inside.points };
      some = group.inside.some_point;
    }

    module _ (path : Behind (codes "path") bytes) (points : ReadPoints path.after) where
      pub after_points : (points.values ≡ c.points) × (points.after ≡ codes "at" ++ indices_bytes c rest)
      after_points =
          one_some_line Point point_text (IsInPage width height) (points_are_entries width height wide high) path.after points.values c.points points.after
          (codes "at" ++ indices_bytes c rest) points.is (first_line path)

      pub second_line : (at : Behind (codes "at") points.after) → IndicesLine at.after c.at (codes "labels" ++ labels_bytes c rest)
      second_line at = record {
        line = record { is = cancel (codes "at") at.after (indices_bytes c rest) (sym at.is ∙ after_points.1); all = group.inside.at };
        some = group.inside.some_index;
      }

      module _ (at : Behind (codes "at") points.after) (indices : ReadIndices at.after) where
        pub after_indices : (indices.values ≡ c.at) × (indices.after ≡ codes "labels" ++ labels_bytes c rest)
        after_indices =
            one_some_line ℕ index_text IsIndex indices_are_entries at.after indices.values c.at indices.after (codes "labels" ++ labels_bytes c rest) indices.is (second_line at)

        pub third_line : (marks : Behind (codes "labels") indices.after) → LabelsLine marks.after c.labels rest
        third_line marks = record {
          line = record { is = cancel (codes "labels") marks.after (labels_bytes c rest) (sym marks.is ∙ after_indices.1); all = group.inside.labels };
          some = group.inside.some_label;
        }

        pub after_labels : (marks : Behind (codes "labels") indices.after) (labels : ReadLabels marks.after) → (labels.values ≡ c.labels) × (labels.after ≡ rest)
        after_labels marks labels =
            one_some_line Label label_text IsShortLabel labels_are_entries marks.after labels.values c.labels labels.after rest labels.is (third_line marks)

  -- three lines make a group
  pub group_of_lines : (bytes : List ℕ) (path : Behind (codes "path") bytes) (points : ReadPoints path.after) (at : Behind (codes "at") points.after) (indices : ReadIndices at.after)
      (marks : Behind (codes "labels") indices.after) (labels : ReadLabels marks.after)
      → IsGroup width height bytes (record { points = points.values; at = indices.values; labels = labels.values }) labels.after
  group_of_lines bytes path points at indices marks labels =
      let c : Certified = record { points = points.values; at = indices.values; labels = labels.values } in
      let rest = labels.after in
      let third : indices.after ≡ codes "labels" ++ labels_bytes c rest = marks.is ∙ ap (λ l. codes "labels" ++ l) labels.is.line.is in
      let second : points.after ≡ codes "at" ++ indices_bytes c rest
      = at.is ∙ ap (λ l. codes "at" ++ l) (indices.is.line.is ∙ ap (λ l. flat_map index_text indices.values ++ 10 ∷ l) third) in
      let first : bytes ≡ codes "path" ++ points_bytes c rest
      = path.is ∙ ap (λ l. codes "path" ++ l) (points.is.line.is ∙ ap (λ l. flat_map point_text points.values ++ 10 ∷ l) second) in
      record {
        is = first ∙ sym (group_bytes c rest);
        inside = record {
          some_point = points.is.some;
          points = points.is.line.all;
          some_index = indices.is.some;
          at = indices.is.line.all;
          some_label = labels.is.some;
          labels = labels.is.line.all;
        };
      }

  -- a text begins with one group
  pub one_group : (bytes : List ℕ) (c d : Certified) (r s : List ℕ) → IsGroup width height bytes c r → IsGroup width height bytes d s → (c ≡ d) × (r ≡ s)
  one_group bytes c d r s a b =
      let path : Behind (codes "path") bytes = record { after = points_bytes c r; is = begins bytes c r a } in
      let points : ReadPoints path.after = record { values = c.points; after = codes "at" ++ indices_bytes c r; is = first_line bytes c r a path } in
      let at : Behind (codes "at") points.after = record { after = indices_bytes c r; is = refl } in
      let indices : ReadIndices at.after = record { values = c.at; after = codes "labels" ++ labels_bytes c r; is = second_line bytes c r a path points at } in
      let marks : Behind (codes "labels") indices.after = record { after = labels_bytes c r; is = refl } in
      let labels : ReadLabels marks.after = record { values = c.labels; after = r; is = third_line bytes c r a path points at indices marks } in
      let same_points = after_points bytes d s b path points in
      let same_indices = after_indices bytes d s b path points at indices in
      let same_labels = after_labels bytes d s b path points at indices marks labels in
      let F : List Point → Certified = λ xs. record { points = xs; at = c.at; labels = c.labels } in
      let G : List ℕ → Certified = λ is. record { points = d.points; at = is; labels = c.labels } in
      let H : List Label → Certified = λ ls. record { points = d.points; at = d.at; labels = ls } in
      (ap F same_points.0 ∙ ap G same_indices.0 ∙ ap H same_labels.0, same_labels.1)

-- a certificates' text begins with its first line
pub head_of : (text : List ℕ) (w h : ℕ) (paths : List Certified) → IsProofs text w h paths
    → IsSidesLine (codes "proofs ") text w h (length paths) (flat_map certified_text paths)
head_of text w h paths proofs = record {
  is = proofs.is;
  some_width = proofs.some_width;
  wide = proofs.wide;
  some_height = proofs.some_height;
  high = proofs.high;
  few = proofs.few;
}

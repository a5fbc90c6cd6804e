-- Right labels, from the end down.
use Rattle.std.proofs.Common.{◌≡◌, ℕ, ◌+◌, ◌*◌, ◌<◌, ◌≤◌, ◌^◌, List, length, refl, ap, sym, ◌∙◌, subst, inl, inr, arith}
use Rattle.std.proofs.lemmas.Bool.{cases_eq, cases_lt, cases_order}
use Rattle.std.specs.Prelude.{slice_index}
use Rattle.polygon_search.specs.Inner.Lasts.{AreRising, IsUpToLast, LeadsOn}
use Rattle.outline_check.specs.declared.label.Label.{Label}
use Rattle.outline_check.specs.Labels.{no_label, label_at, label_by, IsUpTo, IsRight}
use Rattle.outline_check.specs.Labels.IsUpTo.{fewer, as_few}
use Rattle.outline_check.specs.Inner.Known.{AreRightDownTo, IsWindowBegin}

-- a label is up to itself
pub up_to_itself : (a : Label) → IsUpTo a a
up_to_itself a = as_few refl (omega arith)

-- a label is its count and its cost
pub label_same : (a b : Label) → a.count ≡ b.count → a.cost ≡ b.cost → a ≡ b
label_same a b count cost =
    let F : ℕ → Label = λ n. record { count = n; cost = a.cost } in
    let G : ℕ → Label = λ n. record { count = b.count; cost = n } in
    ap F count ∙ ap G cost

-- of two labels that are up to each other there is one
pub up_to_both : (a b : Label) → IsUpTo a b → IsUpTo b a → a ≡ b
up_to_both a b (fewer h) (fewer k) = absurd (omega arith)
up_to_both a b (fewer h) (as_few k l) = absurd (omega arith)
up_to_both a b (as_few h l) (fewer k) = absurd (omega arith)
up_to_both a b (as_few h l) (as_few k m) =
    label_same a b h (omega arith)

pub up_to_trans : (a b c : Label) → IsUpTo a b → IsUpTo b c → IsUpTo a c
up_to_trans a b c (fewer h) (fewer k) = fewer (omega arith)
up_to_trans a b c (fewer h) (as_few k l) = fewer (omega arith)
up_to_trans a b c (as_few h l) (fewer k) = fewer (omega arith)
up_to_trans a b c (as_few h l) (as_few k m) = as_few (omega arith) (omega arith)

up_to_count : (a b : Label) → IsUpTo a b → a.count ≤ b.count
up_to_count a b (fewer h) = omega arith
up_to_count a b (as_few h l) = omega arith

between : (low mid high : ℕ) → low ≤ mid → mid ≤ high → ¬ (mid ≡ high) → high ≤ low + 1 → mid ≡ low
between low mid high h k ne l = elim (cases_lt mid high) [
  | inl below ↦ omega arith
  | inr above ↦ absurd (ne (omega arith))
]

module _ (is_allowed : ℕ → ℕ → Type 0) (cost : ℕ → ℕ → ℕ) where
  -- so one label is right
  pub one_right : (labels : List Label) (i : ℕ) (a b : Label) → IsRight is_allowed cost labels i a → IsRight is_allowed cost labels i b → a ≡ b
  one_right labels i a b a_right b_right =
      up_to_both a b
      (subst (IsUpTo a) (sym b_right.leads.by_step) (a_right.least b_right.next b_right.leads.allowed))
      (subst (IsUpTo b) (sym a_right.leads.by_step) (b_right.least a_right.next a_right.leads.allowed))

  -- only the labels of later indices matter
  module _ (labels more : List Label) (i : ℕ) (same : (k : ℕ) → is_allowed i k → label_at more k ≡ label_at labels k) where
    by_same : (k : ℕ) → is_allowed i k → label_by cost more i k ≡ label_by cost labels i k
    by_same k allowed = let e = same k allowed in cc

    pub right_same : (a : Label) → IsRight is_allowed cost labels i a → IsRight is_allowed cost more i a
    right_same a right = record {
      next = right.next;
      leads = record { allowed = right.leads.allowed; by_step = right.leads.by_step ∙ sym (by_same right.next right.leads.allowed) };
      least = λ k allowed. subst (IsUpTo a) (sym (by_same k allowed)) (right.least k allowed);
    }

-- a point's label was set to the right one, and those of later points stay
pub record IsLabelled (size : ℕ) (lasts : List ℕ) (cost : ℕ → ℕ → ℕ) (labels more : List Label) (i : ℕ) (label : Label) : Type 0 where
  pub right : IsRight (IsUpToLast lasts) cost labels i label
  pub places : length more ≡ size + 1
  pub here : label_at more i ≡ label
  pub same : (k : ℕ) → i < k → k ≤ size → label_at more k ≡ label_at labels k

module _ (size : ℕ) (lasts : List ℕ) (leads : (i : ℕ) → i < size → LeadsOn size i (slice_index lasts i))
    (rising : AreRising size lasts) (cost : ℕ → ℕ → ℕ) where
  -- at the end nothing is left
  pub known_at_end : (labels : List Label) (low : ℕ) → low ≡ size → length labels ≡ size + 1 → label_at labels size ≡ no_label
      → AreRightDownTo size (IsUpToLast lasts) cost low labels
  known_at_end labels low at_end places last = record {
    places = places;
    last = last;
    each = λ k above below. absurd (omega arith);
    falling = λ j k above onwards within. (
        let one : j ≡ size = omega arith in
        let other : k ≡ size = omega arith in
        omega (arith, ap (λ i. (label_at labels i).count) one, ap (λ i. (label_at labels i).count) other)
        );
    few = λ k above within. (
        let one : k ≡ size = omega arith in
        omega (arith, ap (λ i. (label_at labels i).count) one, ap (λ (l : Label). l.count) last)
        );
    small = λ k above within. (
        let one : k ≡ size = omega arith in
        omega (arith, ap (λ i. (label_at labels i).cost) one, ap (λ (l : Label). l.cost) last)
        );
  }

  module _ (cheap : (i j : ℕ) → i < size → IsUpToLast lasts i j → cost i j < 2 ^ 24)
      (labels more : List Label) (i : ℕ) (below : i < size) (known : AreRightDownTo size (IsUpToLast lasts) cost (i + 1) labels)
      (label : Label) (set : IsLabelled size lasts cost labels more i label) where
    within : (k j : ℕ) → k < size → IsUpToLast lasts k j → j ≤ size
    within k j inside up = omega (arith, (leads k inside).within, up.1)

    each_more : (k : ℕ) → i ≤ k → k < size → IsRight (IsUpToLast lasts) cost more k (label_at more k)
    each_more k above inside =
        elim (cases_eq k i) [
          | inl first ↦ subst (λ n. IsRight (IsUpToLast lasts) cost more n (label_at more n)) (sym first)
              (subst (IsRight (IsUpToLast lasts) cost more i) (sym set.here)
              (right_same (IsUpToLast lasts) cost labels more i (λ j up. set.same j up.0 (within i j below up)) label set.right))
          | inr later ↦
              let onwards : i < k = omega arith in
              subst (IsRight (IsUpToLast lasts) cost more k) (sym (set.same k onwards (omega arith)))
              (right_same (IsUpToLast lasts) cost labels more k
              (λ j up. set.same j (omega (arith, up.0)) (within k j inside up))
              (label_at labels k) (known.each k (omega arith) inside))
        ]

    -- the label is one more than that of the next point at most
    here_most : (k : ℕ) → i < k → k ≤ size → (label_at labels k).count ≤ label.count
    here_most k onwards inside =
        let up = set.right.leads.allowed in
        let j = set.right.next in
        let j_within = within i j below up in
        let first = known.falling (i + 1) k (omega arith) (omega arith) inside in
        let count : label.count ≡ (label_at labels j).count + 1 = ap (λ (l : Label). l.count) set.right.leads.by_step in
        elim (cases_lt (i + 1) j) [
          | inl beyond ↦
              let inner : i + 1 < size = omega arith in
              let still : IsUpToLast lasts (i + 1) j = (beyond, omega (arith, rising i inner, up.1)) in
              elim ((known.each (i + 1) (omega arith) inner).least j still) [
                | fewer h ↦ omega arith
                | as_few h l ↦ omega arith
              ]
          | inr near ↦
              let e : j ≡ i + 1 = omega (arith, up.0) in
              omega (arith, ap (λ n. (label_at labels n).count) e)
        ]

    count_here : (label_at more i).count ≡ label.count
    count_here = ap (λ (l : Label). l.count) set.here

    count_same : (k : ℕ) → i < k → k ≤ size → (label_at more k).count ≡ (label_at labels k).count
    count_same k above inside = ap (λ (l : Label). l.count) (set.same k above inside)

    falling_more : (j k : ℕ) → i ≤ j → j ≤ k → k ≤ size → (label_at more k).count ≤ (label_at more j).count
    falling_more j k above onwards inside =
        elim (cases_eq j i) [
          | inl first ↦ elim (cases_eq k i) [
            | inl also ↦ omega (arith, ap (λ n. (label_at more n).count) first, ap (λ n. (label_at more n).count) also)
            | inr later ↦ omega (
              arith,
              ap (λ n. (label_at more n).count) first,
              count_here,
              count_same k (omega arith) inside,
              here_most k (omega arith) inside,
            )
          ]
          | inr later ↦ omega (
            arith,
            count_same j (omega arith) (omega arith),
            count_same k (omega arith) inside,
            known.falling j k (omega arith) onwards inside,
          )
        ]

    few_more : (k : ℕ) → i ≤ k → k ≤ size → (label_at more k).count + k ≤ size
    few_more k above inside =
        elim (cases_eq k i) [
          | inl first ↦
              let up = set.right.leads.allowed in
              omega (
                arith,
                up.0,
                ap (λ n. (label_at more n).count) first,
                count_here,
                ap (λ (l : Label). l.count) set.right.leads.by_step,
                known.few set.right.next (omega (arith, up.0)) (within i set.right.next below up),
              )
          | inr later ↦ omega (arith, count_same k (omega arith) inside, known.few k (omega arith) inside)
        ]

    small_more : (k : ℕ) → i ≤ k → k ≤ size → (label_at more k).cost ≤ (label_at more k).count * 2 ^ 24
    small_more k above inside =
        elim (cases_eq k i) [
          | inl first ↦
              let up = set.right.leads.allowed in
              omega (
                arith,
                ap (λ n. (label_at more n).count) first,
                ap (λ n. (label_at more n).cost) first,
                count_here,
                ap (λ (l : Label). l.cost) set.here,
                ap (λ (l : Label). l.count) set.right.leads.by_step,
                ap (λ (l : Label). l.cost) set.right.leads.by_step,
                cheap i set.right.next below up,
                known.small set.right.next (omega (arith, up.0)) (within i set.right.next below up),
              )
          | inr later ↦ omega (
            arith,
            count_same k (omega arith) inside,
            ap (λ (l : Label). l.cost) (set.same k (omega arith) inside),
            known.small k (omega arith) inside,
          )
        ]

    -- one more label
    pub known_more : AreRightDownTo size (IsUpToLast lasts) cost i more
    known_more = record {
      places = set.places;
      last = set.same size below (omega arith) ∙ known.last;
      each = each_more;
      falling = falling_more;
      few = few_more;
      small = small_more;
    }

  -- the window of a point
  module _ (labels : List Label) (i : ℕ) (below : i < size) (known : AreRightDownTo size (IsUpToLast lasts) cost (i + 1) labels) where
    abbrev count : ℕ → ℕ
    count k = (label_at labels k).count

    -- it begins with the next point, where from there as few are left as from the farthest
    pub begins_here : count (slice_index lasts i) ≡ count (i + 1) → IsWindowBegin size lasts labels i (i + 1)
    begins_here same =
        record {
          above = omega arith;
          within = omega (arith, (leads i below).beyond);
          level = sym same;
          none_before = λ k above inside level. omega arith;
        }

    -- and else where that of the next point begins
    pub begins_later : (begin : ℕ) → ¬ (count (slice_index lasts i) ≡ count (i + 1))
        → (i + 1 < size → IsWindowBegin size lasts labels (i + 1) begin) → IsWindowBegin size lasts labels i begin
    begins_later begin other later =
        let on = leads i below in
        let beyond : i + 1 < slice_index lasts i = elim (cases_order (i + 1) (slice_index lasts i)) [
          | inl e ↦ absurd (other (ap count (sym e)))
          | inr (inl h) ↦ h
          | inr (inr h) ↦ absurd (omega (arith, on.beyond))
        ] in
        let inner : i + 1 < size = omega (arith, on.within) in
        let next = leads (i + 1) inner in
        let far = rising i inner in
        let is = later inner in
        let right = known.each (i + 1) (omega arith) inner in
        let up = right.leads.allowed in
        let reached : count (i + 1) ≡ count right.next + 1 = ap (λ (l : Label). l.count) right.leads.by_step in
        let low = known.falling right.next (slice_index lasts (i + 1)) (omega (arith, up.0)) up.1 next.within in
        let far_level = known.falling (slice_index lasts i) (slice_index lasts (i + 1)) (omega arith) far next.within in
        let near_level = known.falling (i + 1) (slice_index lasts i) (omega arith) (omega arith) on.within in
        let bound = up_to_count (label_at labels (i + 1)) (label_by cost labels (i + 1) (slice_index lasts (i + 1)))
        (right.least (slice_index lasts (i + 1)) (next.beyond, omega arith)) in
        let level : count (slice_index lasts i) ≡ count (slice_index lasts (i + 1)) =
        elim (cases_eq (count (slice_index lasts i)) (count (i + 1))) [
          | inl same ↦ absurd (other same)
          | inr differs ↦ between (count (slice_index lasts (i + 1))) (count (slice_index lasts i)) (count (i + 1)) far_level near_level differs
              (omega arith)
        ] in
        record {
          above = omega (arith, is.above);
          within = is.none_before (slice_index lasts i) beyond on.within level;
          level = is.level ∙ sym level;
          none_before = λ k above inside as_few. elim (cases_eq k (i + 1)) [
            | inl first ↦ absurd (other (sym as_few ∙ ap count first))
            | inr onwards ↦ is.none_before k (omega arith) inside (as_few ∙ level)
          ];
        }

    -- only the labels of later points matter
    pub begin_same : (more : List Label) (begin : ℕ) → ((k : ℕ) → i < k → k ≤ size → label_at more k ≡ label_at labels k)
        → IsWindowBegin size lasts labels i begin → IsWindowBegin size lasts more i begin
    begin_same more begin same is =
        let on = leads i below in
        let far = ap (λ (l : Label). l.count) (same (slice_index lasts i) on.beyond on.within) in
        let here = ap (λ (l : Label). l.count) (same begin is.above (omega (arith, is.within, on.within))) in
        record {
          above = is.above;
          within = is.within;
          level = here ∙ is.level ∙ sym far;
          none_before = λ k above inside level.
              is.none_before k above inside (sym (ap (λ (l : Label). l.count) (same k above inside)) ∙ level ∙ far);
        }

    -- all points from there to the farthest have as few left
    module _ (begin : ℕ) (is : IsWindowBegin size lasts labels i begin) where
      pub in_window : (k : ℕ) → begin ≤ k → k ≤ slice_index lasts i → count k ≡ count (slice_index lasts i)
      in_window k above near =
          let on = leads i below in
          omega (
            arith,
            is.level,
            known.falling begin k (omega (arith, is.above)) above (omega (arith, on.within)),
            known.falling k (slice_index lasts i) (omega (arith, is.above)) near on.within,
          )

      -- so the cheapest of the segments to them has the right label
      pub right_in_window : (label : Label) (next : ℕ) → begin ≤ next → next ≤ slice_index lasts i → label ≡ label_by cost labels i next
          → ((k : ℕ) → begin ≤ k → k ≤ slice_index lasts i → label.cost ≤ (label_by cost labels i k).cost)
          → IsRight (IsUpToLast lasts) cost labels i label
      right_in_window label next above near by cheapest = record {
        next = next;
        leads = record { allowed = (omega (arith, is.above), near); by_step = by };
        least = λ k up.
            let on = leads i below in
            let here : label.count ≡ count next + 1 = ap (λ (l : Label). l.count) by in
            let level = in_window next above near in
            let low = known.falling k (slice_index lasts i) (omega (arith, up.0)) up.1 on.within in
            elim (cases_eq (count k) (count (slice_index lasts i))) [
              | inl as_low ↦
                  let inside : begin ≤ k = is.none_before k up.0 (omega (arith, on.within, up.1)) as_low in
                  as_few (omega arith) (cheapest k inside up.1)
              | inr more ↦ fewer (omega arith)
            ];
      }

-- The intersection of two cones that hold one way.
use Rattle.std.proofs.Common.{◌≡◌, ◌⊎◌, inl, inr, ◌↔◌, ℤ, pos, ◌+ℤ◌, ◌*ℤ◌, ◌≤ℤ◌, ◌<ℤ◌, subst, sym, refl, ◌∙◌, arith}
use Rattle.std.proofs.lemmas.Int.{ints}
use Rattle.std.proofs.Math.IntN.{*ℤ_comm}
use Rattle.path_cones.specs.Cones.{cross_of}
use Rattle.path_cones.specs.Inner.Cones.{IsBetween, IsInside}
use Rattle.path_cones.specs.declared.vector.Vector.{Vector}
use Rattle.path_cones.proofs.Turning.{four, straight_on}
use Rattle.path_cones.proofs.Signs.{product_at_least, product_positive, factor_at_least, factor_positive}

-- s = c * d + e * f, and that is a * b
pub first_factor : (a b c d e f : ℤ) → c *ℤ d +ℤ e *ℤ f ≡ a *ℤ b
    → pos 0 <ℤ b → pos 0 ≤ℤ c → pos 0 ≤ℤ d → pos 0 ≤ℤ e → pos 0 ≤ℤ f → pos 0 ≤ℤ a
first_factor a b c d e f is hb hc hd he hf =
    let s = product_at_least c d hc hd in
    let t = product_at_least e f he hf in
    let P : ℤ → Type 0 = λ z. pos 0 ≤ℤ z in
    let sum : pos 0 ≤ℤ (c *ℤ d +ℤ e *ℤ f) = omega (arith, ints) in
    factor_at_least a b (subst P is sum) hb

first_positive : (a b c d e f : ℤ) → c *ℤ d +ℤ e *ℤ f ≡ a *ℤ b
    → pos 0 ≤ℤ b → pos 0 ≤ℤ c → pos 0 ≤ℤ d → pos 0 <ℤ e → pos 0 <ℤ f → pos 0 <ℤ a
first_positive a b c d e f is hb hc hd he hf =
    let s = product_at_least c d hc hd in
    let t = product_positive e f he hf in
    let P : ℤ → Type 0 = λ z. pos 0 <ℤ z in
    let sum : pos 0 <ℤ (c *ℤ d +ℤ e *ℤ f) = omega (arith, ints) in
    factor_positive a b (subst P is sum) hb

commuted : (a b s : ℤ) → s ≡ a *ℤ b → s ≡ b *ℤ a
commuted a b s e = e ∙ *ℤ_comm a b

second_positive : (a b c d e f : ℤ) → c *ℤ d +ℤ e *ℤ f ≡ b *ℤ a
    → pos 0 ≤ℤ b → pos 0 ≤ℤ c → pos 0 ≤ℤ d → pos 0 <ℤ e → pos 0 <ℤ f → pos 0 <ℤ a
second_positive a b c d e f is = first_positive a b c d e f (commuted b a (c *ℤ d +ℤ e *ℤ f) is)

swapped : (c d e f r : ℤ) → c *ℤ d +ℤ e *ℤ f ≡ r → e *ℤ f +ℤ c *ℤ d ≡ r
swapped c d e f r is = omega (arith, ints)

-- the lower border that is kept, and how the others stand to it
pub record IsLow (low own result high own_high : Vector) : Type 0 where
  pub one : (result ≡ low) ⊎ (result ≡ own)
  pub after_low : pos 0 ≤ℤ cross_of low result
  pub after_own : pos 0 ≤ℤ cross_of own result
  pub left : pos 0 <ℤ cross_of result high
  pub own_left : pos 0 <ℤ cross_of result own_high

pub record IsHigh (low own result high own_high : Vector) : Type 0 where
  pub one : (result ≡ high) ⊎ (result ≡ own_high)
  pub before_high : pos 0 ≤ℤ cross_of result high
  pub before_own : pos 0 ≤ℤ cross_of result own_high
  pub left : pos 0 <ℤ cross_of low result
  pub own_left : pos 0 <ℤ cross_of own result

module _ (low high own own_high way : Vector)
    (left : pos 0 <ℤ cross_of low high) (own_left : pos 0 <ℤ cross_of own own_high)
    (held : IsBetween low high way) (inside : IsInside own own_high way) where
  low_own : pos 0 ≤ℤ cross_of low own → IsLow low own own high own_high
  low_own h = record {
    one = inr refl;
    after_low = h;
    after_own = straight_on own;
    left = second_positive (cross_of own high) (cross_of low way)
        (cross_of low own) (cross_of way high) (cross_of low high) (cross_of own way)
        (four low own way high)
        held.after_low h held.before_high left inside.after_low;
    own_left = own_left;
  }

  low_old : pos 0 <ℤ cross_of own low → IsLow low own low high own_high
  low_old h = record {
    one = inl refl;
    after_low = straight_on low;
    after_own = omega (arith, ints);
    left = left;
    own_left = second_positive (cross_of low own_high) (cross_of own way)
        (cross_of own own_high) (cross_of low way) (cross_of own low) (cross_of way own_high)
        (swapped (cross_of own low) (cross_of way own_high) (cross_of own own_high) (cross_of low way)
        (cross_of own way *ℤ cross_of low own_high) (four own low way own_high))
        (omega (arith, ints)) (omega (arith, ints)) held.after_low h inside.before_high;
  }

  high_own : pos 0 ≤ℤ cross_of own_high high → IsHigh low own own_high high own_high
  high_own h = record {
    one = inr refl;
    before_high = h;
    before_own = straight_on own_high;
    left = first_positive (cross_of low own_high) (cross_of way high)
        (cross_of low way) (cross_of own_high high) (cross_of low high) (cross_of way own_high)
        (four low way own_high high)
        held.before_high held.after_low h left inside.before_high;
    own_left = own_left;
  }

  high_old : pos 0 <ℤ cross_of high own_high → IsHigh low own high high own_high
  high_old h = record {
    one = inl refl;
    before_high = straight_on high;
    before_own = omega (arith, ints);
    left = left;
    own_left = first_positive (cross_of own high) (cross_of way own_high)
        (cross_of own own_high) (cross_of way high) (cross_of own way) (cross_of high own_high)
        (swapped (cross_of own way) (cross_of high own_high) (cross_of own own_high) (cross_of way high)
        (cross_of own high *ℤ cross_of way own_high) (four own way high own_high))
        (omega (arith, ints)) (omega (arith, ints)) held.before_high inside.after_low h;
  }

-- what lies in the cone of the two kept borders lies after each lower border
after : (border low high way : Vector) → pos 0 ≤ℤ cross_of border low → pos 0 ≤ℤ cross_of border high
    → pos 0 <ℤ cross_of low high → IsBetween low high way → pos 0 ≤ℤ cross_of border way
after border low high way h k left held =
    first_factor (cross_of border way) (cross_of low high)
    (cross_of border low) (cross_of way high) (cross_of border high) (cross_of low way)
    (four border low way high) left h held.before_high k held.after_low

-- and before each higher one
before : (border low high way : Vector) → pos 0 ≤ℤ cross_of low border → pos 0 ≤ℤ cross_of high border
    → pos 0 <ℤ cross_of low high → IsBetween low high way → pos 0 ≤ℤ cross_of way border
before border low high way h k left held =
    first_factor (cross_of way border) (cross_of low high)
    (cross_of low way) (cross_of high border) (cross_of low border) (cross_of way high)
    (commuted (cross_of low high) (cross_of way border)
    (cross_of low way *ℤ cross_of high border +ℤ cross_of low border *ℤ cross_of way high)
    (four low way high border)) left held.after_low k h held.before_high

weaker : (z : ℤ) → pos 0 <ℤ z → pos 0 ≤ℤ z
weaker z h = omega (arith, ints)

-- the cone of the kept borders is the intersection
pub record IsIntersection (low high own own_high new_low new_high : Vector) : Type 0 where
  pub left : pos 0 <ℤ cross_of new_low new_high
  pub holds : (way : Vector) → IsBetween new_low new_high way
      ↔ (IsBetween low high way × IsBetween own own_high way)

module _ (low high own own_high new_low new_high : Vector)
    (lower : IsLow low own new_low high own_high) (upper : IsHigh low own new_high high own_high) where
  kept_left : pos 0 <ℤ cross_of new_low new_high
  kept_left =
      let P : Vector → Type 0 = λ o. pos 0 <ℤ cross_of o new_high in
      elim lower.one [ inl e ↦ subst P (sym e) upper.left | inr e ↦ subst P (sym e) upper.own_left ]

  in_both : (way : Vector) → IsBetween new_low new_high way
      → IsBetween low high way × IsBetween own own_high way
  in_both way held = (
    record {
      goes = held.goes;
      after_low = after low new_low new_high way lower.after_low (weaker _ upper.left) kept_left held;
      before_high = before high new_low new_high way (weaker _ lower.left) upper.before_high kept_left held;
    },
    record {
      goes = held.goes;
      after_low = after own new_low new_high way lower.after_own (weaker _ upper.own_left) kept_left held;
      before_high = before own_high new_low new_high way (weaker _ lower.own_left) upper.before_own kept_left held;
    },
  )

  in_new : (way : Vector) → IsBetween low high way × IsBetween own own_high way
      → IsBetween new_low new_high way
  in_new way both =
      let P : Vector → Type 0 = λ o. pos 0 ≤ℤ cross_of o way in
      let Q : Vector → Type 0 = λ o. pos 0 ≤ℤ cross_of way o in
      record {
        goes = both.0.goes;
        after_low = elim lower.one [ inl e ↦ subst P (sym e) both.0.after_low | inr e ↦ subst P (sym e) both.1.after_low ];
        before_high = elim upper.one [ inl e ↦ subst Q (sym e) both.0.before_high | inr e ↦ subst Q (sym e) both.1.before_high ];
      }

  meets : IsIntersection low high own own_high new_low new_high
  meets = record { left = kept_left; holds = λ way. (in_both way, in_new way) }

-- one border is kept of each two: the own one where it is at least as far inside
abbrev pub IsKeptLow : Vector → Vector → Vector → Type 0
IsKeptLow low own new = ((new ≡ own) × (pos 0 ≤ℤ cross_of low own)) ⊎ ((new ≡ low) × (cross_of low own <ℤ pos 0))

abbrev pub IsKeptHigh : Vector → Vector → Vector → Type 0
IsKeptHigh high own new = ((new ≡ own) × (pos 0 ≤ℤ cross_of own high)) ⊎ ((new ≡ high) × (cross_of own high <ℤ pos 0))

flipped : (a b : Vector) → cross_of a b <ℤ pos 0 → pos 0 <ℤ cross_of b a
flipped a b h = omega (arith, ints)

pub intersection : (low high own own_high new_low new_high way : Vector)
    → pos 0 <ℤ cross_of low high → pos 0 <ℤ cross_of own own_high
    → IsBetween low high way → IsInside own own_high way
    → IsKeptLow low own new_low → IsKeptHigh high own_high new_high
    → IsIntersection low high own own_high new_low new_high
intersection low high own own_high new_low new_high way left own_left held inside kept_low kept_high =
    let P : Vector → Type 0 = λ o. IsLow low own o high own_high in
    let Q : Vector → Type 0 = λ o. IsHigh low own o high own_high in
    let lower : P new_low = elim kept_low [
      | inl e ↦ subst P (sym e.0) (low_own low high own own_high way left own_left held inside e.1)
      | inr e ↦ subst P (sym e.0) (low_old low high own own_high way left own_left held inside (flipped low own e.1))
    ] in
    let upper : Q new_high = elim kept_high [
      | inl e ↦ subst Q (sym e.0) (high_own low high own own_high way left own_left held inside e.1)
      | inr e ↦ subst Q (sym e.0) (high_old low high own own_high way left own_left held inside (flipped own_high high e.1))
    ] in
    meets low high own own_high new_low new_high lower upper

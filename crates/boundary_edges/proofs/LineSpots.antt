-- Where the edges of a corner stand beside those of the next one, and which of them lies along the line between the two.
use Rattle.std.proofs.Common.{◌≡◌, ◌≢◌, ℕ, suc, ◌+◌, ◌-◌, ◌*◌, ◌/◌, ◌%◌, ◌^◌, ◌<◌, ◌≤◌, ℤ, pos, negsuc, ◌≤ℤ◌, nat_abs, true, false, not, ◌&&◌, ◌⊎◌, cond, min, max, nat_eq, List, length, get_or, w32, w64, to_z, of_z, refl, ap, sym, subst, ◌∙◌, inl, inr, arith}
use Rattle.std.specs.Int.{trailing_zeros}
use Rattle.std.specs.Int.RustNames.{bit_and}
use Rattle.std.proofs.lemmas.Nat.{and_le_r}
use Rattle.std.proofs.lemmas.Nat.Bits.{bit_at-trailing_zeros}
use Rattle.std.proofs.lemmas.Bool.Decides.{nat_tests}
use Rattle.bit_image.specs.Words.{is_one}
use Rattle.bit_image.proofs.Bits.{is_one-and, is_one-zero, and_true}
use Rattle.bit_image.proofs.Turned.{is_one-shr, is_one-shl, is_one-shl_below}
use Rattle.std.proofs.Math.Nat.{mod-eq_of_lt, mod_self}
use Rattle.std.proofs.lemmas.Int.{ints}
use Rattle.std.proofs.lemmas.Bool.{cases_lt, cases_eq, eq-eqb, eqb-true, ne_eqb, and_parts, false≢true}
use Rattle.pt_core.specs.ClosedWalk.{origin, IsNextTo, IsUnitStep, IsClosedWalk}
use Rattle.pt_core.specs.declared.point.Point.{Point}
use Rattle.boundary_edges.specs.declared.strips.Spot.{Spot}
use Rattle.boundary_edges.specs.GridEdges.{upright, level}
use Rattle.boundary_edges.specs.Inside.{line_at, line_between}
use Rattle.boundary_edges.specs.Inner.Blocks.{AreBlocks}
use Rattle.boundary_edges.specs.Inner.BoundaryBits.{same_edge, is_along, FitsStrips, HasSpot, IsSpot}
use Rattle.boundary_edges.proofs.EdgeBits.{no_bit}

-- the lowest 1 of a word
lowest_one : (word : ℕ) → 0 < word → word < 2 ^ 64 → (trailing_zeros w64 word < 64) × (is_one word (trailing_zeros w64 word) ≡ true)
unfolding is_one
lowest_one word some fits =
    let lowest = bit_at-trailing_zeros w64 word some fits in
    (lowest.0, ap (λ n. nat_eq n 1) lowest.1)

-- a word's bit, read by a word in which only that one is 1
pub bit_met : (word bit k : ℕ) → bit < 2 ^ 64 → k < 64 → ((i : ℕ) → i < 64 → is_one bit i ≡ nat_eq k i) → not (nat_eq (bit_and word bit) 0) ≡ is_one word k
bit_met word bit k fits short one =
    let both : (i : ℕ) → i < 64 → is_one (bit_and word bit) i ≡ is_one word i && nat_eq k i = λ i p. is_one-and word bit i ∙ ap (λ t. is_one word i && t) (one i p) in
    let here : is_one (bit_and word bit) k ≡ is_one word k = both k short ∙ ap (λ t. is_one word k && t) (eq-eqb k k refl) ∙ and_true (is_one word k) in
    elim (cases_eq (bit_and word bit) 0) [
      | inl none ↦
          ap not (eq-eqb (bit_and word bit) 0 none)
          ∙ sym (sym here ∙ ap (λ n. is_one n k) none ∙ is_one-zero k)
      | inr some ↦
          let lowest = lowest_one (bit_and word bit) (omega (arith, some)) (omega (arith, fits, and_le_r word bit)) in
          let parts = and_parts (is_one word (trailing_zeros w64 (bit_and word bit))) (nat_eq k (trailing_zeros w64 (bit_and word bit))) (sym (both _ lowest.0) ∙ lowest.1) in
          ap not (ne_eqb (bit_and word bit) 0 some)
          ∙ sym (ap (is_one word) (eqb-true k _ parts.1) ∙ parts.0)
    ]

-- the only 1 of a word moves by one place, where it doesn't leave the word
pub bit_right : (bit x : ℕ) → 0 < bit * 2 ^ 1 % 2 ^ 64 → ((i : ℕ) → i < 64 → is_one bit i ≡ nat_eq (x % 64) i)
    → ((x + 1) / 64 ≡ x / 64) × ((i : ℕ) → i < 64 → is_one (bit * 2 ^ 1 % 2 ^ 64) i ≡ nat_eq ((x + 1) % 64) i)
bit_right bit x some one =
    let t : ℕ = trailing_zeros w64 (bit * 2 ^ 1 % 2 ^ 64) in
    let lowest = lowest_one (bit * 2 ^ 1 % 2 ^ 64) some (omega arith) in
    let above : 1 ≤ t = elim (cases_lt t 1) [ inl low ↦ absurd (false≢true (sym (is_one-shl_below bit 1 t lowest.0 low) ∙ lowest.1)) | inr up ↦ up ] in
    let at : x % 64 ≡ t - 1 = eqb-true (x % 64) (t - 1) (sym (one (t - 1) (omega (arith, lowest.0))) ∙ sym (is_one-shl bit 1 t lowest.0 above) ∙ lowest.1) in
    let next : (x + 1) % 64 ≡ x % 64 + 1 = omega (arith, lowest.0, above, at) in (
      omega (arith, next),
      λ i short. elim (cases_lt i 1) [
        | inl low ↦ is_one-shl_below bit 1 i short low ∙ sym (ne_eqb ((x + 1) % 64) i (λ e. omega (arith, next, e, low)))
        | inr up ↦ is_one-shl bit 1 i short up ∙ one (i - 1) (omega arith) ∙ same_after (x % 64) ((x + 1) % 64) i next up
      ],
    )
  where
    same_after : (a b i : ℕ) → b ≡ a + 1 → 1 ≤ i → nat_eq a (i - 1) ≡ nat_eq b i
    same_after a b i next up = grind (arith, nat_tests)

pub bit_left : (bit x : ℕ) → 0 < bit / 2 ^ 1 → bit < 2 ^ 64 → ((i : ℕ) → i < 64 → is_one bit i ≡ nat_eq (x % 64) i)
    → ((x - 1) / 64 ≡ x / 64) × ((i : ℕ) → i < 64 → is_one (bit / 2 ^ 1) i ≡ nat_eq ((x - 1) % 64) i)
bit_left bit x some fits one =
    let t : ℕ = trailing_zeros w64 (bit / 2 ^ 1) in
    let lowest = lowest_one (bit / 2 ^ 1) some (omega arith) in
    let here : is_one bit (1 + t) ≡ true = sym (is_one-shr bit 1 t) ∙ lowest.1 in
    let inside : 1 + t < 64 = elim (cases_lt (1 + t) 64) [ inl low ↦ low | inr up ↦ absurd (false≢true (sym (no_bit bit 64 (1 + t) fits up) ∙ here)) ] in
    let at : x % 64 ≡ 1 + t = eqb-true (x % 64) (1 + t) (sym (one (1 + t) inside) ∙ here) in
    let next : x % 64 ≡ (x - 1) % 64 + 1 = omega (arith, at, inside) in (
      omega (arith, at),
      λ i short. elim (cases_lt (1 + i) 64) [
        | inl low ↦ is_one-shr bit 1 i ∙ one (1 + i) low ∙ same_before (x % 64) ((x - 1) % 64) i next
        | inr up ↦ is_one-shr bit 1 i ∙ no_bit bit 64 (1 + i) fits up ∙ sym (ne_eqb ((x - 1) % 64) i (λ e. omega (arith, next, e, up)))
      ],
    )
  where
    same_before : (a b i : ℕ) → a ≡ b + 1 → nat_eq a (1 + i) ≡ nat_eq b i
    same_before a b i next = grind (arith, nat_tests)

-- a coordinate is passed as it is
pub word_back : (z : ℤ) → pos 0 ≤ℤ z → nat_abs z + 3 < 2 ^ 16 → to_z w32 (of_z w32 z) ≡ z
word_back z low high = omega (arith, ints)

-- one step further, of coordinates that aren't below 0
pub next_natural : (a c : ℤ) → pos 0 ≤ℤ a → pos 0 ≤ℤ c → IsNextTo a c → (nat_abs a ≡ suc (nat_abs c)) ⊎ (nat_abs c ≡ suc (nat_abs a))
next_natural (pos a) (pos c) ha hc (inl right) = inr (omega (arith, ints))
next_natural (pos a) (pos c) ha hc (inr left) = inl (omega (arith, ints))
next_natural (negsuc a) c ha hc next = absurd (omega (arith, ints))
next_natural (pos a) (negsuc c) ha hc next = absurd (omega (arith, ints))

-- the line goes on up or down, or along the row
pub unit_parts : (rows size : ℕ) (p q : Point) → FitsStrips rows size p → FitsStrips rows size q → IsUnitStep p q
    → ((nat_abs p.x ≡ nat_abs q.x) × ((nat_abs p.y ≡ suc (nat_abs q.y)) ⊎ (nat_abs q.y ≡ suc (nat_abs p.y)))) ⊎ ((nat_abs p.y ≡ nat_abs q.y) × ((nat_abs p.x ≡ suc (nat_abs q.x)) ⊎ (nat_abs q.x ≡ suc (nat_abs p.x))))
unit_parts rows size p q hp hq (inl along) = inr (ap nat_abs along.0, next_natural p.x q.x hp.right hq.right along.1)
unit_parts rows size p q hp hq (inr up) = inl (ap nat_abs up.0, next_natural p.y q.y hp.above hq.above up.1)

pub spot_same : (rows : ℕ) (starts : List ℕ) (x y u v : ℕ) (spot : Spot) → IsSpot rows starts x y spot → x ≡ u → y ≡ v → IsSpot rows starts u v spot
spot_same rows starts x y u v spot is column row = subst (λ n. IsSpot rows starts u n spot) row (subst (λ n. IsSpot rows starts n y spot) column is)

-- a corner with room has a spot
pub has_spot : (rows : ℕ) (starts words : List ℕ) (p : Point) (x y : ℕ) → rows < 2 ^ 16 → AreBlocks starts words → FitsStrips rows (16 * length starts) p → nat_abs p.x + 3 ≡ x → nat_abs p.y + 3 ≡ y → HasSpot rows starts x y
has_spot rows starts words p x y few blocks fits column row =
    subst (λ n. HasSpot rows starts n y) column
    (subst (λ n. HasSpot rows starts (nat_abs p.x + 3) n) row
    (record { few = few; column = fits.column; row = fits.row; room = fits.room; start = blocks.start }))

-- of the two corners of a line one is farther to the right and up
pub farther_has_spot : (rows : ℕ) (starts words : List ℕ) (p q : Point) (x y : ℕ) → rows < 2 ^ 16 → AreBlocks starts words → FitsStrips rows (16 * length starts) p → FitsStrips rows (16 * length starts) q → IsUnitStep p q
    → max (nat_abs p.x) (nat_abs q.x) + 3 ≡ x → max (nat_abs p.y) (nat_abs q.y) + 3 ≡ y → HasSpot rows starts x y
farther_has_spot rows starts words p q x y few blocks hp hq step column row = elim (unit_parts rows (16 * length starts) p q hp hq step) [
  | inl up ↦ elim up.1 [
    | inl down ↦ has_spot rows starts words p x y few blocks hp (omega (arith, column, up.0)) (omega (arith, row, down))
    | inr rise ↦ has_spot rows starts words q x y few blocks hq (omega (arith, column, up.0)) (omega (arith, row, rise))
  ]
  | inr along ↦ elim along.1 [
    | inl left ↦ has_spot rows starts words p x y few blocks hp (omega (arith, column, left)) (omega (arith, row, along.0))
    | inr right ↦ has_spot rows starts words q x y few blocks hq (omega (arith, column, right)) (omega (arith, row, along.0))
  ]
]

spot_up : (a b d k u v : ℕ) → (b ≡ suc d) ⊎ (d ≡ suc b) → (c : ℕ) → a ≡ c → same_edge 0 (max a c + 3) (max b d + 3) k u v ≡ is_along k u v (line_at a b c d)
spot_up a b d k u v next c same =
    let column : max a c + 3 ≡ a + 3 = omega arith in
    let row : max b d + 3 ≡ min b d + 4 = elim next [ inl down ↦ omega arith | inr up ↦ omega arith ] in
    ap (λ n. same_edge 0 n (max b d + 3) k u v) column ∙ ap (λ n. same_edge 0 (a + 3) n k u v) row
    ∙ sym (ap (λ t. is_along k u v (cond t (upright a (min b d)) (level (min a c) b))) (eq-eqb a c same))

spot_level : (a b c d k u v : ℕ) → (a ≡ suc c) ⊎ (c ≡ suc a) → b ≡ d → same_edge 1 (max a c + 3) (max b d + 3) k u v ≡ is_along k u v (line_at a b c d)
spot_level a b c d k u v next same =
    let column : max a c + 3 ≡ min a c + 4 = elim next [ inl left ↦ omega arith | inr right ↦ omega arith ] in
    let row : max b d + 3 ≡ b + 3 = omega arith in
    let apart : nat_eq a c ≡ false = ne_eqb a c (λ e. elim next [ inl left ↦ omega arith | inr right ↦ omega arith ]) in
    ap (λ n. same_edge 1 n (max b d + 3) k u v) column ∙ ap (λ n. same_edge 1 (min a c + 4) n k u v) row
    ∙ sym (ap (λ t. is_along k u v (cond t (upright a (min b d)) (level (min a c) b))) apart)

-- the edge of the kind that the two columns tell is that along the line
pub spot_is : (rows size : ℕ) (p q : Point) (kind k u v : ℕ) → FitsStrips rows size p → FitsStrips rows size q → IsUnitStep p q → (nat_abs p.x ≡ nat_abs q.x → kind ≡ 0) → (nat_eq (nat_abs p.x) (nat_abs q.x) ≡ false → kind ≡ 1)
    → same_edge kind (max (nat_abs p.x) (nat_abs q.x) + 3) (max (nat_abs p.y) (nat_abs q.y) + 3) k u v ≡ is_along k u v (line_between p q)
spot_is rows size p q kind k u v hp hq (inr up) zero_is one_is =
    let same : nat_abs p.x ≡ nat_abs q.x = ap nat_abs up.0 in
    ap (λ n. same_edge n (max (nat_abs p.x) (nat_abs q.x) + 3) (max (nat_abs p.y) (nat_abs q.y) + 3) k u v) (zero_is same)
    ∙ spot_up (nat_abs p.x) (nat_abs p.y) (nat_abs q.y) k u v (next_natural p.y q.y hp.above hq.above up.1) (nat_abs q.x) same
spot_is rows size p q kind k u v hp hq (inl along) zero_is one_is =
    let next = next_natural p.x q.x hp.right hq.right along.1 in
    let apart : nat_eq (nat_abs p.x) (nat_abs q.x) ≡ false = ne_eqb (nat_abs p.x) (nat_abs q.x) (λ e. elim next [ inl left ↦ omega arith | inr right ↦ omega arith ]) in
    ap (λ n. same_edge n (max (nat_abs p.x) (nat_abs q.x) + 3) (max (nat_abs p.y) (nat_abs q.y) + 3) k u v) (one_is apart)
    ∙ spot_level (nat_abs p.x) (nat_abs p.y) (nat_abs q.x) (nat_abs q.y) k u v next (ap nat_abs along.0)

pub step_at : (points : List Point) (k : ℕ) → IsClosedWalk points → suc k < length points → IsUnitStep (get_or points k origin) (get_or points (suc k) origin)
step_at points k closed short =
    subst (λ j. IsUnitStep (get_or points j origin) (get_or points (suc k) origin)) (mod-eq_of_lt {n = k} {m = length points} (omega arith))
    (subst (λ j. IsUnitStep (get_or points (k % length points) origin) (get_or points j origin)) (mod-eq_of_lt {n = suc k} {m = length points} short) (closed.steps k))

pub step_last : (points : List Point) (k : ℕ) → IsClosedWalk points → suc k ≡ length points → IsUnitStep (get_or points k origin) (get_or points 0 origin)
step_last points k closed last =
    subst (λ j. IsUnitStep (get_or points j origin) (get_or points 0 origin)) (mod-eq_of_lt {n = k} {m = length points} (omega arith))
    (subst (λ j. IsUnitStep (get_or points (k % length points) origin) (get_or points j origin)) (ap (λ n. n % length points) last ∙ mod_self (length points)) (closed.steps k))

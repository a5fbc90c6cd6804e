-- Eight pixels side by side, told by the edges between them.
use Rattle.std.proofs.Common.{◌≡◌, ℕ, zero, suc, ◌+◌, ◌-◌, ◌*◌, ◌%◌, ◌^◌, ◌<◌, ◌≤◌, Bool, true, false, ◌&&◌, ◌||◌, nat_le, List, refl, ap, sym, ◌∙◌, inl, inr, arith}
use mir.Val.{bool_byte}
use Rattle.std.specs.Int.RustNames.{bit_and, bit_or, bit_xor}
use Rattle.std.proofs.lemmas.Bool.{cases_lt, le-leb, lt-leb}
use Rattle.bit_image.specs.Image.{Image, differ}
use Rattle.bit_image.specs.Words.{is_one}
use Rattle.bit_image.proofs.Bits.{is_one-xor, is_one-and, is_one-mask, is_one-zero, within-inside, and_true}
use Rattle.bit_image.proofs.Turned.{is_one-or, is_one-shl, is_one-shl_below}
use Rattle.turn_policies.specs.Majority.{behind}
use Rattle.boundary_edges.specs.Inner.BoundaryBits.{has_edge, AreEdgesOf}
use Rattle.boundary_edges.proofs.Differ.{differ-false, differ_link, differ_same, differ_assoc}
use Rattle.boundary_edges.proofs.Bounded.{behind-pixel}
use Rattle.boundary_edges.proofs.EdgeBits.{no_bit, or_false}

turned : (a b : Bool) → differ a b ≡ differ b a
turned true true = refl
turned true false = refl
turned false true = refl
turned false false = refl

bit_of : (t : Bool) → is_one (bool_byte t) 0 ≡ t
unfolding is_one
bit_of true = refl
bit_of false = refl

no_bit_of : (t : Bool) (i : ℕ) → is_one (bool_byte t) (suc i) ≡ false
no_bit_of true i = no_bit 1 1 (suc i) (omega arith) (omega arith)
no_bit_of false i = is_one-zero (suc i)

-- each bit tells a pixel from the one k columns to the left, or from white where there is none
abbrev pub TellsFrom : ℕ → ℕ → (ℕ → Bool) → Type 0
TellsFrom k word f = (i : ℕ) → i < 8 → is_one word i ≡ differ (f i) (nat_le k i && f (i - k))

pub from_one : (f : ℕ → Bool) (edges : ℕ) (first : Bool) → f 0 ≡ first → ((i : ℕ) → i < 7 → is_one edges i ≡ differ (f i) (f (suc i)))
    → TellsFrom 1 (bit_or (edges * 2 ^ 1 % 2 ^ 64) (bool_byte first)) f
from_one f edges first start between zero p =
    is_one-or (edges * 2 ^ 1 % 2 ^ 64) (bool_byte first) zero
    ∙ ap (λ t. t || is_one (bool_byte first) zero) (is_one-shl_below edges 1 zero (omega arith) (omega arith))
    ∙ bit_of first ∙ sym start ∙ sym (differ-false (f 0))
from_one f edges first start between (suc m) p =
    let before : suc m - 1 ≡ m = omega arith in
    is_one-or (edges * 2 ^ 1 % 2 ^ 64) (bool_byte first) (suc m)
    ∙ ap (λ t. is_one (edges * 2 ^ 1 % 2 ^ 64) (suc m) || t) (no_bit_of first m)
    ∙ or_false (is_one (edges * 2 ^ 1 % 2 ^ 64) (suc m))
    ∙ is_one-shl edges 1 (suc m) (omega arith) (omega arith) ∙ ap (is_one edges) before
    ∙ between m (omega arith) ∙ turned (f m) (f (suc m))
    ∙ sym (ap (λ t. differ (f (suc m)) (t && f (suc m - 1))) (le-leb 1 (suc m) (omega arith)) ∙ ap (λ n. differ (f (suc m)) (f n)) before)

twice : (k i : ℕ) → k ≤ i → nat_le k (i - k) ≡ nat_le (k + k) i
twice k i p = elim (cases_lt i (k + k)) [
  | inl less ↦ lt-leb k (i - k) (omega arith) ∙ sym (lt-leb (k + k) i less)
  | inr more ↦ le-leb k (i - k) (omega arith) ∙ sym (le-leb (k + k) i more)
]

-- one that is told from another, and this from a third
pub from_twice : (f : ℕ → Bool) (word k : ℕ) → TellsFrom k word f → TellsFrom (k + k) (bit_xor word (word * 2 ^ k % 2 ^ 64)) f
from_twice f word k tells i p =
    is_one-xor word (word * 2 ^ k % 2 ^ 64) i
    ∙ ap (λ t. differ t (is_one (word * 2 ^ k % 2 ^ 64) i)) (tells i p)
    ∙ elim (cases_lt i k) [
      | inl left ↦
          ap (differ (differ (f i) (nat_le k i && f (i - k)))) (is_one-shl_below word k i (omega arith) left)
          ∙ differ-false (differ (f i) (nat_le k i && f (i - k)))
          ∙ ap (λ t. differ (f i) (t && f (i - k))) (lt-leb k i left)
          ∙ sym (ap (λ t. differ (f i) (t && f (i - (k + k)))) (lt-leb (k + k) i (omega arith)))
      | inr right ↦
          let column : i - k - k ≡ i - (k + k) = omega arith in
          ap (λ t. differ (differ (f i) (t && f (i - k))) (is_one (word * 2 ^ k % 2 ^ 64) i)) (le-leb k i right)
          ∙ ap (differ (differ (f i) (f (i - k)))) (is_one-shl word k i (omega arith) right ∙ tells (i - k) (omega arith))
          ∙ differ_link (f i) (f (i - k)) (nat_le k (i - k) && f (i - k - k))
          ∙ ap (λ t. differ (f i) (t && f (i - k - k))) (twice k i right)
          ∙ ap (λ n. differ (f i) (nat_le (k + k) i && f n)) column
    ]

pub from_eight : (f : ℕ → Bool) (word i : ℕ) → TellsFrom 8 word f → i < 8 → is_one (bit_and word 255) i ≡ f i
from_eight f word i tells p =
    is_one-and word 255 i ∙ ap (λ t. is_one word i && t) (is_one-mask 0 8 i ∙ within-inside 0 8 i (omega arith) p) ∙ and_true (is_one word i)
    ∙ tells i p ∙ ap (λ t. differ (f i) (t && f (i - 8))) (lt-leb 8 i p) ∙ differ-false (f i)

-- ---- a square

abbrev pub relative : Image → ℕ → ℕ → ℕ → ℕ → Bool
relative b x y i j = differ (behind b 4 x y) (behind b 4 (x + i) (y + j))

pub first_relative : (b : Image) (x y : ℕ) → false ≡ differ (behind b 4 x y) (behind b 4 x (y + 0))
first_relative b x y =
    let here : y + 0 ≡ y = omega arith in
    sym (ap (λ n. differ (behind b 4 x y) (behind b 4 x n)) here ∙ differ_same (behind b 4 x y))

-- the edges between the pixels of a row tell the relative ones apart too
pub row_relative : (b : Image) (rows : ℕ) (words : List ℕ) (x y j i : ℕ) (t : Bool) → AreEdgesOf b rows words → t ≡ has_edge rows words 0 (x + i) (y + j) → t ≡ differ (relative b x y i j) (relative b x y (suc i) j)
row_relative b rows words x y j i t edges is =
    let next : suc (x + i) ≡ x + suc i = omega arith in
    is ∙ edges 0 (x + i) (y + j) (omega arith)
    ∙ ap (λ n. differ (behind b 4 (x + i) (y + j)) (behind b 4 n (y + j))) next
    ∙ sym (ap (λ s. differ s (relative b x y (suc i) j)) (turned (behind b 4 x y) (behind b 4 (x + i) (y + j)))
    ∙ differ_link (behind b 4 (x + i) (y + j)) (behind b 4 x y) (behind b 4 (x + suc i) (y + j)))

-- and so do those between the rows
pub column_relative : (b : Image) (rows : ℕ) (words : List ℕ) (x y j : ℕ) (t edge : Bool) → AreEdgesOf b rows words → t ≡ differ (behind b 4 x y) (behind b 4 x (y + j)) → edge ≡ has_edge rows words 1 x (y + j)
    → differ t edge ≡ differ (behind b 4 x y) (behind b 4 x (y + (j + 1)))
column_relative b rows words x y j t edge edges so_far is =
    let next : suc (y + j) ≡ y + (j + 1) = omega arith in
    ap (λ s. differ s edge) so_far
    ∙ ap (differ (differ (behind b 4 x y) (behind b 4 x (y + j)))) (is ∙ edges 1 x (y + j) (omega arith))
    ∙ differ_link (behind b 4 x y) (behind b 4 x (y + j)) (behind b 4 x (suc (y + j)))
    ∙ ap (λ n. differ (behind b 4 x y) (behind b 4 x n)) next

pub relative_first : (b : Image) (x y j : ℕ) (t : Bool) → t ≡ differ (behind b 4 x y) (behind b 4 x (y + j)) → relative b x y 0 j ≡ t
relative_first b x y j t is =
    let column : x + 0 ≡ x = omega arith in
    ap (λ n. differ (behind b 4 x y) (behind b 4 n (y + j))) column ∙ sym is

-- the first pixel of a square is known by one in its middle
first_by : (b : Image) (x y pixels : ℕ) (black known : Bool) → known ≡ is_one pixels 36 → black ≡ b x y → ((i j : ℕ) → i < 8 → j < 8 → is_one pixels (8 * j + i) ≡ relative b x y i j)
    → differ known black ≡ behind b 4 x y
first_by b x y pixels black known is pixel rel =
    ap (λ t. differ t black) (is ∙ rel 4 4 (omega arith) (omega arith) ∙ ap (differ (behind b 4 x y)) (behind-pixel b x y ∙ sym pixel))
    ∙ differ_assoc (behind b 4 x y) black black ∙ ap (differ (behind b 4 x y)) (differ_same black) ∙ differ-false (behind b 4 x y)

pub square_same : (b : Image) (x y pixels : ℕ) (black known : Bool) → known ≡ is_one pixels 36 → black ≡ b x y → differ known black ≡ false → ((i j : ℕ) → i < 8 → j < 8 → is_one pixels (8 * j + i) ≡ relative b x y i j)
    → (i j : ℕ) → i < 8 → j < 8 → is_one pixels (8 * j + i) ≡ behind b 4 (x + i) (y + j)
square_same b x y pixels black known is pixel right rel i j p q =
    rel i j p q ∙ ap (λ t. differ t (behind b 4 (x + i) (y + j))) (sym (first_by b x y pixels black known is pixel rel) ∙ right)

pub square_turned : (b : Image) (x y pixels : ℕ) (black known : Bool) → known ≡ is_one pixels 36 → black ≡ b x y → differ known black ≡ true → ((i j : ℕ) → i < 8 → j < 8 → is_one pixels (8 * j + i) ≡ relative b x y i j)
    → (i j : ℕ) → i < 8 → j < 8 → is_one (bit_xor pixels (2 ^ 64 - 1)) (8 * j + i) ≡ behind b 4 (x + i) (y + j)
square_turned b x y pixels black known is pixel wrong rel i j p q =
    is_one-xor pixels (2 ^ 64 - 1) (8 * j + i)
    ∙ ap (λ t. differ t (is_one (2 ^ 64 - 1) (8 * j + i))) (rel i j p q ∙ ap (λ t. differ t (behind b 4 (x + i) (y + j))) (sym (first_by b x y pixels black known is pixel rel) ∙ wrong))
    ∙ ap (differ (differ true (behind b 4 (x + i) (y + j)))) (is_one-mask 0 64 (8 * j + i) ∙ within-inside 0 64 (8 * j + i) (omega arith) (omega arith))
    ∙ both (behind b 4 (x + i) (y + j))
  where
    both : (t : Bool) → differ (differ true t) true ≡ t
    both true = refl
    both false = refl

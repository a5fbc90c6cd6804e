-- A joined curve between moved points is the moved curve.
use Rattle.std.proofs.Common.{◌≡◌, ℕ, zero, suc, Bool, true, false, cond, nat_lt, ◌+◌, ◌-◌, ◌*◌, ◌≤◌, ℤ, pos, ◌+ℤ◌, ◌*ℤ◌, ap, ◌∙◌, arith}
use Rattle.std.proofs.lemmas.Int.{ints}
use Rattle.std.proofs.Math.Path.{fun_ext}
use Rattle.std.specs.Prelude.{unsigned_abs}
use Rattle.pt_core.specs.Floor.{floor_of}
use Rattle.pt_core.specs.declared.point.Point.{Point}
use Rattle.pt_core.proofs.Terms.{same_value}
use Rattle.pt_core.proofs.Terms.Term.{num, plus, times}
use Rattle.curve_join.specs.Cubic.{cubic, cubic_of, led, place_at, quadratic, slant_at, touching_of, touching_part}
use Rattle.curve_join.specs.Least.{least_at}
use Rattle.curve_join.specs.Vector.{vector_cross, way_of}
use Rattle.curve_join.specs.declared.cubic.Cubic.{Cubic}
use Rattle.curve_join.specs.declared.vector.Displacement.{Displacement}
use Rattle.outline_copies.specs.Moved.{moved_by}
use Rattle.outline_copies.proofs.Bends.{way_stays}
use Rattle.outline_copies.proofs.Floors.{part_moved}
use Rattle.outline_copies.proofs.Pieces.{onward}

-- ---- the curve

abbrev pub cubic_moved : ℤ → ℤ → Cubic → Cubic
cubic_moved right up c = record {
  start = moved_by right up c.start;
  first = moved_by right up c.first;
  second = moved_by right up c.second;
  end = moved_by right up c.end;
}

pub led_moved : (right up : ℤ) (p : Point) (v : Displacement) (top : ℤ) (bottom : ℕ) → led (moved_by right up p) v top bottom ≡ moved_by right up (led p v top bottom)
led_moved right up p v top bottom =
    let x = onward p.x (floor_of (top *ℤ v.x) bottom) right in
    let y = onward p.y (floor_of (top *ℤ v.y) bottom) up in
    λ i. record { x = x i; y = y i }

pub cubic_of_moved : (right up : ℤ) (start meeting end : Point) (alpha : ℕ)
    → cubic_of (moved_by right up start) (moved_by right up meeting) (moved_by right up end) alpha ≡ cubic_moved right up (cubic_of start meeting end alpha)
unfolding cubic_of
cubic_of_moved right up start meeting end alpha =
    let first = ap (λ w. led (moved_by right up start) w (pos alpha) 65536) (way_stays right up start meeting) ∙ led_moved right up start (way_of start meeting) (pos alpha) 65536 in
    let second = ap (λ w. led (moved_by right up end) w (pos alpha) 65536) (way_stays right up end meeting) ∙ led_moved right up end (way_of end meeting) (pos alpha) 65536 in
    λ i. record { start = moved_by right up start; first = first i; second = second i; end = moved_by right up end }

-- ---- the point at which the curve is most parallel to a way

same_slant : (right up : ℤ) (c : Cubic) (g : Displacement) (u : ℕ) → slant_at (cubic_moved right up c) g u ≡ slant_at c g u
same_slant right up c g u =
    let first = way_stays right up c.start c.first in
    let second = way_stays right up c.first c.second in
    let third = way_stays right up c.second c.end in
    λ i. unsigned_abs (vector_cross (record { x = quadratic u (first i).x (second i).x (third i).x; y = quadratic u (first i).y (second i).y (third i).y }) g)

same_part : (right up : ℤ) (c : Cubic) (g : Displacement) → touching_part (cubic_moved right up c) g ≡ touching_part c g
unfolding touching_part
same_part right up c g = ap (λ f. least_at f 64) (fun_ext (same_slant right up c g))

-- the parameter is at most 64
either_within : (is_less : Bool) (m n most : ℕ) → m ≤ most → n ≤ most → cond is_less m n ≤ most
either_within true m n most h k = h
either_within false m n most h k = k

least_within : (f : ℕ → ℕ) (n : ℕ) → least_at f n ≤ n
unfolding least_at
least_within f zero = omega arith
least_within f (suc n) =
    either_within (nat_lt (f (suc n)) (f (least_at f n))) (suc n) (least_at f n) (suc n) (omega arith) (let h = least_within f n in omega arith)

part_within : (c : Cubic) (g : Displacement) → touching_part c g ≤ 64
unfolding touching_part
part_within c g = least_within (slant_at c g) 64

-- the weights of a cubic curve add up to 64 * 64 * 64
weights : (u v : ℕ) → u + v ≡ 64 → ((v * v * v + 3 * u * v * v) + 3 * u * u * v) + u * u * u ≡ 262144
weights u v e =
    let cube : (u + v) * (u + v) * (u + v) ≡ 262144 = ap (λ n. n * n * n) e in
    omega arith

weighted : (k l m n a b c d move : ℤ)
    → ((k *ℤ (a +ℤ move) +ℤ l *ℤ (b +ℤ move)) +ℤ m *ℤ (c +ℤ move)) +ℤ n *ℤ (d +ℤ move)
    ≡ (((k *ℤ a +ℤ l *ℤ b) +ℤ m *ℤ c) +ℤ n *ℤ d) +ℤ (((k +ℤ l) +ℤ m) +ℤ n) *ℤ move
weighted k l m n a b c d move = same_value
    (plus (plus (plus (times (num k) (plus (num a) (num move))) (times (num l) (plus (num b) (num move)))) (times (num m) (plus (num c) (num move)))) (times (num n) (plus (num d) (num move))))
    (plus (plus (plus (plus (times (num k) (num a)) (times (num l) (num b))) (times (num m) (num c))) (times (num n) (num d)))
    (times (plus (plus (plus (num k) (num l)) (num m)) (num n)) (num move)))
    (omega arith)

one_whole : (k l m n : ℕ) → ((k + l) + m) + n ≡ 262144 → ((pos k +ℤ pos l) +ℤ pos m) +ℤ pos n ≡ pos 262144
one_whole k l m n e = omega (arith, ints)

cubic_on : (u : ℕ) (a b c d move : ℤ) → u ≤ 64 → cubic u (a +ℤ move) (b +ℤ move) (c +ℤ move) (d +ℤ move) ≡ cubic u a b c d +ℤ pos 262144 *ℤ move
cubic_on u a b c d move h =
    let v : ℕ = 64 - u in
    let whole = one_whole (v * v * v) (3 * u * v * v) (3 * u * u * v) (u * u * u) (weights u v (omega arith)) in
    weighted (pos (v * v * v)) (pos (3 * u * v * v)) (pos (3 * u * u * v)) (pos (u * u * u)) a b c d move
    ∙ ap (λ w. cubic u a b c d +ℤ w *ℤ move) whole

place_on : (u : ℕ) (a b c d move : ℤ) → u ≤ 64
    → floor_of (cubic u (a +ℤ move) (b +ℤ move) (c +ℤ move) (d +ℤ move)) 262144 ≡ floor_of (cubic u a b c d) 262144 +ℤ move
place_on u a b c d move h = ap (λ z. floor_of z 262144) (cubic_on u a b c d move h) ∙ part_moved (cubic u a b c d) move

place_moved : (right up : ℤ) (c : Cubic) (u : ℕ) → u ≤ 64 → place_at (cubic_moved right up c) u ≡ moved_by right up (place_at c u)
place_moved right up c u h =
    let x = place_on u c.start.x c.first.x c.second.x c.end.x right h in
    let y = place_on u c.start.y c.first.y c.second.y c.end.y up h in
    λ i. record { x = x i; y = y i }

pub touching_moved : (right up : ℤ) (c : Cubic) (g : Displacement) → touching_of (cubic_moved right up c) g ≡ moved_by right up (touching_of c g)
unfolding touching_of
touching_moved right up c g =
    ap (place_at (cubic_moved right up c)) (same_part right up c g)
    ∙ place_moved right up c (touching_part c g) (part_within c g)

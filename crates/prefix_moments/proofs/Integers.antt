-- Identities over the whole numbers.
use Rattle.std.proofs.Common.{◌≡◌, ℤ, pos, ◌+ℤ◌, ◌-ℤ◌, ◌*ℤ◌, arith}
use Rattle.pt_core.proofs.Terms.{num, plus, less, times, same_value}

-- one more term of a sum of offsets
pub step_shift : (s n a c : ℤ) → (s -ℤ n *ℤ a) +ℤ (c -ℤ a) ≡ (s +ℤ c) -ℤ (n +ℤ pos 1) *ℤ a
step_shift s n a c =
    same_value (plus (less (num s) (times (num n) (num a))) (less (num c) (num a)))
    (less (plus (num s) (num c)) (times (plus (num n) (num (pos 1))) (num a)))
    (omega arith)

-- one more term of a sum of products of offsets
pub step_products : (s v o u x a b : ℤ)
    → ((s -ℤ a *ℤ v) -ℤ b *ℤ o) +ℤ (u -ℤ a) *ℤ (x -ℤ b) ≡ ((s +ℤ u *ℤ x) -ℤ a *ℤ (v +ℤ x)) -ℤ b *ℤ (o +ℤ (u -ℤ a))
step_products s v o u x a b =
    same_value
    (plus (less (less (num s) (times (num a) (num v))) (times (num b) (num o))) (times (less (num u) (num a)) (less (num x) (num b))))
    (less (less (plus (num s) (times (num u) (num x))) (times (num a) (plus (num v) (num x)))) (times (num b) (plus (num o) (less (num u) (num a)))))
    (omega arith)

-- one more term of a sum of squared cross products
pub step_spread : (xx xy yy u v p q : ℤ)
    → (((q *ℤ q) *ℤ xx -ℤ pos 2 *ℤ ((p *ℤ q) *ℤ xy)) +ℤ (p *ℤ p) *ℤ yy) +ℤ (u *ℤ q -ℤ v *ℤ p) *ℤ (u *ℤ q -ℤ v *ℤ p)
    ≡ ((q *ℤ q) *ℤ (xx +ℤ u *ℤ u) -ℤ pos 2 *ℤ ((p *ℤ q) *ℤ (xy +ℤ u *ℤ v))) +ℤ (p *ℤ p) *ℤ (yy +ℤ v *ℤ v)
step_spread xx xy yy u v p q =
    let pp = times (num p) (num p) in
    let pq = times (num p) (num q) in
    let qq = times (num q) (num q) in
    let cross = less (times (num u) (num q)) (times (num v) (num p)) in
    same_value
    (plus (plus (less (times qq (num xx)) (times (num (pos 2)) (times pq (num xy)))) (times pp (num yy))) (times cross cross))
    (plus
    (less (times qq (plus (num xx) (times (num u) (num u)))) (times (num (pos 2)) (times pq (plus (num xy) (times (num u) (num v))))))
    (times pp (plus (num yy) (times (num v) (num v)))))
    (omega arith)

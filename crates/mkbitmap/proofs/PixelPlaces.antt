-- The place of each column of the larger page, from the place of the column before.
use Rattle.std.proofs.Common.{◌≡◌, ℕ, zero, suc, ◌+◌, ◌*◌, ◌/◌, ◌%◌, ◌<◌, ◌≤◌, arith, sym, ap, ◌∙◌}
use Rattle.std.proofs.lemmas.Nat.{div-mul-add, mod-mul-add, div_below, div-add-mod', mod_below}
use Rattle.mkbitmap.specs.Enlarged.{after_of, distance_behind}

-- a place and its part add up to the position of the centre
pub placed : (times X : ℕ) → after_of times X * (2 * times) + distance_behind times X ≡ 2 * X + 1 + times
placed times X = div-add-mod' (2 * X + 1 + times) (2 * times)

pub part-below : (times X : ℕ) → 1 ≤ times → distance_behind times X < 2 * times
part-below times X h = mod_below (2 * X + 1 + times) (2 * times) (omega arith)

-- a column has only one place
pub after-is : (times X u p : ℕ) → p < 2 * times → u * (2 * times) + p ≡ 2 * X + 1 + times → after_of times X ≡ u
after-is times X u p h e = ap (λ k. k / (2 * times)) (sym e) ∙ div-mul-add u (2 * times) p h

pub part-is : (times X u p : ℕ) → p < 2 * times → u * (2 * times) + p ≡ 2 * X + 1 + times → distance_behind times X ≡ p
part-is times X u p h e = ap (λ k. k % (2 * times)) (sym e) ∙ mod-mul-add u (2 * times) p h

-- the place of a column is within the row
pub after-within : (times X end n : ℕ) → 1 ≤ times → X < end → end + 2 * times ≤ times * n → after_of times X + 1 < n
after-within times X end zero some within fits = omega arith
after-within times X end (suc m) some within fits =
    let below : after_of times X < m = div_below (2 * X + 1 + times) (2 * times) m (omega arith) (omega arith) in
    omega (arith, below)

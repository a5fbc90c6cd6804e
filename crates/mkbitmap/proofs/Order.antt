-- Lower rows of the larger page are mixed from lower rows of the page, and need lower ones, up to the last one.
use Rattle.std.proofs.Common.{◌≡◌, ℕ, suc, ◌+◌, ◌*◌, ◌<◌, ◌≤◌, arith}
use Rattle.std.proofs.lemmas.Nat.{div_below, le-div}
use Rattle.mkbitmap.specs.Enlarged.{after_of, need}
use Rattle.mkbitmap.proofs.RaisedReliefs.{need-is}
use Rattle.mkbitmap.proofs.PixelPlaces.{placed}

pub after-rises : (times X Y : ℕ) → 1 ≤ times → X ≤ Y → after_of times X ≤ after_of times Y
after-rises times X Y some order = le-div (after_of times X) (2 * Y + 1 + times) (2 * times) (omega arith) (omega (arith, placed times X))

pub after-ends : (height times Y : ℕ) → 1 ≤ times → Y < times * height → after_of times Y ≤ height
after-ends height times Y some within =
    let below : after_of times Y < suc height = div_below (2 * Y + 1 + times) (2 * times) (suc height) (omega arith) (omega arith) in
    omega (arith, below)

pub need-rises : (height radius times X Y : ℕ) → 1 ≤ times → 1 ≤ height → X ≤ Y → need height radius times X ≤ need height radius times Y
need-rises height radius times X Y some tall order =
    let rises = after-rises times X Y some order in
    omega (arith, need-is height radius times X some tall, need-is height radius times Y some tall)

pub need-ends : (height radius times Y : ℕ) → 1 ≤ times → 1 ≤ height → need height radius times Y < height
need-ends height radius times Y some tall = omega (arith, need-is height radius times Y some tall)

pub need-last : (height radius times Y : ℕ) → 1 ≤ times → 1 ≤ height → Y + 1 ≡ times * height → need height radius times Y + 1 ≡ height
need-last height radius times Y some tall last =
    let reaches : height ≤ after_of times Y = le-div height (2 * Y + 1 + times) (2 * times) (omega arith) (omega arith) in
    omega (arith, need-is height radius times Y some tall)

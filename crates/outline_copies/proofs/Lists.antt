-- Lists of moved points.
use Rattle.std.proofs.Common.{◌≡◌, ℕ, ◌<◌, ◌%◌, ℤ, List, length, get_or, map, sym, ap, ◌∙◌, arith}
use Rattle.std.proofs.lemmas.List.{get_or-map, length-map}
use Rattle.std.proofs.lemmas.List.FromFn.{fill_by_all, get_or-map-range_with_len, length-map-range_with_len}
use Rattle.std.proofs.Math.Nat.{mod-lt}
use Rattle.std.specs.List.{range_with_len}
use Rattle.pt_core.specs.ClosedWalk.{origin, point_at}
use Rattle.pt_core.specs.declared.point.Point.{Point}
use Rattle.outline_copies.specs.Moved.{moved_by}

-- an element of a closed list with all elements moved
pub moved_round : {X Y : Type 0} (move : X → Y) (xs : List X) (d : X) (e : Y) (k : ℕ) → 0 < length xs
    → get_or (map move xs) (k % length (map move xs)) e ≡ move (get_or xs (k % length xs) d)
moved_round move xs d e k some =
    ap (λ n. get_or (map move xs) (k % n) e) (length-map xs move)
    ∙ get_or-map move xs (k % length xs) d e (mod-lt k some)

pub moved_at : (right up : ℤ) (points : List Point) (k : ℕ) → 0 < length points → point_at (map (moved_by right up) points) k ≡ moved_by right up (point_at points k)
moved_at right up points k some = moved_round (moved_by right up) points origin origin k some

-- a list by its indices, with each element moved
pub mapped_range : {X Y : Type 0} (move : X → Y) (f : ℕ → X) (g : ℕ → Y) (n : ℕ) (d : X) (e : Y) → ((k : ℕ) → k < n → g k ≡ move (f k))
    → map g (range_with_len 0 n) ≡ map move (map f (range_with_len 0 n))
mapped_range move f g n d e each =
    let xs = map f (range_with_len 0 n) in
    let count = length-map-range_with_len f 0 n in
    sym (fill_by_all g (map move xs) n e (length-map xs move ∙ count)
    (λ k h. get_or-map move xs k d e (omega (arith, count)) ∙ ap move (get_or-map-range_with_len f 0 n k k d h (omega arith)) ∙ sym (each k h)))

-- Counts, compared by themselves: among all that is known in a function that takes long.
use Rattle.std.proofs.Common.{◌≡◌, ◌≤◌, ◌<◌, ◌*◌, ◌^◌, ℕ, arith}

-- a count that stays doesn't fall
pub same_count : (n : ℕ) → n ≤ n
same_count n = omega arith

-- one that falls in neither of two calls doesn't in both
pub never_falls_on : (a b c : ℕ) → a ≤ b → b ≤ c → a ≤ c
never_falls_on a b c first next = omega (arith, first, next)

-- a batch has room for a page
pub some_room : (workers : ℕ) → 1 ≤ workers → 0 < 2 * workers
some_room workers some = omega (arith, some)

-- and not for more than can be counted
pub few_pages : (n workers : ℕ) → n ≡ 2 * workers → workers ≤ 64 → n < 2 ^ 32
few_pages n workers is most = omega (arith, is, most)

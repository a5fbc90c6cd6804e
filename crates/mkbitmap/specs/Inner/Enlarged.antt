-- A pixel of the larger page, from the mixed columns of its row.
use Rattle.std.specs.Prelude.{ℕ, List, get_or, ◌+◌, ◌*◌, Bool, nat_le}
use Rattle.mkbitmap.specs.Enlarged.{after_of, distance_behind, mix}

-- pixel X of a row of the larger page is black: the mixture of its two columns, which are mixed and raised already, is
-- at most `limit`
abbrev pub dark : List ℕ → ℕ → ℕ → ℕ → Bool
dark columns times limit X =
    nat_le (mix (2 * times) (distance_behind times X) (get_or columns (after_of times X) 0) (get_or columns (after_of times X + 1) 0)) limit

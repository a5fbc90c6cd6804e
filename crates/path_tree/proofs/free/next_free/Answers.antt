-- A pointer on the way is moved past the next one, and what lies before that is held.
use Rattle.std.proofs.Common.{◌<◌, ◌≤◌, ℕ, length, get_or, ◌∙◌, inl, inr, arith}
use Rattle.std.proofs.lemmas.Bool.{cases_lt}
use Rattle.std.proofs.lemmas.List.{length-set}
use Rattle.path_tree.proofs.SkippedStarts.{past-set, past-twice, skips-set}
use Rattle.path_tree.proofs.free.next_free.Goals as goal

pub places-preserved : goal.places-preserved
places-preserved c =
    let skips = c.places.skips in
    let at = c.places.at in
    let is = c.places.invariant in
    let next : ℕ = get_or skips at 0 in
    let after : ℕ = get_or skips next 0 in
    let within : next < length skips = is.are.within at is.place in
    let on : at ≤ next = is.are.onwards at is.place in
    let far : next ≤ after = is.are.onwards next within in
    let end : after < length skips = is.are.within next within in
    let len = length-set skips at after in
    record {
      are = skips-set skips at after is.are is.place (omega arith) end;
      len = len ∙ is.len;
      past = λ held before. past-set held skips at after (is.past held before) is.place (past-twice held skips at is.are (is.past held before) is.place);
      from = (let first = is.from in omega arith);
      place = omega arith;
      passed = λ held before k low high. elim (cases_lt k at) [
        | inl earlier ↦ is.passed held before k low earlier
        | inr later ↦ past-twice held skips at is.are (is.past held before) is.place k later high
      ];
    }

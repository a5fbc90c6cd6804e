use Rattle.std.proofs.Common.{ℕ, ◌+◌, ◌*◌, ◌<◌, ◌≤◌, length, set, get_or, get_or-set_same, sym, ◌∙◌, subst, inl, inr, arith}
use Rattle.std.proofs.lemmas.Bool.{cases_eq}
use Rattle.std.proofs.lemmas.List.{get_or-set_other, length-set}
use Rattle.polygon_search.specs.declared.blocks.TheConstants.{BLOCK}
use Rattle.polygon_search.specs.Inner.BlockLeasts.{left_at}
use Rattle.polygon_search.proofs.blocks.fill_leasts.Goals as goal

-- one block more is done
pub loop-block-preserved : goal.loop-block-preserved
loop-block-preserved c =
    let so_far = c.loop-block.invariant in
    let leasts = c.loop-block.leasts in
    let here : ℕ = c.loop-block.block in
    let least : ℕ = c.least_left.result in
    let left : ℕ → ℕ = left_at c.args.bounds.now c.args.costs.now in
    let room : here < length leasts = omega (arith, c.loop-block-test.true, c.requires.blocks, so_far.places) in
    record {
      places = length-set leasts here least ∙ so_far.places;
      done = λ block k below above near within. elim (cases_eq block here) [
        | inl same ↦ (
            let P : ℕ → Type 0 = λ b. c.args.begin + BLOCK * b ≤ k → k < c.args.begin + BLOCK * b + BLOCK → 0 + get_or (set leasts here least) b 0 ≤ left k in
            subst P (sym same) (λ above near. omega (
              arith,
              get_or-set_same leasts here least 0 room,
              c.least_left.ensures k (omega arith) (omega (arith, c.min.ensures)),
            )) above near)
        | inr other ↦ omega (arith, get_or-set_other leasts here block least 0 other, so_far.done block k (omega arith) above near within)
      ];
    }

pub returns-clause-leasts : goal.returns-clause-leasts
returns-clause-leasts c = λ block k above near within.
    c.loop-block.invariant.done block k (omega (arith, c.loop-block-test.false)) above near within

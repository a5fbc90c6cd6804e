use Rattle.std.proofs.Common.{◌≡◌, ℕ, ◌+◌, ◌-◌, ◌<◌, ◌≤◌, length, subst, arith}
use Rattle.std.specs.Prelude.{slice_index}
use Rattle.polygon_search.proofs.Counting.{last_of, rises}
use Rattle.polygon_search.proofs.windows.begin_before.Goals as goal

-- no longest segment from an earlier point reaches farther than the one from the point before
pub returns-else-reached-index-clause-first : goal.returns-else-reached-index-clause-first
returns-else-reached-index-clause-first c = λ k below.
    let s = c.args.segments.now in
    let lasts = s.lasts.items in
    let before : ℕ = c.loop-begin.begin - 1 in
    let inside : before < length s.moments.now = omega (arith, c.loop-begin.invariant.near, c.requires.end) in
    let last = last_of lasts before c.index.result.now (omega (arith, s.places, inside)) c.index.ensures in
    let e : k + (before - k) ≡ before = omega arith in
    let rise = rises (length s.moments.now) lasts s.onwards s.rising (before - k) k (omega (arith, inside, e)) in
    let up : slice_index lasts k ≤ slice_index lasts before = subst (λ n. slice_index lasts k ≤ slice_index lasts n) e rise in
    omega (arith, up, last, c.if-reached-index.false)

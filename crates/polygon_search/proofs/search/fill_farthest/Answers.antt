use Rattle.std.proofs.Common.{◌≡◌, ℕ, ◌+◌, ◌<◌, ◌≤◌, ◌∷◌, [], List, length, length-append, ap, sym, ◌∙◌, subst, arith}
use Rattle.std.specs.Prelude.{slice_index}
use Rattle.polygon_search.specs.Inner.Search.{AreFarthest, counts_of}
use Rattle.polygon_search.proofs.Counting.{counted, last_of}
use Rattle.polygon_search.proofs.Greedy.{AreWritten, all_left, more_left, written_more, written_none}
use Rattle.polygon_search.proofs.search.fill_farthest.Goals as goal

pub loop-at-init : goal.loop-at-init
loop-at-init c =
    let s = c.args.segments.now in
    let size = length s.moments.now in
    let lasts = s.lasts.items in
    let items = c.clear.new.self.items in
    let none = c.clear.ensures.items in
    let zero : length items ≡ 0 = ap length none in
    subst (λ n. AreWritten size lasts (counts_of size lasts) n items 0) (sym zero) (written_none size lasts (counts_of size lasts) items none)

pub loop-at-preserved : goal.loop-at-preserved
loop-at-preserved c =
    let s = c.args.segments.now in
    let size = length s.moments.now in
    let lasts = s.lasts.items in
    let counts = counts_of size lasts in
    let known = counted size lasts s.onwards s.rising in
    let at = c.loop-at.at in
    let written = c.loop-at.farthest.items in
    let below : at < size = omega (arith, s.places) in
    let more = more_left size lasts counts known (length written) written at c.loop-at.invariant below in
    let there : at < length lasts = omega (arith, s.places) in
    let last : c.index-at.result.now ≡ slice_index lasts at = last_of lasts at c.index-at.result.now there c.index-at.ensures in
    let one : length c.push.new.self.items ≡ length written + 1 = ap length c.in_ok-push.ensures.items ∙ length-append written (at ∷ []) in
    subst (λ n. AreWritten size lasts counts n c.push.new.self.items c.index-at.result.now) (sym one)
    (subst (λ n. AreWritten size lasts counts (length written + 1) c.push.new.self.items n) (sym last)
    (written_more size lasts counts known (length written) written at c.loop-at.invariant more
    c.push.new.self.items c.in_ok-push.ensures.items))

pub returns : goal.returns
returns c =
    let s = c.args.segments.now in
    let size = length s.moments.now in
    let lasts = s.lasts.items in
    let counts = counts_of size lasts in
    let known = counted size lasts s.onwards s.rising in
    let at = c.loop-at.at in
    let written = c.loop-at.farthest.items in
    let end : size ≤ at = omega (arith, s.places) in
    let whole = all_left size lasts counts known (length written) written at c.loop-at.invariant end in
    let P : List ℕ → Type 0 = λ xs. AreFarthest size lasts counts (slice_index counts 0) xs in
    let Q : ℕ → Type 0 = λ n. AreWritten size lasts counts n written at in
    subst P (sym c.in_ok-push-2.ensures.items) (subst Q whole c.loop-at.invariant)

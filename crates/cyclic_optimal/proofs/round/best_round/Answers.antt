use Rattle.std.proofs.Common.{◌≡◌, ℕ, ◌+◌, ◌-◌, ◌<◌, ◌^◌, List, ◌++◌, length, map, ◌∙◌, subst, arith}
use Rattle.std.proofs.lemmas.List.{get_or_default}
use Rattle.std.proofs.lemmas.List.Elements.{All-same}
use Rattle.std.specs.List.{All}
use Rattle.std.specs.Prelude.{slice_index}
use Rattle.straight_paths.specs.Straight.{IsPossible}
use Rattle.cyclic_optimal.specs.Inner.Fronts.{IsLeastBy, IsListOf}
use Rattle.cyclic_optimal.specs.declared.fronts.Front.{Front}
use Rattle.cyclic_optimal.proofs.Layers.{best_least, best_small, starts_in, starts_under}
use Rattle.cyclic_optimal.proofs.Lowest.{lowest_list}
use Rattle.cyclic_optimal.proofs.Rounds.{all_up_to, from_round}
use Rattle.cyclic_optimal.proofs.round.best_round.Goals as goal

pub overflow_sub-start : goal.overflow_sub-start
overflow_sub-start c =
    let s = c.args.sides.now in
    starts_in s.moments.now s.on_page s.few c.args.start c.requires.start c.args.fronts.now c.requires.fronts c.index-fronts-count.result c.index-fronts-count.is

pub index-worth-requires : goal.index-worth-requires
index-worth-requires c =
    let s = c.args.sides.now in
    let whole : Front = c.index-fronts-count.result in
    let under = starts_under s.moments.now s.on_page s.few c.args.start c.requires.start c.args.fronts.now c.requires.fronts whole c.index-fronts-count.is in
    let low = starts_in s.moments.now s.on_page s.few c.args.start c.requires.start c.args.fronts.now c.requires.fronts whole c.index-fronts-count.is in
    omega (arith, whole.least.ok.0)

pub first_way-requires-clause-worth : goal.first_way-requires-clause-worth
first_way-requires-clause-worth c =
    let s = c.args.sides.now in
    let whole : Front = c.index-fronts-count.result in
    let under = starts_under s.moments.now s.on_page s.few c.args.start c.requires.start c.args.fronts.now c.requires.fronts whole c.index-fronts-count.is in
    let low = starts_in s.moments.now s.on_page s.few c.args.start c.requires.start c.args.fronts.now c.requires.fronts whole c.index-fronts-count.is in
    let value : c.index-worth.result.now ≡ slice_index whole.least.items (c.args.start - whole.low)
    = c.index-worth.ensures ∙ get_or_default whole.least.items (c.args.start - whole.low) c.index-worth.result.now 0 (omega arith) in
    best_least s.moments.now s.on_page s.few c.args.start c.requires.start c.args.fronts.now c.requires.fronts whole c.index-fronts-count.is
    c.index-worth.result.now value

pub first_way-requires-clause-some : goal.first_way-requires-clause-some
first_way-requires-clause-some c =
    let s = c.args.sides.now in
    let whole : Front = c.index-fronts-count.result in
    let under = starts_under s.moments.now s.on_page s.few c.args.start c.requires.start c.args.fronts.now c.requires.fronts whole c.index-fronts-count.is in
    let low = starts_in s.moments.now s.on_page s.few c.args.start c.requires.start c.args.fronts.now c.requires.fronts whole c.index-fronts-count.is in
    let value : c.index-worth.result.now ≡ slice_index whole.least.items (c.args.start - whole.low)
    = c.index-worth.ensures ∙ get_or_default whole.least.items (c.args.start - whole.low) c.index-worth.result.now 0 (omega arith) in
    best_small s.moments.now s.on_page s.few c.args.start c.requires.start c.args.fronts.now c.requires.fronts whole c.index-fronts-count.is
    c.index-worth.result.now value

pub polygon_of-requires : goal.polygon_of-requires
polygon_of-requires c =
    let s = c.args.sides.now in
    let points = s.moments.now in
    All-same (λ j. j < 2 ^ 32) _ c.in_ok-way.way.items c.deref.ensures.value
    (all_up_to (IsPossible points) (c.args.start + length points) c.args.start (2 ^ 32) c.in_ok-way.way.items (omega (arith, s.few, c.requires.start))
    c.in_ok-way.ensures.goes)

pub returns : goal.returns
returns c =
    let s = c.args.sides.now in
    let whole : Front = c.index-fronts-count.result in
    let under = starts_under s.moments.now s.on_page s.few c.args.start c.requires.start c.args.fronts.now c.requires.fronts whole c.index-fronts-count.is in
    let low = starts_in s.moments.now s.on_page s.few c.args.start c.requires.start c.args.fronts.now c.requires.fronts whole c.index-fronts-count.is in
    let value : c.index-worth.result.now ≡ slice_index whole.least.items (c.args.start - whole.low)
    = c.index-worth.ensures ∙ get_or_default whole.least.items (c.args.start - whole.low) c.index-worth.result.now 0 (omega arith) in
    let points = s.moments.now in
    let way = c.in_ok-way.way.items in
    let first = c.in_ok-way.ensures in
    let are = c.requires.fronts in
    let round = from_round points c.args.start way c.requires.start first.goes in
    let split = round.list in
    let P : ℕ → Type 0 = λ n. (before behind : List ℕ) → c.deref.result.now ≡ before ++ map (λ k. k + n) behind → All (λ k. k < n) before
    → c.in_ok-at.at.items ≡ behind ++ before in
    let in_size = subst P s.points c.in_ok-at.ensures in
    let list : IsListOf (length points) way c.in_ok-at.at.items = record {
      before = split.before;
      behind = split.behind;
      is = split.is;
      early = split.early;
      list = in_size split.before split.behind (c.deref.ensures.value ∙ split.is) split.early;
    } in
    let by : IsLeastBy points (c.args.start + length points) (length c.args.fronts.now - 1) c.args.start c.index-worth.result.now
    = best_least points s.on_page s.few c.args.start c.requires.start c.args.fronts.now c.requires.fronts whole c.index-fronts-count.is
    c.index-worth.result.now value in
    record {
      way = way;
      goes = first.goes;
      count = first.counted;
      worth = first.costs;
      list = list;
      fewest = are.fewest.none_fewer;
      least = by.bound;
      lowest = lowest_list points c.args.start (length c.args.fronts.now - 1) c.index-worth.result.now c.requires.start s.few
          are.fewest.none_fewer by.bound way c.in_ok-at.at.items first list;
    }

use Rattle.std.proofs.Common.{rules, ◌≡◌, ◌+◌, ◌-◌, arith, ◌∙◌}
use Rattle.mkbitmap.specs.Enlarged.{before_within}
use Rattle.mkbitmap.proofs.RingRows.{carried, same_twice}
use Rattle.mkbitmap.proofs.filter.Filter.begin.Goals as goal

pub returns : goal.returns
returns c = (
  λ page follows. (
      let f = c.args.self.now in
      let f1 = c.raise.new.self in
      let f2 = c.copy_down.new.self in
      let f3 = c.let_go.new.self in
      let (h1, raised) = c.raise.ensures.lower page follows.holds in
      let same = same_twice f1 f2 f3 c.copy_down.ensures.goes.setup c.let_go.ensures.goes.setup in
      let pairs : f3.pairs ≡ f.pairs + 1 = omega (arith, c.let_go.ensures.goes.pairs, c.raise.ensures.goes.pairs, c.copy_down.ensures.goes.pairs) in
      let y_up : before_within f3.height (f3.pairs - 1) ≡ f.pairs = omega (arith, pairs, c.requires.first) in
      let y_low : before_within f3.height f3.pairs ≡ f.pairs = omega (arith, pairs, c.requires.first) in
      record {
        holds = c.let_go.ensures.holds page (c.copy_down.ensures.holds page h1);
        upper = λ _. carried page f1 f3 f1.lower f3.upper f.pairs (before_within f3.height (f3.pairs - 1)) same (c.let_go.ensures.upper ∙ c.copy_down.ensures.upper) y_up raised;
        lower = λ _. carried page f1 f3 f1.lower f3.lower f.pairs (before_within f3.height f3.pairs) same (c.let_go.ensures.lower ∙ c.copy_down.ensures.lower) y_low raised;
      }),
  search rules,
)

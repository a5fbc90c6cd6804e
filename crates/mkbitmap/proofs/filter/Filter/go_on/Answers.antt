use Rattle.std.proofs.Common.{rules, ◌≡◌, ◌+◌, ◌-◌, arith, ◌∙◌}
use Rattle.mkbitmap.specs.Enlarged.{before_within}
use Rattle.mkbitmap.proofs.RingRows.{carried, same_twice}
use Rattle.mkbitmap.proofs.filter.Filter.go_on.Goals as goal

pub returns : goal.returns
returns c = (
  λ page follows. (
      let f = c.args.self.now in
      let f1 = c.copy_down.new.self in
      let f2 = c.raise.new.self in
      let f3 = c.let_go.new.self in
      let (h2, raised) = c.raise.ensures.lower page (c.copy_down.ensures.holds page follows.holds) in
      let same = same_twice f f1 f3 c.copy_down.ensures.goes.setup (same_twice f1 f2 f3 c.raise.ensures.goes.setup c.let_go.ensures.goes.setup) in
      let pairs : f3.pairs ≡ f.pairs + 1 = omega (arith, c.let_go.ensures.goes.pairs, c.raise.ensures.goes.pairs, c.copy_down.ensures.goes.pairs) in
      let y_up : before_within f3.height (f3.pairs - 1) ≡ before_within f.height f.pairs = omega (arith, pairs, same.height) in
      let y_low : before_within f3.height f3.pairs ≡ f1.pairs = omega (arith, pairs, same.height, c.copy_down.ensures.goes.pairs, c.requires.due.0) in
      record {
        holds = c.let_go.ensures.holds page h2;
        upper = λ _. carried page f f3 f.lower f3.upper (before_within f.height f.pairs) (before_within f3.height (f3.pairs - 1)) same
            (c.let_go.ensures.upper ∙ c.raise.ensures.upper ∙ c.copy_down.ensures.upper) y_up (follows.lower c.requires.some);
        lower = λ _. carried page f2 f3 f2.lower f3.lower f1.pairs (before_within f3.height f3.pairs) c.let_go.ensures.goes.setup c.let_go.ensures.lower y_low raised;
      }),
  search rules,
)

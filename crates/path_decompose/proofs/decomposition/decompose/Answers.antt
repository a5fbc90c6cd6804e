-- With no limit all paths are above it.
use Rattle.std.proofs.Common.{sym, subst, ◌∙◌}
use Rattle.path_decompose.specs.Decomposition.{IsDecomposition}
use Rattle.path_decompose.proofs.Above.{above_none}
use Rattle.path_decompose.proofs.Sums.{even_odd, edges_once}
use Rattle.path_decompose.proofs.decomposition.decompose.Goals as goal

pub returns-clause-decomposed : goal.returns-clause-decomposed
returns-clause-decomposed c =
    let all = c.in_ok-paths.ensures.found in
    subst (IsDecomposition c.args.page.now c.args.policy) (sym (all.2 ∙ above_none all.0)) all.1

pub returns-clause-even_odd : goal.returns-clause-even_odd
returns-clause-even_odd c = even_odd c.args.page.now c.args.policy _ _ (returns-clause-decomposed c)

pub returns-clause-edges_once : goal.returns-clause-edges_once
returns-clause-edges_once c = edges_once c.args.page.now c.args.policy _ _ (returns-clause-decomposed c)

pub returns-clause-closed : goal.returns-clause-closed
returns-clause-closed c = λ k path below. (c.in_ok-paths.ensures.on_page k path below).closed

pub returns-clause-corners : goal.returns-clause-corners
returns-clause-corners c = λ k path below. (c.in_ok-paths.ensures.on_page k path below).on_page

pub returns-clause-starts : goal.returns-clause-starts
returns-clause-starts c = λ k path below. (c.in_ok-paths.ensures.on_page k path below).starts_above

pub returns-clause-insides : goal.returns-clause-insides
returns-clause-insides c = λ k path below. (c.in_ok-paths.ensures.on_page k path below).inside_on_page

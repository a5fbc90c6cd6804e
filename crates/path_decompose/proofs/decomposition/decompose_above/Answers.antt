-- What holds of all paths holds of those above a limit.
use Rattle.path_decompose.proofs.Sums.{even_odd, edges_once}
use Rattle.path_decompose.proofs.decomposition.decompose_above.Goals as goal

pub returns-clause-kept : goal.returns-clause-kept
returns-clause-kept c =
    let page = c.args.page.now in
    let all = c.in_ok-paths.ensures.found in
    (all.0, all.1, even_odd page c.args.policy _ _ all.1, edges_once page c.args.policy _ _ all.1, all.2)

pub returns-clause-closed : goal.returns-clause-closed
returns-clause-closed c = λ k path below. (c.in_ok-paths.ensures.on_page k path below).closed

pub returns-clause-corners : goal.returns-clause-corners
returns-clause-corners c = λ k path below. (c.in_ok-paths.ensures.on_page k path below).on_page

pub returns-clause-starts : goal.returns-clause-starts
returns-clause-starts c = λ k path below. (c.in_ok-paths.ensures.on_page k path below).starts_above

pub returns-clause-insides : goal.returns-clause-insides
returns-clause-insides c = λ k path below. (c.in_ok-paths.ensures.on_page k path below).inside_on_page

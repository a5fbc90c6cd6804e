use Rattle.std.proofs.Common.{pos, ◌≤ℤ◌, All, subst}
use Rattle.std.proofs.lemmas.List.Elements.{All-tail}
use Rattle.pt_core.specs.declared.path.Path.{Path}
use Rattle.pt_core.specs.ClosedWalk.{point_at}
use Rattle.path_decompose.specs.Bounds.{IsCornerOf}
use Rattle.drawing_tests.proofs.tests.groups.without_first.Goals as goal

pub returns-in-Some-clause-corners : goal.returns-in-Some-clause-corners
returns-in-Some-clause-corners c =
    let P : Path → Type 0 = λ path. All (IsCornerOf 32767 32767) path.points in
    All-tail P c.in-Some._first.now c.in-Some.rest.now (subst (All P) c.in-Some.ensures.cases.0 c.requires.corners)

pub returns-in-Some-clause-starts : goal.returns-in-Some-clause-starts
returns-in-Some-clause-starts c =
    let P : Path → Type 0 = λ path. pos 1 ≤ℤ (point_at path.points 0).y in
    All-tail P c.in-Some._first.now c.in-Some.rest.now (subst (All P) c.in-Some.ensures.cases.0 c.requires.starts)

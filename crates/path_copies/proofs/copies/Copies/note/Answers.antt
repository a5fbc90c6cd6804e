use Rattle.std.proofs.Common.{sym, subst}
use Rattle.std.specs.List.{All}
use Rattle.std.proofs.lemmas.List.Elements.{All-push}
use Rattle.path_copies.specs.Inner.KnownPaths.{HasPolygon}
use Rattle.path_copies.proofs.copies.Copies.note.Goals as goal

-- what is kept more is kept with its polygon
pub invariant_of-self-in-Continue-branch-2 : goal.invariant_of-self-in-Continue-branch-2
invariant_of-self-in-Continue-branch-2 c =
    let before = subst (All HasPolygon) (sym c.is_due.ensures) c.self.invariant in
    rw c.in_ok-keep.ensures.kept (All-push HasPolygon c.is_due.new.self _ before
    (record { best = rw c.in_ok-found.ensures c.requires.best; cost = rw c.in_ok-found.ensures c.requires.cost }))

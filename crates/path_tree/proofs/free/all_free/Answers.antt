use Rattle.std.proofs.Common.{◌++◌, ◌∷◌, [], ap, sym, ◌∙◌}
use Rattle.path_tree.proofs.SkippedStarts.{range-more}
use Rattle.path_tree.proofs.free.all_free.Goals as goal

pub loop-at-preserved : goal.loop-at-preserved
loop-at-preserved c =
    c.in_ok-push.ensures.items ∙ ap (λ ks. ks ++ c.loop-at.at ∷ []) c.loop-at.invariant ∙ sym (range-more c.loop-at.at)

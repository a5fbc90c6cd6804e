use Rattle.std.proofs.Common.{◌∙◌, [], ◌∷◌, ◌++◌, ap, arith}
use Rattle.std.specs.Prelude.{string_bytes}
use Rattle.page_batches.specs.Held.Held.{End}
use Rattle.page_batches.proofs.Batching.{held_by-behind, pages_among-append}
use Rattle.page_batches.proofs.batch.Batch.push_end.Goals as goal

-- one entry more is of no page
pub invariant_of-self-2 : goal.invariant_of-self-2
invariant_of-self-2 c = rw (c.in_ok-push.ensures.items, pages_among-append) (omega (arith, c.self.invariant))

-- the end is held behind the others
pub returns : goal.returns
returns c = rw c.in_ok-push.ensures.items
    (held_by-behind c.self.inside.entries.items _ c.self.inside.pages.items c.self.invariant
    ∙ ap (λ held. held ++ End (string_bytes c.args.name) c.args.pages [] ∷ []) c.self.view_is)

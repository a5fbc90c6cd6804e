use Rattle.std.proofs.Common.{◌≡◌, ◌∙◌, ◌-◌, [], ◌∷◌, ◌++◌, ap, length, length-append, take, arith}
use Rattle.std.proofs.lemmas.List.{take_at}
use Rattle.std.specs.Vec.{vec_len}
use Rattle.std.specs.Prelude.{string_bytes}
use Rattle.page_batches.specs.Held.Held.{Page}
use Rattle.page_batches.proofs.Batching.{held_by-append, pages_among-append}
use Rattle.page_batches.proofs.batch.Batch.push.Goals as goal
use Rattle.page_batches.proofs.batch.Batch.push.Goals.{in-Ok, in-Err}

-- one page and one entry more
pub invariant_of-self-in-Ok : goal.invariant_of-self-in-Ok
invariant_of-self-in-Ok c =
    rw (c.in-Ok.ensures.items, c.in_ok-push.ensures.items, length-append, pages_among-append) (omega (arith, c.self.invariant))

-- the page is held behind the others, or none is
pub returns : goal.returns
returns c = elim c.match-push.branch [
  | in-Ok w ↦ rw (w.result-is, w.self-is, w.in-Ok.ensures.items, c.in_ok-push.ensures.items)
      (held_by-append c.self.inside.entries.items _ c.self.inside.pages.items _ c.self.invariant
      ∙ ap (λ held. held ++ Page (string_bytes c.args.name) c.args.before c.args.page ∷ []) c.self.view_is)
  | in-Err w ↦
      let one : length c.self.inside.pages.items ≡ vec_len c.push.new.self - 1 = omega (arith, c.in_ok-push.ensures.len) in
      let back : w.pop.new.self.items ≡ c.self.inside.pages.items = w.pop.ensures.rest ∙ ap (take (vec_len c.push.new.self - 1)) c.in_ok-push.ensures.items ∙ take_at _ _ _ one in
      rw (w.result-is, w.self-is, w.in-Err.ensures.items, back) c.self.view_is
]

use Rattle.std.proofs.Common.{◌∙◌, length, ap, arith}
use Rattle.std.specs.Prelude.{string_bytes}
use Rattle.run_output.specs.Made.{Past}
use Rattle.run_output.specs.Inner.Made.{made_by}
use Rattle.run_output.specs.Names.{made_with}
use Rattle.run_output.proofs.NameCounts.{length-made_with, made_by_push, same_past}
use Rattle.run_output.proofs.made.Made.add.Goals as goal

-- the invariant holds with one more file
pub invariant_of-self-2 : goal.invariant_of-self-2
invariant_of-self-2 c =
    let push = ap made_by c.in_ok-push.ensures.items ∙ made_by_push c.self.inside.files.items (record { base = c.args.base; documents = c.args.documents }) in
    let all = length-made_with (string_bytes c.args.base) c.args.documents (made_by c.self.inside.files.items) in
    let seen = ap (λ (past : Past). past.pages) c.self.view_is in
    (omega (arith, ap (λ m. length m) push, all, c.requires.few, c.self.invariant.0), omega (arith, c.requires.room, seen))

pub returns-clause-added : goal.returns-clause-added
returns-clause-added c =
    same_past _ _
    (ap made_by c.in_ok-push.ensures.items ∙ made_by_push c.self.inside.files.items (record { base = c.args.base; documents = c.args.documents })
    ∙ ap (λ (past : Past). made_with (string_bytes c.args.base) c.args.documents past.made) c.self.view_is)
    (let seen = ap (λ (past : Past). past.pages) c.self.view_is in omega (arith, seen))

use Rattle.std.proofs.Common.{◌+◌, ◌∙◌, length, ap, arith}
use Rattle.std.specs.List.{sum_by}
use Rattle.std.proofs.lemmas.List.{take_all}
use Rattle.std.proofs.lemmas.List.Sums.{sum_by_more}
use Rattle.run_output.specs.Made.{Past}
use Rattle.run_output.specs.Inner.Made.{documents_of, made_by}
use Rattle.run_output.specs.Names.{count_of}
use Rattle.run_output.proofs.NameCounts.{documents_all, documents_most}
use Rattle.run_output.proofs.made.Made.count.Goals as goal

pub overflow_add-count : goal.overflow_add-count
overflow_add-count c =
    let files = c.deref-file-items.result.now in
    let more = sum_by_more (documents_of c.args.base.now) files c.loop-file.file-index c.file-item.result c.loop-file-test.true in
    let most = documents_most c.args.base.now files (c.loop-file.file-index + 1) in
    let last = c.count-count.ensures ∙ ap (documents_of c.args.base.now) c.file-item.is in
    let all = ap (λ fs. length (made_by fs)) c.deref-file-items.ensures.value in
    omega (arith, more, most, last, all, c.loop-file.invariant, c.self.invariant.0, c.self.invariant.1)

pub returns-clause-value : goal.returns-clause-value
returns-clause-value c =
    let files = c.deref-file-items.result.now in
    c.loop-file.invariant ∙ ap (sum_by (documents_of c.args.base.now)) (take_all c.loop-file.file-index files c.loop-file-test.false)
    ∙ documents_all c.args.base.now files ∙ ap (λ fs. count_of c.args.base.now (made_by fs)) c.deref-file-items.ensures.value
    ∙ ap (λ (past : Past). count_of c.args.base.now past.made) c.self.view_is

pub returns-clause-few : goal.returns-clause-few
returns-clause-few c =
    let files = c.deref-file-items.result.now in
    let most = documents_most c.args.base.now files c.loop-file.file-index in
    let all = ap (λ fs. length (made_by fs)) c.deref-file-items.ensures.value in
    omega (arith, most, all, c.loop-file.invariant, c.self.invariant.0, c.self.invariant.1)

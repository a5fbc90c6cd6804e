-- There are as many words as the blocks have.
use Rattle.std.proofs.Common.{◌*◌, ◌∙◌, All, length, ap, sym, subst}
use Rattle.boundary_edges.specs.Inner.BoundaryBits.{FitsStrips}
use Rattle.boundary_edges.proofs.Spread.{length-spread}
use Rattle.boundary_edges.proofs.taking.take_path.Goals as goal

pub take_lines-requires-clause-words : goal.take_lines-requires-clause-words
take_lines-requires-clause-words c =
    let starts = c.words.inside.starts.items in
    let size = sym (ap length c.words.view_is) ∙ length-spread starts c.words.inside.words.items ∙ ap (λ ss. 16 * length ss) (sym c.deref.ensures.value) in
    record { few = c.requires.rows; closed = c.requires.closed; room = subst (λ n. All (FitsStrips c.args.rows n) c.args.points.now) size c.requires.room }

pub returns-clause-length : goal.returns-clause-length
returns-clause-length c =
    let starts = c.words.inside.starts.items in
    length-spread starts _ ∙ sym (length-spread starts c.words.inside.words.items) ∙ ap length c.words.view_is

-- The words of a block stand behind its start.
use Rattle.std.proofs.Common.{◌+◌, ◌*◌, ◌<◌, ◌∙◌, length, get_or, ap, sym, arith}
use Rattle.std.proofs.lemmas.List.{get_or_read}
use Rattle.boundary_edges.proofs.Spread.{place_in, in_block, get_or-spread}
use Rattle.boundary_edges.proofs.blocks.Blocks.get_in.Goals as goal

pub index-requires : goal.index-requires
index-requires c =
    omega (arith, place_in c.self.inside.starts.items c.self.inside.words.items c.args.self.now (16 * c.args.block) c.self.view_is c.requires.block, c.self.inside.starts.ok.0)

pub index-requires-2 : goal.index-requires-2
index-requires-2 c =
    let starts = c.self.inside.starts.items in
    let block : c.args.block < length starts = omega (arith, place_in starts c.self.inside.words.items c.args.self.now (16 * c.args.block) c.self.view_is c.requires.block) in
    omega (arith, get_or_read starts c.args.block c.index.result.now block c.index.ensures 0, c.self.invariant.room c.args.block, c.self.inside.words.ok.0, c.requires.word)

pub returns : goal.returns
returns c =
    let starts = c.self.inside.starts.items in
    let words = c.self.inside.words.items in
    let place = 16 * c.args.block + c.args.i in
    let block : c.args.block < length starts = omega (arith, place_in starts words c.args.self.now (16 * c.args.block) c.self.view_is c.requires.block) in
    let start = get_or_read starts c.args.block c.index.result.now block c.index.ensures 0 in
    get_or_read words (c.index.result.now + c.args.i) c.index-2.result.now (omega (arith, start, c.self.invariant.room c.args.block, c.requires.word)) c.index-2.ensures 0
    ∙ ap (λ n. get_or words n 0) (in_block starts c.args.block c.args.i c.index.result.now c.requires.word start)
    ∙ sym (get_or-spread starts words place c.self.invariant)
    ∙ ap (λ ws. get_or ws place 0) c.self.view_is

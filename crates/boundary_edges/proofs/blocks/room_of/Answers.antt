-- A white block begins behind all words.
use Rattle.std.proofs.Common.{◌≡◌, ◌∙◌, length, get_or, set, ap, sym, arith}
use Rattle.std.proofs.lemmas.List.{get_or_read}
use Rattle.boundary_edges.specs.Inner.Blocks.{spread}
use Rattle.boundary_edges.proofs.Spread.{zeros, length-zeros, zero_at, blocks_more}
use Rattle.boundary_edges.proofs.blocks.room_of.Goals as goal

pub returns-clause-same : goal.returns-clause-same
returns-clause-same c =
    let starts = c.args.starts.now.items in
    let words = c.args.words.now.items in
    let block = c.args.block in
    let end : c.len-end.result ≡ length words = omega (arith, c.len-end.ensures) in
    let white : get_or starts block 0 ≡ 0 = sym (get_or_read starts block c.index.result.now c.requires.block c.index.ensures 0) ∙ c.if-start-ne0.false in
    ap (λ n. spread (set starts block n) c.extend_from_slice.new.self.items) end
    ∙ ap (spread (set starts block (length words))) c.in_ok-extend_from_slice.ensures.items
    ∙ (blocks_more starts words (zeros 16) block c.requires.blocks c.requires.block white (length-zeros 16) (zero_at 16)).1

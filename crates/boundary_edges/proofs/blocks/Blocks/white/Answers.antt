use Rattle.std.proofs.Common.{◌≡◌, ◌++◌, ◌∙◌, ap, sym, subst}
use Rattle.boundary_edges.specs.Inner.Blocks.{spread, AreBlocks}
use Rattle.boundary_edges.proofs.Spread.{zeros, white_blocks, spread-white}
use Rattle.boundary_edges.proofs.blocks.Blocks.white.Goals as goal

pub invariant_of-result : goal.invariant_of-result
invariant_of-result c =
    let words : c.extend_from_slice.new.self.items ≡ zeros 16 = c.in_ok-extend_from_slice.ensures.items ∙ ap (λ ws. ws ++ zeros 16) c.in_ok-words.ensures.items in
    subst (λ ss. AreBlocks ss c.extend_from_slice.new.self.items) (sym (c.in_ok-starts.ensures.items_if_clones_equal (λ b e. e)))
    (subst (AreBlocks (zeros c.args.count)) (sym words) (white_blocks c.args.count))

pub returns : goal.returns
returns c =
    let words : c.extend_from_slice.new.self.items ≡ zeros 16 = c.in_ok-extend_from_slice.ensures.items ∙ ap (λ ws. ws ++ zeros 16) c.in_ok-words.ensures.items in
    ap (λ ss. spread ss c.extend_from_slice.new.self.items) (c.in_ok-starts.ensures.items_if_clones_equal (λ b e. e))
    ∙ ap (spread (zeros c.args.count)) words
    ∙ spread-white c.args.count

-- A text has only one reply.
use Rattle.std.proofs.Common.{◌≡◌, ℕ, List, inl, inr, sym, ◌∙◌, ap}
use Rattle.bit_image.specs.Page.{Page}
use Rattle.bit_image.specs.PbmText.{pbm_text}
use Rattle.run_output.specs.declared.status.Status.{Status}
use Rattle.point_fill.specs.Filled.{IsFilled}
use Rattle.point_fill.specs.PointsFile.{IsSomePointsFile}
use Rattle.point_fill_run.specs.FillReply.{IsFillReply}
use Rattle.point_fill.proofs.Traced.{one_filled}

-- a text that fills a page describes paths on it
pub tells_paths : (text : List ℕ) (page : Page) → IsFilled text page → IsSomePointsFile text
tells_paths text page filled = (filled.width, filled.height, filled.paths, filled.told)

-- a text has only one ending
pub one_fill_ending : (text a b : List ℕ) (this that : Status) → IsFillReply text this a → IsFillReply text that b → this ≡ that
one_fill_ending text a b this that (inl (done, filled)) (inl (also, other)) = done ∙ sym also
one_fill_ending text a b this that (inl (done, (page, filled, is))) (inr (refused, none, why)) = absurd (none (tells_paths text page filled))
one_fill_ending text a b this that (inr (refused, none, why)) (inl (done, (page, filled, is))) = absurd (none (tells_paths text page filled))
one_fill_ending text a b this that (inr (refused, none, why)) (inr (also, nothing, other)) = refused ∙ sym also

-- a text has only one reply
pub one_fill_text : (text a b : List ℕ) (this that : Status) → IsFillReply text this a → IsFillReply text that b → a ≡ b
one_fill_text text a b this that (inl (done, (page, filled, is))) (inl (also, (other, other_filled, other_is))) =
    is ∙ ap pbm_text (one_filled text other page other_filled filled) ∙ sym other_is
one_fill_text text a b this that (inl (done, (page, filled, is))) (inr (refused, none, why)) = absurd (none (tells_paths text page filled))
one_fill_text text a b this that (inr (refused, none, why)) (inl (done, (page, filled, is))) = absurd (none (tells_paths text page filled))
one_fill_text text a b this that (inr (refused, none, why)) (inr (also, nothing, other)) = why ∙ sym other

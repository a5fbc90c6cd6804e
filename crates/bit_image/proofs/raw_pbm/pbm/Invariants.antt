use Rattle.std.proofs.Common.{◌≡◌, ◌++◌, ◌-◌, suc, drop, flat_map}
use Rattle.std.specs.List.{range_with_len}
use Rattle.bit_image.specs.Page.{image_of}
use Rattle.bit_image.specs.PbmText.{row_text, pbm_text}
use Rattle.bit_image.proofs.raw_pbm.pbm.Given as goal

-- the text written, followed by the rows that are left, is the whole text
abbrev pub invariant-rows : goal.invariant-rows
invariant-rows l = l.out.items ++ flat_map (λ k. row_text l.page.width (λ x. image_of l.page x (l.page.height - suc k))) (drop l.k (range_with_len 0 l.page.height)) ≡ pbm_text l.page

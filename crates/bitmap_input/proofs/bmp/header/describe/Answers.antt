use Rattle.std.proofs.Common.{◌<◌, refl, min, ap, ◌∙◌}
use Rattle.bitmap_input.specs.Cut.Kind.{BadOffset}
use Rattle.bitmap_input.specs.Cut.FileEnd.{Refused}
use Rattle.bitmap_input.specs.BmpHeader.{width, height, pixel_offset, palette_end}
use Rattle.bitmap_input.specs.Inner.ByteRuns.{cap, IsCapped}
use Rattle.bitmap_input.proofs.BmpSteps.{placed_too_soon}
use Rattle.bitmap_input.proofs.bmp.header.describe.Goals as goal

pub returns-then-pixel_offset-palette_end :
    goal.returns-then-pixel_offset-palette_end
returns-then-pixel_offset-palette_end c =
    let wide : IsCapped c.min.result (width c.args.info.now.head.now) = c.min.ensures ∙ ap (λ n. min n cap) c.width.ensures in
    let high : IsCapped c.min-2.result (height c.args.info.now.head.now) = c.min-2.ensures ∙ ap (λ n. min n cap) c.height.ensures in
    let in_range = c.in_ok-sides.ensures.checks (width c.args.info.now.head.now) (height c.args.info.now.head.now) wide high in
    let soon : pixel_offset c.args.info.now.head.now < palette_end c.args.info.now.head.now = rw (← c.four_at-pixel_offset.ensures, ← c.palette_end-palette_end.ensures.value) c.if-pixel_offset-palette_end.true in
    record { passes = (Refused BadOffset, refl, placed_too_soon c.args.info.now.head.now in_range.2 soon) }

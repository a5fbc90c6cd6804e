use Rattle.std.proofs.Common.{◌-◌, ◌*◌, ◌+◌, ℕ, Bool, false, length, min, map, ap, sym, rules, arith}
use Rattle.std.specs.List.{range_with_len}
use Rattle.std.proofs.lemmas.List.FromFn.{get_or-map-range_with_len, length-map-range_with_len}
use Rattle.bit_image.specs.Page.{image_of}
use Rattle.bitmap_input.specs.Inner.BmpHead.{shade_by}
use Rattle.bitmap_input.proofs.BmpPixels.{columns_within}
use Rattle.bitmap_input.proofs.Rows.{none_placed, word_placed, words_placed, white_past}
use Rattle.bitmap_input.proofs.bmp.pixels.place_words.Goals as goal

pub loop-at-init : goal.loop-at-init
loop-at-init c = record {
  words = none_placed _ c.args.page.now.width c.args.y (image_of c.args.page.now);
  sides = search rules;
  width = search rules;
  end = search rules;
}

pub word-requires : goal.word-requires
word-requires c = record {
  few = omega arith;
  column = omega arith;
  within = columns_within c.args.ink.now.depth (64 * c.loop-at.at + c.min-count.result) c.args.page.now.width (length c.args.row.now) (omega arith) c.requires.whole;
}

pub loop-at-preserved : goal.loop-at-preserved
loop-at-preserved c =
    let pixel : ℕ → Bool = shade_by c.args.ink.now c.args.row.now in
    record {
      words = word_placed pixel c.args.page.now.width c.args.y (image_of c.args.page.now) (image_of c.loop-at.page) (image_of c.put_word.new.self) c.loop-at.at c.word.result _
          c.loop-at.invariant.words (ap (λ w. min (w - 64 * c.loop-at.at) 64) c.width-width.ensures.value) (rw c.min-count.ensures at c.word.ensures)
          (rw c.loop-at.invariant.sides.width at c.put_word.ensures.word) c.put_word.ensures.columns c.put_word.ensures.rows;
      sides = search rules;
      width = search rules;
      end = search rules;
    }

pub returns : goal.returns
returns c =
    let pixel : ℕ → Bool = shade_by c.args.ink.now c.args.row.now in
    record {
      sides = search rules;
      pixels = words_placed pixel c.args.page.now.width c.args.y (image_of c.args.page.now) (image_of c.loop-at.page) c.loop-at.at
          (map pixel (range_with_len 0 c.args.page.now.width)) c.loop-at.invariant.words (omega arith)
          (λ u past. white_past (image_of c.args.page.now) c.args.page.now.width c.args.page.now.height c.width-width.ensures.fits u c.args.y past)
          (length-map-range_with_len pixel 0 c.args.page.now.width)
          (λ u h. sym (get_or-map-range_with_len pixel 0 c.args.page.now.width u u false h (omega arith)));
    }

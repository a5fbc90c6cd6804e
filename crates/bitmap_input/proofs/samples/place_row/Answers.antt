use Rattle.std.proofs.Common.{◌≡◌, ◌+◌, ◌-◌, ◌*◌, ◌∙◌, ℕ, List, length, min, ap, rules, arith}
use Rattle.std.proofs.lemmas.List.{length-map}
use Rattle.std.specs.Prelude.{map}
use Rattle.bit_image.specs.Page.{image_of}
use Rattle.bitmap_input.specs.Samples.{samples_in, is_wide, samples, grouped}
use Rattle.bitmap_input.specs.Inner.Shading.{is_black_at, black_of, black_in_bytes}
use Rattle.bitmap_input.proofs.SampleBytes.{samples-length, grouped-length, fewer_samples, shaded}
use Rattle.bitmap_input.proofs.Rows.{none_placed, word_placed, words_placed, white_past}
use Rattle.bitmap_input.proofs.samples.place_row.Goals as goal

pub loop-at-init : goal.loop-at-init
loop-at-init c = record {
  words = none_placed _ c.args.page.now.width c.args.y (image_of c.args.page.now);
  sides = search rules;
  width = search rules;
  end = search rules;
}

pub word-requires : goal.word-requires
word-requires c =
    let wide = is_wide c.args.shading.now.maxval in
    let len : length (samples wide c.args.row.now) ≡ samples_in c.args.shading.now.channels * c.args.page.now.width
    = samples-length wide (samples_in c.args.shading.now.channels * c.args.page.now.width) c.args.row.now c.requires.whole in
    record {
      few = omega arith;
      column = omega arith;
      within = fewer_samples c.args.shading.now.channels (64 * c.loop-at.at + c.min-count.result) c.args.page.now.width _ (omega arith) (omega (arith, len));
    }

pub loop-at-preserved : goal.loop-at-preserved
loop-at-preserved c = record {
  words = word_placed (black_in_bytes c.args.shading.now c.args.row.now) c.args.page.now.width c.args.y (image_of c.args.page.now) (image_of c.loop-at.page) (image_of c.put_word.new.self) c.loop-at.at c.word.result _
      c.loop-at.invariant.words (ap (λ w. min (w - 64 * c.loop-at.at) 64) c.width-width.ensures.value) (rw c.min-count.ensures at c.word.ensures)
      (rw c.loop-at.invariant.sides.width at c.put_word.ensures.word) c.put_word.ensures.columns c.put_word.ensures.rows;
  sides = search rules;
  width = search rules;
  end = search rules;
}

pub returns-clause-pixels : goal.returns-clause-pixels
returns-clause-pixels c =
    let kind = c.args.shading.now.channels in
    let row : List ℕ = samples (is_wide c.args.shading.now.maxval) c.args.row.now in
    let len : length (grouped kind row) ≡ c.args.page.now.width
    = grouped-length kind c.args.page.now.width row (samples-length (is_wide c.args.shading.now.maxval) (samples_in kind * c.args.page.now.width) c.args.row.now c.requires.whole) in
    words_placed (black_in_bytes c.args.shading.now c.args.row.now) c.args.page.now.width c.args.y (image_of c.args.page.now) (image_of c.loop-at.page) c.loop-at.at
    (map (black_of c.args.shading.now) (grouped kind row)) c.loop-at.invariant.words (omega arith)
    (λ u past. white_past (image_of c.args.page.now) c.args.page.now.width c.args.page.now.height c.width-width.ensures.fits u c.args.y past)
    (length-map (grouped kind row) (black_of c.args.shading.now) ∙ len)
    (λ u h. shaded kind (is_black_at c.args.shading.now) u row (omega (arith, len)))

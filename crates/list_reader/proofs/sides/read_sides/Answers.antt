use Rattle.std.proofs.Common.{◌++◌, ap, ◌∙◌, codes, drop, arith}
use Rattle.std.specs.Prelude.{decimal}
use Rattle.list_reader.proofs.NoResult.{if_none}
use Rattle.list_reader.proofs.SidesLines.{behind_width, behind_height, after_first, second, after_second, third, after_third}
use Rattle.list_reader.proofs.sides.read_sides.Goals as goal
use Rattle.list_reader.proofs.sides.read_sides.Goals.{then-width-eq0-via-then-width-eq0, then-width-eq0-via-else-width-eq0+then-height-eq0}

pub returns-in_err-after_width-clause-none : goal.returns-in_err-after_width-clause-none
returns-in_err-after_width-clause-none c = if_none c.from_residual-in_err-after_width.result (λ width height count rest line.
    c.in_err-after_width.ensures.none (behind_width height count rest)
    (after_first c.args.word.now c.args.text.now width height count rest line (record { after = drop c.in_ok-after_word.after_word c.args.text.now; is = c.in_ok-after_word.ensures.some })
    (record { value = c.in_ok-width.width.value; after = drop c.in_ok-width.width.end c.args.text.now; is = rw c.from.ensures at c.in_ok-width.ensures.some })).1)

pub returns-in_err-height-clause-none : goal.returns-in_err-height-clause-none
returns-in_err-height-clause-none c = if_none c.from_residual-in_err-height.result (λ width height count rest line.
    (rw c.from-2.ensures at c.in_err-height.ensures.none) height (codes " " ++ behind_height count rest)
    (second c.args.word.now c.args.text.now width height count rest line (record { after = drop c.in_ok-after_word.after_word c.args.text.now; is = c.in_ok-after_word.ensures.some })
    (record { value = c.in_ok-width.width.value; after = drop c.in_ok-width.width.end c.args.text.now; is = rw c.from.ensures at c.in_ok-width.ensures.some })
    (record { after = drop c.in_ok-after_width.after_width c.args.text.now; is = c.in_ok-after_width.ensures.some })))

pub returns-in_err-after_height-clause-none : goal.returns-in_err-after_height-clause-none
returns-in_err-after_height-clause-none c = if_none c.from_residual-in_err-after_height.result (λ width height count rest line.
    c.in_err-after_height.ensures.none (behind_height count rest)
    (after_second c.args.word.now c.args.text.now width height count rest line (record { after = drop c.in_ok-after_word.after_word c.args.text.now; is = c.in_ok-after_word.ensures.some })
    (record { value = c.in_ok-width.width.value; after = drop c.in_ok-width.width.end c.args.text.now; is = rw c.from.ensures at c.in_ok-width.ensures.some })
    (record { after = drop c.in_ok-after_width.after_width c.args.text.now; is = c.in_ok-after_width.ensures.some })
    (record { value = c.in_ok-height.height.value; after = drop c.in_ok-height.height.end c.args.text.now; is = rw c.from-2.ensures at c.in_ok-height.ensures.some })).1)

pub returns-in_err-count-clause-none : goal.returns-in_err-count-clause-none
returns-in_err-count-clause-none c = if_none c.from_residual-in_err-count.result (λ width height count rest line.
    (rw c.from-3.ensures at c.in_err-count.ensures.none) count (codes "\n" ++ rest)
    (third c.args.word.now c.args.text.now width height count rest line (record { after = drop c.in_ok-after_word.after_word c.args.text.now; is = c.in_ok-after_word.ensures.some })
    (record { value = c.in_ok-width.width.value; after = drop c.in_ok-width.width.end c.args.text.now; is = rw c.from.ensures at c.in_ok-width.ensures.some })
    (record { after = drop c.in_ok-after_width.after_width c.args.text.now; is = c.in_ok-after_width.ensures.some })
    (record { value = c.in_ok-height.height.value; after = drop c.in_ok-height.height.end c.args.text.now; is = rw c.from-2.ensures at c.in_ok-height.ensures.some })
    (record { after = drop c.in_ok-after_height.after_height c.args.text.now; is = c.in_ok-after_height.ensures.some })))

pub returns-in_err-end-clause-none : goal.returns-in_err-end-clause-none
returns-in_err-end-clause-none c = if_none c.from_residual-in_err-end.result (λ width height count rest line.
    c.in_err-end.ensures.none rest
    (after_third c.args.word.now c.args.text.now width height count rest line (record { after = drop c.in_ok-after_word.after_word c.args.text.now; is = c.in_ok-after_word.ensures.some })
    (record { value = c.in_ok-width.width.value; after = drop c.in_ok-width.width.end c.args.text.now; is = rw c.from.ensures at c.in_ok-width.ensures.some })
    (record { after = drop c.in_ok-after_width.after_width c.args.text.now; is = c.in_ok-after_width.ensures.some })
    (record { value = c.in_ok-height.height.value; after = drop c.in_ok-height.height.end c.args.text.now; is = rw c.from-2.ensures at c.in_ok-height.ensures.some })
    (record { after = drop c.in_ok-after_height.after_height c.args.text.now; is = c.in_ok-after_height.ensures.some })
    (record { value = c.in_ok-count.count.value; after = drop c.in_ok-count.count.end c.args.text.now; is = rw c.from-3.ensures at c.in_ok-count.ensures.some })).1)

pub returns-then-width-eq0-clause-none : goal.returns-then-width-eq0-clause-none
returns-then-width-eq0-clause-none c = λ width height count rest line.
    let one = (after_first c.args.word.now c.args.text.now width height count rest line (record { after = drop c.in_ok-after_word.after_word c.args.text.now; is = c.in_ok-after_word.ensures.some })
    (record { value = c.in_ok-width.width.value; after = drop c.in_ok-width.width.end c.args.text.now; is = rw c.from.ensures at c.in_ok-width.ensures.some })).0 in
    let two = (after_second c.args.word.now c.args.text.now width height count rest line (record { after = drop c.in_ok-after_word.after_word c.args.text.now; is = c.in_ok-after_word.ensures.some })
    (record { value = c.in_ok-width.width.value; after = drop c.in_ok-width.width.end c.args.text.now; is = rw c.from.ensures at c.in_ok-width.ensures.some })
    (record { after = drop c.in_ok-after_width.after_width c.args.text.now; is = c.in_ok-after_width.ensures.some })
    (record { value = c.in_ok-height.height.value; after = drop c.in_ok-height.height.end c.args.text.now; is = rw c.from-2.ensures at c.in_ok-height.ensures.some })).0 in
    let some = line.some_width in
    let also = line.some_height in
    elim c.then-width-eq0.branch [ then-width-eq0-via-then-width-eq0 w ↦ omega arith | then-width-eq0-via-else-width-eq0+then-height-eq0 w ↦ omega arith ]

-- the whole line has been read
pub returns-clause-some : goal.returns-clause-some
returns-clause-some c =
    let width = rw c.from.ensures at c.in_ok-width.ensures.some in
    let height = rw c.from-2.ensures at c.in_ok-height.ensures.some in
    let count = rw c.from-3.ensures at c.in_ok-count.ensures.some in
    let behind = count.text ∙ ap (λ l. decimal c.in_ok-count.count.value ++ l) c.in_ok-end.ensures.some in
    let later = height.text ∙ ap (λ l. decimal c.in_ok-height.height.value ++ l) (c.in_ok-after_height.ensures.some ∙ ap (λ l. codes " " ++ l) behind) in
    let all = width.text ∙ ap (λ l. decimal c.in_ok-width.width.value ++ l) (c.in_ok-after_width.ensures.some ∙ ap (λ l. codes " " ++ l) later) in
    record {
      is = c.in_ok-after_word.ensures.some ∙ ap (λ l. c.args.word.now ++ l) all;
      some_width = omega arith;
      wide = width.few;
      some_height = omega arith;
      high = height.few;
      few = omega (arith, count.few);
    }

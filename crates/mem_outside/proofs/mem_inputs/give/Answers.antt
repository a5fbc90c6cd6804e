use Rattle.std.proofs.Common.{◌≡◌, ◌-◌, ◌∙◌, ap, sym, length, drop, take, min, length-drop, arith}
use Rattle.mem_outside.specs.MemInputs.{bytes_at}
use Rattle.mem_outside.proofs.FirstFiles.{bytes_at-place, given, opened_at-place}
use Rattle.mem_outside.proofs.mem_inputs.give.Goals as goal

pub copy_from-requires-clause-within : goal.copy_from-requires-clause-within
copy_from-requires-clause-within c =
    let file = c.index-files-at.result in
    let same : length (bytes_at c.args.files.now c.args.at) ≡ length c.as_slice.result.now =
    ap length (bytes_at-place file c.args.files.now c.args.at c.requires.place c.index-files-at.is ∙ sym c.as_slice.ensures.value) in
    omega (arith, same, c.requires.reached.offset_within)

pub returns-clause-given : goal.returns-clause-given
returns-clause-given c =
    let file = c.index-files-at.result in
    let rest = drop c.args.offset file.bytes.items in
    let count : c.copy_from.result ≡ min (length rest) (min c.args.most (length c.copy_from.new.buf)) =
    c.copy_from.ensures.count ∙ ap (λ xs. min (length xs - c.args.offset) (min c.args.most (length c.copy_from.new.buf))) c.as_slice.ensures.value
    ∙ ap (λ n. min n (min c.args.most (length c.copy_from.new.buf))) (sym (length-drop c.args.offset file.bytes.items)) in
    let same : take c.copy_from.result c.copy_from.new.buf ≡ take c.copy_from.result rest =
    c.copy_from.ensures.same ∙ ap (λ xs. take c.copy_from.result (drop c.args.offset xs)) c.as_slice.ensures.value in
    rw (opened_at-place file c.args.files.now c.args.at c.args.offset c.requires.place c.index-files-at.is)
    (given rest c.copy_from.new.buf c.copy_from.result c.args.most c.requires.some count same)

pub returns-clause-within : goal.returns-clause-within
returns-clause-within c =
    let file = c.index-files-at.result in
    let same : length (bytes_at c.args.files.now c.args.at) ≡ length c.as_slice.result.now =
    ap length (bytes_at-place file c.args.files.now c.args.at c.requires.place c.index-files-at.is ∙ sym c.as_slice.ensures.value) in
    omega (arith, same, c.requires.reached.offset_within, c.copy_from.ensures.count)

pub returns-clause-on : goal.returns-clause-on
returns-clause-on c =
    let file = c.index-files-at.result in
    let same : length (bytes_at c.args.files.now c.args.at) ≡ length c.as_slice.result.now =
    ap length (bytes_at-place file c.args.files.now c.args.at c.requires.place c.index-files-at.is ∙ sym c.as_slice.ensures.value) in
    record { place = c.requires.place; offset_within = omega (arith, same, c.requires.reached.offset_within, c.copy_from.ensures.count) }

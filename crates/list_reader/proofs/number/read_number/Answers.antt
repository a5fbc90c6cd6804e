use Rattle.std.proofs.Common.{◌<◌, ◌≤◌, ◌-◌, ◌^◌, ◌++◌, take, drop, ap, sym, ◌∙◌, arith}
use Rattle.pt_base.specs.Whole.{value_after}
use Rattle.list_reader.proofs.Runs.{part_and_rest, part_digits, stops_there, digits_are, value_of_decimal}
use Rattle.list_reader.proofs.number.read_number.Goals as goal

pub returns-clause-some : goal.returns-clause-some
returns-clause-some c =
    let text = c.args.text.now in
    let at = c.args.at in
    let end = c.digits_end-end.result in
    let part = take (end - at) (drop at text) in
    let few : c.in-Some.value ≤ c.args.most = omega (arith, c.from.ensures) in
    let small : c.in-Some.value < 2 ^ 64 = omega arith in
    record {
      text = part_and_rest text at end c.digits_end-end.ensures.onwards ∙ ap (λ ds. ds ++ drop end text) (sym (c.in-Some.ensures.some.plain small));
      few = few;
      ends = stops_there text end c.digits_end-end.ensures.stops;
    }

pub returns-then-from-value-clause-none : goal.returns-then-from-value-clause-none
returns-then-from-value-clause-none c = λ n rest number.
    let text = c.args.text.now in
    let at = c.args.at in
    let end = c.digits_end-end.result in
    let part = take (end - at) (drop at text) in
    let digits = part_digits text at end c.digits_end-end.ensures.onwards c.digits_end-end.ensures.within c.digits_end-end.ensures.digits in
    let same = (digits_are c.args.most (drop at text) part (drop end text) n rest (omega arith) (part_and_rest text at end c.digits_end-end.ensures.onwards)
    digits (stops_there text end c.digits_end-end.ensures.stops) number).0 in
    let few = number.few in
    omega (arith, c.in-Some.ensures.some.value, ap (value_after 0) same, value_of_decimal n (omega arith), c.from.ensures)

pub returns-in_default-clause-none : goal.returns-in_default-clause-none
returns-in_default-clause-none c = λ n rest number.
    let text = c.args.text.now in
    let at = c.args.at in
    let end = c.digits_end-end.result in
    let part = take (end - at) (drop at text) in
    let digits = part_digits text at end c.digits_end-end.ensures.onwards c.digits_end-end.ensures.within c.digits_end-end.ensures.digits in
    let same = (digits_are c.args.most (drop at text) part (drop end text) n rest (omega arith) (part_and_rest text at end c.digits_end-end.ensures.onwards)
    digits (stops_there text end c.digits_end-end.ensures.stops) number).0 in
    let few = number.few in
    c.in_default.ensures.none n (omega arith) (sym same)

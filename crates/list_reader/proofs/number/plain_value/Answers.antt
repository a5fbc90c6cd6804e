use Rattle.std.proofs.Common.{◌<◌, ◌^◌, subst}
use Rattle.list_reader.specs.Inner.Numerals.{IsPlain}
use Rattle.list_reader.proofs.Runs.{plain_decimal, decimal_of_value}
use Rattle.list_reader.proofs.number.plain_value.Goals as goal

pub returns-then-not-is_plain-clause-none : goal.returns-then-not-is_plain-clause-none
returns-then-not-is_plain-clause-none c = λ n small same.
    let yes = c.is_plain.ensures.1 (subst IsPlain same (plain_decimal n small)) in
    let no = c.if-not-is_plain.true in
    absurd (cc)

pub returns-clause-some : goal.returns-clause-some
returns-clause-some c =
    let plain = c.is_plain.ensures.0 c.if-not-is_plain.false in
    record {
      some = plain.0;
      value = c.value_of.ensures;
      plain = λ small. rw c.value_of.ensures (decimal_of_value c.args.digits.now c.requires plain.0 plain.2 (subst (λ n. n < 2 ^ 64) c.value_of.ensures small));
    }

use Rattle.std.proofs.Common.{◌++◌, drop, arith}
use Rattle.std.specs.Prelude.{decimal}
use Rattle.list_reader.proofs.NoResult.{if_none}
use Rattle.list_reader.proofs.NumberPairs.{behind_first, second_number}
use Rattle.list_reader.proofs.pair.read_pair.Goals as goal

pub returns-in_err-behind-clause-none : goal.returns-in_err-behind-clause-none
returns-in_err-behind-clause-none c = if_none c.from_residual-in_err-behind.result (λ first second rest pair.
    (let text = c.args.text.now in
    let both = behind_first c.args.separator c.args.most_first c.args.most_second c.requires.separator (omega arith) (omega arith)
    (drop c.args.at text) (drop c.in_ok-spaced.spaced text) c.in_ok-first.first.value (drop c.in_ok-first.first.end text)
    first second rest c.in_ok-spaced.ensures.some c.in_ok-first.ensures.some pair in
    c.in_err-behind.ensures.none (decimal second ++ rest) both.1))

pub returns-in_err-second-clause-none : goal.returns-in_err-second-clause-none
returns-in_err-second-clause-none c = if_none c.from_residual-in_err-second.result (λ first second rest pair.
    (let text = c.args.text.now in
    c.in_err-second.ensures.none second rest
    (second_number c.args.separator c.args.most_first c.args.most_second c.requires.separator (omega arith) (omega arith)
    (drop c.args.at text) (drop c.in_ok-spaced.spaced text) c.in_ok-first.first.value (drop c.in_ok-first.first.end text)
    (drop c.in_ok-behind.behind text)
    first second rest c.in_ok-spaced.ensures.some c.in_ok-first.ensures.some c.in_ok-behind.ensures.some pair)))

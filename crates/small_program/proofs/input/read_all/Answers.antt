use Rattle.std.proofs.Common.{arith}
use Rattle.small_program.proofs.TakenInput.{input_of_taken, nothing_taken}
use Rattle.small_program.proofs.input.read_all.Goals as goal

-- if the bytes that were read are more than a program takes, so is the whole input
pub returns-in-Ok-clause-too_long : goal.returns-in-Ok-clause-too_long
returns-in-Ok-clause-too_long g c = λ is.
    let files = g.I.Inputs.files c.args.inputs.now in
    let (taken, size, has) = c.read_on.ensures.too_long is in
    let all = input_of_taken files (g.I.Inputs.files c.read_on.new.inputs) taken
    (has files (nothing_taken files _ c.in-Ok.ensures.file (λ lacks. let never = c.in-Ok.ensures.absent.1 lacks in cc))) in
    (all.0, all.1, omega (arith, size, all.2))

use Rattle.std.proofs.Common.{ℕ, ◌<◌, ◌≤◌, ◌/◌, ◌^◌, arith, length}
use Rattle.std.proofs.lemmas.Fmt.{length-decimal-le}
use Rattle.std.specs.Fmt.{decimal}
use Rattle.pt_core.proofs.written.write_fixed.Goals as goal

-- the whole part has at most 20 digits
few : (n : ℕ) → n < 2 ^ 64 → length (decimal (n / 1000)) ≤ 20
few n h = length-decimal-le 20 (n / 1000) (omega arith) (omega arith) (omega arith)

pub write_digits-start-requires : goal.write_digits-start-requires
write_digits-start-requires c =
    let digits = few c.unsigned_abs-size.result (omega arith) in
    let point = c.write_decimals-start.ensures.start in
    (omega arith, omega arith)

pub write_before-requires-clause-room : goal.write_before-requires-clause-room
write_before-requires-clause-room c =
    let digits = few c.unsigned_abs-size.result (omega arith) in
    let point = c.write_decimals-start.ensures.start in
    let start = c.write_digits-start.ensures.start in
    omega arith

pub returns-then-thousandths-lt0-clause-start : goal.returns-then-thousandths-lt0-clause-start
returns-then-thousandths-lt0-clause-start c =
    let digits = few c.unsigned_abs-size.result (omega arith) in
    let point = c.write_decimals-start.ensures.start in
    let start = c.write_digits-start.ensures.start in
    let before = c.write_before.ensures.start in
    omega arith

pub returns-else-thousandths-lt0-clause-start : goal.returns-else-thousandths-lt0-clause-start
returns-else-thousandths-lt0-clause-start c =
    let digits = few c.unsigned_abs-size.result (omega arith) in
    let point = c.write_decimals-start.ensures.start in
    let start = c.write_digits-start.ensures.start in
    omega arith

use Rattle.std.proofs.Common.{◌∷◌, ◌++◌, ◌∙◌, ap, drop, arith}
use Rattle.std.specs.Prelude.{decimal}
use Rattle.pt_base.specs.PointsText.{sign_text}
use Rattle.list_reader.proofs.NoResult.{if_none}
use Rattle.list_reader.proofs.SignedAreas.{behind_sign, area_there}
use Rattle.list_reader.proofs.sign.read_signed_area.Goals as goal

pub returns-in_err-signed-clause-none : goal.returns-in_err-signed-clause-none
returns-in_err-signed-clause-none c = if_none c.from_residual.result (λ sign area rest signed.
    c.in_err-signed.ensures.none sign (32 ∷ (decimal area ++ rest)) signed.is)

pub returns-in_err-spaced-clause-none : goal.returns-in_err-spaced-clause-none
returns-in_err-spaced-clause-none c = if_none c.from_residual-in_err-spaced.result (λ sign area rest signed.
    (let text = c.args.text.now in
    let read = c.in_ok-signed.ensures.some in
    c.in_err-spaced.ensures.none (decimal area ++ rest)
    (behind_sign (drop c.args.at text) sign area rest signed read.0 (drop c.in_ok-signed.signed text) read.1).1))

pub returns-in_err-area-clause-none : goal.returns-in_err-area-clause-none
returns-in_err-area-clause-none c = if_none c.from_residual-in_err-area.result (λ sign area rest signed.
    (let text = c.args.text.now in
    let read = c.in_ok-signed.ensures.some in
    c.in_err-area.ensures.none area rest
    (area_there (drop c.args.at text) sign area rest signed read.0 (drop c.in_ok-signed.signed text) read.1
    (drop c.in_ok-spaced.spaced text) c.in_ok-spaced.ensures.some)))

pub returns-clause-some : goal.returns-clause-some
returns-clause-some c =
    let read = c.in_ok-signed.ensures.some in
    let number = c.in_ok-area.ensures.some in (
      read.0,
      c.in_ok-area.area.value,
      record {
        is = read.1 ∙ ap (λ l. sign_text read.0 ++ l) (c.in_ok-spaced.ensures.some ∙ ap (λ l. 32 ∷ l) number.text);
        few = omega (arith, number.few);
        ends = number.ends;
      },
    )

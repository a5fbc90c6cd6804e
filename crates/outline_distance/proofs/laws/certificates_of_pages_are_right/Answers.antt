use Rattle.std.proofs.Common.{codes, refl}
use Rattle.outline_check_run.proofs.RightTexts.{found_right}
use Rattle.outline_distance.proofs.Certifying.{right_page}
use Rattle.outline_distance.proofs.laws.certificates_of_pages_are_right.Goals as goal

pub returns : goal.returns
returns c = record {
  right = right_page;
  found = λ page settings text is_page proofs first document.
      let found = right_page page settings text is_page proofs first document in (
        found.0,
        found.1,
        λ ending source source_now old now ran tells few.
            found_right (codes "outline_check") text _ 0 ending source source_now old now ran refl tells few found.2,
      );
}

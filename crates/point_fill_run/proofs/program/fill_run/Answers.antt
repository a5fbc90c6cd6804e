use Rattle.point_fill.proofs.Traced.{traced}
use Rattle.point_fill_run.proofs.RoundTrip.{page_comes_back}
use Rattle.point_fill_run.proofs.program.fill_run.Goals as goal

-- the points text of a page fills that page
pub returns-clause-gives_back : goal.returns-clause-gives_back
returns-clause-gives_back g c = λ page policy all is_page decomposed none tells few.
    (c.run.result, c.code.ensures, page_comes_back _ page _ c.run.result _ _ _ _ c.run.ensures none tells few (traced page policy all is_page decomposed))

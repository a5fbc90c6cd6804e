-- What a document holds if writing it failed.
use Rattle.std.proofs.Common.{◌≡◌, ℕ, ◌*◌, ◌≤◌, ◌<◌, inl, inr, List, [], ◌++◌, length, take, get_or, min, refl, ap, sym, ◌∙◌, subst, arith, Option, None, Some, append-nil, length-append}
use Rattle.std.proofs.lemmas.List.{get_or_append_left, take-append-le}
use Rattle.pt_core.specs.Documents.{Documents, IsCutOff, with_bytes, with_end, with_open, with_whole}
use Rattle.mkbitmap_run.specs.PageHeader.{PageHeader}
use Rattle.mkbitmap.specs.Enlarged.{need}
use Rattle.mkbitmap.proofs.Order.{need-ends, need-rises}
use Rattle.run_output.specs.Names.{dash}
use Rattle.mkbitmap_words.specs.declared.setup.Setup.{Setup}
use Rattle.mkbitmap_run.specs.FilterRun.{IsCutAt, need_of, rows_above, HasFirstRows}
use Rattle.mkbitmap_run.specs.Inner.Put.{PutsRows}
use Rattle.mkbitmap_run.specs.Result.{result_head, result_row, result_rows, result_text, scan_of}
use Rattle.mkbitmap_run.proofs.ResultRows.{front_is, rows_end}

pub opened_with : (told : Option Documents) (name bytes more : List ℕ) → with_bytes (with_open told name bytes) more ≡ with_open told name (bytes ++ more)
opened_with None name bytes more = refl
opened_with (Some ds) name bytes more = refl

pub ended_with : (told : Option Documents) (name bytes : List ℕ) → with_end (with_open told name bytes) ≡ with_whole told name bytes
ended_with None name bytes = refl
ended_with (Some ds) name bytes = refl

-- the page of some rows begins with the first of them
pub scan_begins : (header : PageHeader) (rows more : List (List ℕ)) → HasFirstRows header rows (scan_of header (rows ++ more))
scan_begins header rows more = record {
  width = refl;
  height = refl;
  maxval = refl;
  bright = λ x y. omega arith;
  row = λ y within. record { sample = λ x across. ap (λ (r : List ℕ). min (get_or r x 0) header.maxval) (get_or_append_left rows more [] y within) };
}

pub scan_is : (header : PageHeader) (rows : List (List ℕ)) → HasFirstRows header rows (scan_of header rows)
scan_is header rows = subst (λ (l : List (List ℕ)). HasFirstRows header rows (scan_of header l)) (append-nil rows) (scan_begins header rows [])

module _ (setup : Setup) (header : PageHeader) (some : 1 ≤ setup.times) (tall : 1 ≤ header.height) where
  -- the document has exactly the rows above row Y if the page's rows suffice for these and no others
  pub text_above : (rows : List (List ℕ)) (Y : ℕ) (old new : Option Documents) → Y ≤ setup.times * header.height → ((y : ℕ) → y < Y → need_of setup header y ≤ length rows)
      → length rows ≤ need header.height setup.radius setup.times Y → PutsRows setup header rows Y (with_open old dash (result_head setup header)) new
      → new ≡ with_open old dash (result_text setup header rows)
  text_above rows Y old new within enough few puts =
      puts (scan_of header rows) (scan_is header rows) ∙ opened_with old dash (result_head setup header) (rows_above setup (scan_of header rows) Y)
      ∙ ap (λ (l : List ℕ). with_open old dash (result_head setup header ++ l))
      (sym (rows_end setup (scan_of header rows) some tall (length rows) Y (setup.times * header.height) within (λ y below. let e = enough y below in omega (arith, e)) few))

  -- a document that was cut off is a prefix of the document for more rows of the page
  pub cut_of_more : (rows more : List (List ℕ)) (old new : Option Documents) → IsCutAt setup header rows old new → IsCutOff old new dash (result_text setup header (rows ++ more))
  cut_of_more rows more old new (inl (none, inl same)) = inl same
  cut_of_more rows more old new (inl (none, inr (n, most, is))) =
      let head = result_head setup header in
      let all = rows ++ more in
      let rest = result_rows setup (scan_of header all) (length all) (setup.times * header.height) in
      inr (n, omega (arith, most, length-append head rest), is ∙ ap (with_open old dash) (sym (take-append-le n head rest most)))
  cut_of_more rows more old new (inr (Y, within, read, puts)) =
      let head = result_head setup header in
      let all = rows ++ more in
      let page = scan_of header all in
      let (n, most, is) = puts page (scan_begins header rows more) in
      let more_rows : length rows ≤ length all = omega (arith, length-append rows more) in
      let (k, short, front) = front_is setup page some tall head (length all) Y (setup.times * header.height) n within
      (λ y below. let rises = need-rises header.height setup.radius setup.times y Y some tall (omega (arith, below)) in omega (arith, rises, read, more_rows)) most in
      inr (k, short, is ∙ opened_with old dash head (rows_above setup page Y ++ take n (result_row setup page Y)) ∙ ap (with_open old dash) (sym front))

  -- at most the page's rows were read
  pub cut_few : (rows : List (List ℕ)) (old new : Option Documents) → IsCutAt setup header rows old new → length rows ≤ header.height
  cut_few rows old new (inl (none, cut)) = rw none (omega arith)
  cut_few rows old new (inr (Y, within, read, puts)) = let ends = need-ends header.height setup.radius setup.times Y some tall in omega (arith, read, ends)

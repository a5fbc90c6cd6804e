use Rattle.std.proofs.Common.{ℕ, List, [], ◌∷◌, ap, inl, refl}
use Rattle.run_output.specs.Names.{dash}
use Rattle.page_batches.specs.Items.{Doc}
use Rattle.potrace_main.proofs.Completing.{input_of_text}
use Rattle.potrace_main.proofs.top.carry_out.Goals as goal

-- one text is written
pub returns-in-Help-clause-ran : goal.returns-in-Help-clause-ran
returns-in-Help-clause-ran g c = rw c.in-Help.is (record {
  outcome = (_, ap (λ (text : List ℕ). Doc dash text ∷ []) c.help_text.ensures, c.write_text.ensures.ended);
  opened = inl (refl, refl);
  input = input_of_text c.write_text.result _ _ _ _ c.write_text.ensures.ended;
  one_pass = λ is. tt;
  one_batch = λ is. tt;
})

pub returns-in-Version-clause-ran : goal.returns-in-Version-clause-ran
returns-in-Version-clause-ran g c = rw c.in-Version.is (record {
  outcome = (_, ap (λ (text : List ℕ). Doc dash text ∷ []) c.version_text.ensures, c.write_text-in-Version.ensures.ended);
  opened = inl (refl, refl);
  input = input_of_text c.write_text-in-Version.result _ _ _ _ c.write_text-in-Version.ensures.ended;
  one_pass = λ is. tt;
  one_batch = λ is. tt;
})

pub returns-in-Demo-clause-ran : goal.returns-in-Demo-clause-ran
returns-in-Demo-clause-ran g c =
    let (text, is, ended) = c.write_demo.ensures.ended in
    rw c.in-Demo.is (record {
      outcome = (Doc dash text ∷ [], (text, is, refl), ended);
      opened = inl (refl, refl);
      input = input_of_text c.write_demo.result _ _ _ _ ended;
      one_pass = λ is. tt;
      one_batch = λ is. tt;
    })

-- files are read, and their pages traced
pub returns-in-Files-clause-ran : goal.returns-in-Files-clause-ran
returns-in-Files-clause-ran g c = rw c.in-Files.is (record {
  outcome = rw (c.text_of-output.ensures, c.as_slice.ensures, c.from_micro.ensures, c.new-job.ensures, c.of.ensures, c.backend_suffix.ensures) at c.convert_files.ensures.outcome;
  opened = rw c.as_slice.ensures at c.convert_files.ensures.opened;
  input = c.convert_files.ensures.input;
  one_pass = λ is. rw (c.text_of-output.ensures, c.as_slice.ensures, c.from_micro.ensures, c.new-job.ensures, c.of.ensures, c.backend_suffix.ensures) at c.convert_files.ensures.one_pass is;
  one_batch = λ is. rw (c.text_of-output.ensures, c.as_slice.ensures, c.from_micro.ensures, c.new-job.ensures, c.of.ensures, c.backend_suffix.ensures) at c.convert_files.ensures.one_batch is;
})

-- the desk is the same
pub returns-in-Help-clause-keeps : goal.returns-in-Help-clause-keeps
returns-in-Help-clause-keeps g c = c.write_text.ensures.keeps

pub returns-in-Version-clause-keeps : goal.returns-in-Version-clause-keeps
returns-in-Version-clause-keeps g c = c.write_text-in-Version.ensures.keeps

pub returns-in-Demo-clause-keeps : goal.returns-in-Demo-clause-keeps
returns-in-Demo-clause-keeps g c = c.write_demo.ensures.keeps

pub returns-in-Files-clause-keeps : goal.returns-in-Files-clause-keeps
returns-in-Files-clause-keeps g c = c.convert_files.ensures.keeps

use Rattle.std.proofs.Common.{ℕ, List, subst}
use Rattle.run_output.specs.Told.{IsMessage, told_of}
use Rattle.mkbitmap_run.specs.FilterRun.{page_says}
use Rattle.mkbitmap_run.proofs.HeaderEndings.{refused_cause}
use Rattle.mkbitmap_run.proofs.say.say_fault.Goals as goal

pub returns-in-ReadFault-clause-says : goal.returns-in-ReadFault-clause-says
returns-in-ReadFault-clause-says g c =
    subst (λ (l : List ℕ). IsMessage (page_says l) (told_of g.E.Sink c.args.errs.now) (told_of g.E.Sink c.say_of_file_page.new.errs)) c.text.ensures
    c.say_of_file_page.ensures.says

pub returns-in-NoMemory-clause-says : goal.returns-in-NoMemory-clause-says
returns-in-NoMemory-clause-says g c =
    subst (λ (l : List ℕ). IsMessage (page_says l) (told_of g.E.Sink c.args.errs.now) (told_of g.E.Sink c.say_of_file_page.new.errs)) c.text.ensures
    c.say_of_file_page.ensures.says

-- a refusal isn't a read fault
pub returns-in_default : goal.returns-in_default
returns-in_default g c = record {
  ending = refused_cause c.args.fault c.in_default.not-ReadFault c.in_default.not-NoMemory;
  says = subst (λ (l : List ℕ). IsMessage (page_says l) (told_of g.E.Sink c.args.errs.now) (told_of g.E.Sink c.say_of_file_page.new.errs)) c.text.ensures
      c.say_of_file_page.ensures.says;
}

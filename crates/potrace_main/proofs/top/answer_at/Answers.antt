use Rattle.std.proofs.Common.{◌≡◌, Err, ap, inl, map, refl}
use Rattle.std.specs.Prelude.{string_bytes}
use Rattle.run_output.specs.Messages.{bad_words, out_of_memory}
use Rattle.run_output.specs.declared.status.Status.TheVariants as status
use Rattle.potrace_words.specs.Asked.{IsAsked}
use Rattle.potrace_words.proofs.OneAsk.{one_ask}
use Rattle.potrace_words.proofs.Possible.{possible}
use Rattle.page_batches.proofs.Carrying.{only_said}
use Rattle.page_batches.proofs.Counts.{same_count}
use Rattle.potrace_main.proofs.Completing.{asked_moves, lost_at_once, never_refuses, out_at_once}
use Rattle.potrace_main.proofs.top.answer_at.Goals as goal

-- what the words ask for is done
pub returns-in-Ok-clause-answered : goal.returns-in-Ok-clause-answered
returns-in-Ok-clause-answered g c = record {
  ran = λ ask asked. rw (one_ask (map string_bytes c.args.words.now) ask c.in-Ok.ask asked c.in-Ok.ensures.ok) c.carry_out.ensures.ran;
  bad_words = λ is ask asked. never_refuses c.in-Ok.ask _ _ _ _ (rw is at c.carry_out.ensures.ran);
  refused = λ none. absurd (none c.in-Ok.ask c.in-Ok.ensures.ok);
  input = c.carry_out.ensures.ran.input;
  output = asked_moves (IsAsked (map string_bytes c.args.words.now)) c.in-Ok.ask c.in-Ok.ensures.ok c.carry_out.result _ _ _ _ c.requires.closed c.carry_out.ensures.ran.outcome;
}

-- the words ask for nothing: nothing was written
pub returns-in-Err-Bad-clause-answered : goal.returns-in-Err-Bad-clause-answered
returns-in-Err-Bad-clause-answered g c = record {
  ran = λ ask asked. absurd (c.in-Err-Bad.ensures.bad (ap Err c.in-Err-Bad.field-0-is) ask asked);
  bad_words = λ is. c.in-Err-Bad.ensures.bad (ap Err c.in-Err-Bad.field-0-is);
  refused = λ none. (refl, only_said bad_words _ _ (record { outs = refl; opened = refl }) c.say_bad_words.ensures.says);
  input = refl;
  output = (record { steady = refl; went = refl }, λ all. c.requires.closed);
}

-- memory ran out while they were read: nothing was written
pub returns-in-Err-NoMemory-clause-answered : goal.returns-in-Err-NoMemory-clause-answered
returns-in-Err-NoMemory-clause-answered g c = record {
  ran = λ ask asked. record {
    outcome = out_at_once (λ settings can output page is. c.pages_have_documents.ensures page settings is can) ask _ _ _ (possible (map string_bytes c.args.words.now) ask asked)
        (only_said out_of_memory _ _ (record { outs = refl; opened = refl }) c.say_out_of_memory.ensures.says);
    opened = inl (refl, refl);
    input = tt;
    one_pass = λ e. absurd (let no : status.OutOfMemory ≡ status.Unwritten = e in cc);
    one_batch = λ e. lost_at_once (λ settings can output page is. c.pages_have_documents.ensures page settings is can) ask _ _ _ (possible (map string_bytes c.args.words.now) ask asked)
        (only_said out_of_memory _ _ (record { outs = refl; opened = refl }) c.say_out_of_memory.ensures.says);
  };
  bad_words = λ e. absurd (let no : status.OutOfMemory ≡ status.BadWords = e in cc);
  refused = λ none. (refl, only_said out_of_memory _ _ (record { outs = refl; opened = refl }) c.say_out_of_memory.ensures.says);
  input = tt;
  output = (record { steady = refl; went = refl }, λ all. c.requires.closed);
}

-- the desk is the same
pub returns-in-Ok-clause-keeps : goal.returns-in-Ok-clause-keeps
returns-in-Ok-clause-keeps g c = c.carry_out.ensures.keeps

pub returns-in-Err-Bad-clause-keeps : goal.returns-in-Err-Bad-clause-keeps
returns-in-Err-Bad-clause-keeps g c = record { outs = refl; errs = refl; ready = c.say_bad_words.ensures.stays_ready; never_falls = same_count (g.O.Sink.faults c.args.desk.now.outs.now) }

pub returns-in-Err-NoMemory-clause-keeps : goal.returns-in-Err-NoMemory-clause-keeps
returns-in-Err-NoMemory-clause-keeps g c = record { outs = refl; errs = refl; ready = c.say_out_of_memory.ensures.stays_ready; never_falls = same_count (g.O.Sink.faults c.args.desk.now.outs.now) }

use Rattle.std.proofs.Common.{◌≡◌, refl, length, rules}
use Rattle.small_program.proofs.Endings.{run_replied, run_stopped}
use Rattle.small_program.proofs.program.run.Goals as goal

-- standard input couldn't be read to its end
pub returns-in-Err : goal.returns-in-Err
returns-in-Err g c =
    let none : length c.args.words.now ≡ 0 = search rules in
    rw c.say_stop.ensures.ending (run_stopped _ _ _ c.in-Err.stop _ _ _ _ none
    (record {
      opened = c.read_all.ensures.one_opening;
      too_long = λ is. c.in-Err.ensures.too_long (cc);
      bound = λ is. c.in-Err.ensures.bound (cc);
      unread = λ is. c.in-Err.ensures.unread (cc);
      missing = λ lacks. let missing = c.in-Err.ensures.missing lacks in cc;
      steady = c.in-Err.ensures.steady_stop;
    }) (record { same = refl; same_open = refl; says = c.say_stop.ensures.says }))

-- there is a reply
pub returns-in-Ok-reply : goal.returns-in-Ok-reply
returns-in-Ok-reply g c =
    let none : length c.args.words.now ≡ 0 = search rules in
    run_replied _ _ _ c.in-Ok.bytes.items _ _ c.put_reply.result _ _ _ _ none
    (record {
      takes = record { opened = c.read_all.ensures.one_opening; steady = c.in-Ok.ensures.steady; has = c.in-Ok.ensures.whole };
      few = c.in-Ok.ensures.few;
      made = c.in-Ok-reply.ensures;
      one = λ text other other_made. g.met.T.Replies.one_ending c.args.task.now c.in-Ok.bytes.items _ text _ other c.in-Ok-reply.ensures other_made;
    }) c.put_reply.ensures

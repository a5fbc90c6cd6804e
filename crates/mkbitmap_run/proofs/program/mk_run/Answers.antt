use Rattle.std.proofs.Common.{Err, inl, inr, refl, ap, map, subst}
use Rattle.std.specs.Prelude.{string_bytes}
use Rattle.mkbitmap_words.specs.FilterAsked.{IsFilterAsked}
use Rattle.mkbitmap_words.specs.declared.ask.FilterAsk.{FilterAsk}
use Rattle.run_output.specs.declared.status.Status.TheVariants as status
use Rattle.mkbitmap_run.proofs.program.mk_run.Goals as goal

pub filter_input-requires-clause-setup : goal.filter_input-requires-clause-setup
filter_input-requires-clause-setup g c = c.in-Ok-Page.ensures.can_filter c.in-Ok-Page.setup c.in-Ok-Page.field-0-is

pub returns-in-Ok-Help : goal.returns-in-Ok-Help
returns-in-Ok-Help g c = (
  c.put_usage.result,
  c.code.ensures,
  inl (subst (λ (a : FilterAsk). IsFilterAsked (map string_bytes c.args.words.now) a) c.in-Ok-Help.field-0-is c.in-Ok-Help.ensures.ok, refl, c.put_usage.ensures),
)

pub returns-in-Ok-Page : goal.returns-in-Ok-Page
returns-in-Ok-Page g c = (
  c.filter_input.result,
  c.code-in-Ok-Page.ensures,
  inr (inl (
    c.in-Ok-Page.setup,
    subst (λ (a : FilterAsk). IsFilterAsked (map string_bytes c.args.words.now) a) c.in-Ok-Page.field-0-is c.in-Ok-Page.ensures.ok,
    c.filter_input.ensures,
  )),
)

pub returns-in-Err-Bad : goal.returns-in-Err-Bad
returns-in-Err-Bad g c = (
  status.BadWords,
  c.code-in-Err-Bad.ensures,
  inr (inr (inl (
    refl,
    c.in-Err-Bad.ensures.bad (ap Err c.in-Err-Bad.field-0-is),
    refl,
    record { same = refl; same_open = refl; says = c.say_line.ensures.says },
  ))),
)

pub returns-in-Err-NoMemory : goal.returns-in-Err-NoMemory
returns-in-Err-NoMemory g c = (
  c.say_out_of_memory.result,
  c.code-in-Err-NoMemory.ensures,
  inr (inr (inr (c.say_out_of_memory.ensures.ending, refl, record { same = refl; same_open = refl; says = c.say_out_of_memory.ensures.says }))),
)

-- The number of workers changes nothing, where nothing disturbs a run.
use Rattle.std.proofs.Common.{◌≡◌, ℕ, List, [], ◌∷◌, ◌∙◌, ap, subst, sym}
use Rattle.pt_core.specs.Files.{Contents}
use Rattle.run_output.specs.Names.{dash}
use Rattle.run_output.specs.Told.{Sinks, Source}
use Rattle.run_output.specs.declared.status.Status.{Status}
use Rattle.potrace_words.specs.declared.ask.Ask.{Ask}
use Rattle.potrace_words.specs.declared.ask.Ask.TheVariants as asks
use Rattle.page_batches.specs.Items.{Doc, Item}
use Rattle.page_batches.specs.ItemsDone.{HasEnded}
use Rattle.file_documents.specs.Alike.{EndAlike, IsUndisturbed}
use Rattle.file_documents.proofs.OneEnd.{IsEndOf, end_alike, items_end_so, outcomes_alike}
use Rattle.page_trace.proofs.OneTrace.{one_document}
use Rattle.potrace_main.specs.Run.{IsOutcomeOf, manner_under, with_workers}
use Rattle.potrace_main.proofs.OneText.{one_demo}

module _ (contents : Contents) (s t : Status) (source source_now other other_now : Source) (old now before after : Sinks) (calm : IsUndisturbed contents s source source_now old now)
    (quiet : IsUndisturbed contents t other other_now before after) where
  -- the same items were to be carried out
  items_alike : (items others : List Item) → items ≡ others → HasEnded s items old now → HasEnded t others before after → EndAlike s t old now before after
  items_alike items others same this that =
      end_alike others s t old now before after
      (subst (λ (l : List Item). IsEndOf l s old now) same (items_end_so s items old now this calm.written calm.memory))
      (items_end_so t others before after that quiet.written quiet.memory)

  pub workers_alike : (ask : Ask) (workers : ℕ) → IsOutcomeOf ask s source source_now old now → IsOutcomeOf (with_workers workers ask) t other other_now before after → EndAlike s t old now before after
  workers_alike asks.Help workers (items, is, this) (others, are, that) = items_alike items others (is ∙ sym are) this that
  workers_alike asks.Version workers (items, is, this) (others, are, that) = items_alike items others (is ∙ sym are) this that
  workers_alike (asks.Demo pages few settings) workers (items, (one, is, alone), this) (others, (two, are, lonely), that) =
      items_alike items others (alone ∙ ap (λ (text : List ℕ). Doc dash text ∷ []) (one_demo pages settings one two is are) ∙ sym lonely) this that
  workers_alike (asks.Files names output few settings) workers this that =
      outcomes_alike (manner_under settings output) (λ page one two is are. one_document settings.backend page settings one two is are) contents names s t
      source source_now other other_now old now before after this that calm quiet

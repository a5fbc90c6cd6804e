-- A command with one more option has one more rule at the end of its list.
use Rattle.std.proofs.Common.{◌≡◌, ◌∙◌, ◌<◌, ◌+◌, ◌++◌, ◌∷◌, ℕ, List, [], ap, length, map, refl, sym, take, get_or}
use Rattle.std.proofs.lemmas.List.{map-append, take_more}
use Rattle.clap.specs.Walk.{Rule}
use Rattle.clap.specs.Simple.{App, with_rule}
use Rattle.potrace_options.specs.Inner.Command.{rule_of_row}
use Rattle.potrace_options.specs.Command.{with_rules}
use Rattle.potrace_options.specs.declared.command.OptionRow.{OptionRow}

with_rules-last : (app : App) (rules : List Rule) (rule : Rule) → with_rules app (rules ++ rule ∷ []) ≡ with_rule (with_rules app rules) rule
with_rules-last app [] rule = refl
with_rules-last app (first ∷ rules) rule = with_rules-last (with_rule app first) rules rule

-- the command with the first i rules, and with the rule of the next row
pub with_next_row : (app before after : App) (rows : List OptionRow) (i : ℕ) (row : OptionRow) → i < length rows
    → before ≡ with_rules app (map rule_of_row (take i rows)) → after ≡ with_rule before (rule_of_row (get_or rows i row))
    → after ≡ with_rules app (map rule_of_row (take (i + 1) rows))
with_next_row app before after rows i row below so_far next =
    let rule = rule_of_row (get_or rows i row) in
    let more : map rule_of_row (take (i + 1) rows) ≡ map rule_of_row (take i rows) ++ rule ∷ [] =
    ap (λ (some : List OptionRow). map rule_of_row some) (take_more rows i row below) ∙ map-append rule_of_row (take i rows) (get_or rows i row ∷ []) in
    next ∙ ap (λ (a : App). with_rule a rule) so_far ∙ sym (ap (λ (rules : List Rule). with_rules app rules) more ∙ with_rules-last app (map rule_of_row (take i rows)) rule)

-- `clap` finds at most one kind of error in the arguments of a command without subcommands.
--
-- Each part of the definition of errors has a lemma, from single values up to all arguments.
use Rattle.std.proofs.Common.{◌≡◌, ◌==◌, ◌&&◌, nat_lt, ◌≤◌, ◌∷◌, ◌+◌, ℕ, zero, suc, Bool, true, false, not, cond, List, [], length, drop, min, Option, Some, None, is_some, inl, inr, sym, ap, subst, refl, arith, slice_get, encode_utf8}
use Rattle.std.specs.Option.{option_map_or}
use Rattle.std.specs.Str.{chars}
use Rattle.clap.specs.Walk.{Held, Names, Row, Rule, Step, Text, Waiting, Walk, action_of, arg_by_id, arg_by_index, arg_by_long, arg_by_short, attached_value, most_values, finished, nothing_held, walk, walk_from, walked, with_default, word_met, settled, reacted, subcommand_met, values_or_missing, count_of}
use Rattle.clap.specs.Walk.Waiting.{idle, option, positional}
use Rattle.clap.specs.Walk.Step.{next, trailing, subcommand, value}
use Rattle.clap.specs.Matches.{count_text}
use Rattle.std.specs.List.{list_any}
use Rattle.clap.specs.Takes.{is_given}
use Rattle.clap.specs.Facts.{explicit_source, parser_of_value, unwrap_or_range}
use Rattle.clap.specs.Simple.{App, Shape, argument_words, built, entered, names_of}
use Rattle.clap.specs.Kinds.{Kinds, IsAmong, or_else, range_kinds, request_kinds, value_kinds, values_kinds}
use Rattle.clap.specs.Faults.{action_fault, bundle_fault, built_fault, bundle_step_fault, check_fault, count_fault, default_fault, defaults_fault, entered_fault, fault_of, flag_word_fault, flags_fault, level_fault, long_fault, option_fault, other_fault, positional_fault, react_fault, repeat_fault, set_fault, settle_fault, short_fault, step_fault, stray_fault, turn_fault, use_fault, values_fault, walk_fault, word_fault}
use Rattle.clap.specs.declared.builder.action.ArgAction.{ArgAction}
use Rattle.clap.specs.declared.builder.action.ArgAction.TheVariants.{Set, Append, SetTrue, SetFalse, Count, Help, HelpShort, HelpLong, Version}
use Rattle.clap.specs.declared.builder.value_parser.ValueParser.{ValueParser}
use Rattle.clap.specs.declared.error.kind.ErrorKind.{ErrorKind}
use Rattle.clap.specs.declared.error.kind.ErrorKind.TheVariants as kind

-- at most one kind
pub record IsFew (kinds : Kinds) : Type 0 where
  pub few : length kinds ≤ 1

none : IsFew []
none = record { few = omega arith }

one : (k : ErrorKind) → IsFew (k ∷ [])
one k = record { few = omega arith }

few_or : (a b : Kinds) → IsFew a → IsFew b → IsFew (or_else a b)
few_or [] b f g = g
few_or (k ∷ ks) b f g = f

few_if : (t : Bool) (a b : Kinds) → IsFew a → IsFew b → IsFew (cond t a b)
few_if true a b f g = f
few_if false a b f g = g

few_map : {A : Type 0} (f : A → Kinds) (o : Option A) → ((x : A) → IsFew (f x)) → IsFew (option_map_or f o [])
few_map f None g = none
few_map f (Some x) g = g x

-- Errors of values.

few_value : (i : Bool) (p : ValueParser) (t : Text) → IsFew (value_kinds i p t)
few_value i p t = few_if _ _ _ none (one _)

few_values : (i : Bool) (p : ValueParser) (vs : List Text) → IsFew (values_kinds i p vs)
few_values i p [] = none
few_values i p (v ∷ vs) = few_or (value_kinds i p v) (values_kinds i p vs) (few_value i p v) (few_values i p vs)

few_range_by : (a b c d e : Bool) (k l m n : ErrorKind) → IsFew (cond a (k ∷ []) (cond b (cond c [] (l ∷ [])) (cond d (m ∷ []) (cond e (n ∷ []) []))))
few_range_by true b c d e k l m n = one k
few_range_by false true true d e k l m n = none
few_range_by false true false d e k l m n = one l
few_range_by false false c true e k l m n = one m
few_range_by false false c false true k l m n = one n
few_range_by false false c false false k l m n = none

few_range : (least most n : ℕ) → IsFew (range_kinds least most n)
few_range least most n =
    few_range_by (nat_lt 0 least && n == 0) (least == most) (least == n) (nat_lt n least) (nat_lt most n) kind.InvalidValue kind.WrongNumberOfValues kind.TooFewValues kind.TooManyValues

few_count : (rule : Rule) (values : List Text) (rows : List Row) → IsFew (count_fault rule values rows)
few_count rule [] rows = few_value rule.ignore_case (parser_of_value rule.parser) (count_text (min (count_of rule.id rows + 1) 255))
few_count rule (v ∷ vs) rows = few_values rule.ignore_case (parser_of_value rule.parser) (v ∷ vs)

-- Errors of one use of an option.

few_set : (again : Bool) (rule : Rule) (values : List Text) (rows : List Row) → IsFew (set_fault again rule values rows)
few_set again rule values rows = few_or (repeat_fault again rule.id rows) (values_fault rule values) (few_if _ _ _ (one _) none) (few_values rule.ignore_case (parser_of_value rule.parser) values)

few_action : (x : ArgAction) (again : Bool) (a : Rule) (values : List Text) (rows : List Row) → IsFew (action_fault x again a values rows)
few_action Set again a values rows = few_set again a values rows
few_action SetTrue again a values rows = few_set again a values rows
few_action SetFalse again a values rows = few_set again a values rows
few_action Append again a values rows = few_values a.ignore_case (parser_of_value a.parser) values
few_action Count again a values rows = few_count a values rows
few_action Help again a values rows = one _
few_action HelpShort again a values rows = one _
few_action HelpLong again a values rows = one _
few_action Version again a values rows = one _

few_use : (again : Bool) (rule : Rule) (values : List Text) (rows : List Row) → IsFew (use_fault again rule values rows)
few_use again rule values rows = few_or _ (action_fault (action_of rule) again rule (values_or_missing rule values) rows) (few_range (unwrap_or_range rule.range).start_inclusive (most_values rule) (length values)) (few_action (action_of rule) again rule (values_or_missing rule values) rows)

few_settle : (rules : List Rule) (again : Bool) (held : Held) → IsFew (settle_fault rules again held)
few_settle rules again held = few_map (λ (p : Text × List Text). option_map_or (λ rule. use_fault again rule p.1 held.rows) (arg_by_id rules p.0) []) held.pending
    (λ p. few_map (λ (rule : Rule). use_fault again rule p.1 held.rows) (arg_by_id rules p.0) (λ rule. few_use again rule p.1 held.rows))

few_react : (rules : List Rule) (again : Bool) (rule : Rule) (values : List Text) (held : Held) → IsFew (react_fault rules again rule values held)
few_react rules again rule values held = few_or (settle_fault rules again held) (use_fault again rule values (settled rules held).rows) (few_settle rules again held) (few_use again rule values (settled rules held).rows)

-- Errors of one argument.

few_option : (rules : List Rule) (again : Bool) (rule : Rule) (v : Option Text) (held : Held) → IsFew (option_fault rules again rule v held)
few_option rules again rule (Some v) held = few_react rules again rule (v ∷ []) held
few_option rules again rule None held = few_settle rules again held

few_long : (rules : List Rule) (again : Bool) (rule : Option Rule) (v : Option Text) (held : Held) → IsFew (long_fault rules again rule v held)
few_long rules again None v held = one _
few_long rules again (Some rule) v held = few_if _ _ _ (few_option rules again rule v held) (few_if _ _ _ (one _) (few_react rules again rule [] held))

few_short : (rules : List Rule) (again : Bool) (rule : Option Rule) (rest : Text) (held : Held) (more : Held → Kinds) → ((g : Held) → IsFew (more g)) → IsFew (short_fault rules again rule rest held more)
few_short rules again None rest held more few = one _
few_short rules again (Some rule) rest held more few =
    few_if _ _ _ (few_option rules again rule (attached_value rest) held) (few_or (react_fault rules again rule [] held) (more (reacted rules rule [] held)) (few_react rules again rule [] held) (few (reacted rules rule [] held)))

few_step : (rules : List Rule) (again : Bool) (x : Option ℕ) (flags : Text) (skip : ℕ) (held : Held) (more : Text → ℕ → Held → Kinds) → ((t : Text) (n : ℕ) (g : Held) → IsFew (more t n g))
    → IsFew (bundle_step_fault rules again x flags skip held more)
few_step rules again None flags skip held more few = none
few_step rules again (Some x) flags zero held more few =
    few_short rules again (arg_by_short rules x) (drop (length (encode_utf8 x)) flags) held (more (drop (length (encode_utf8 x)) flags) 0) (few (drop (length (encode_utf8 x)) flags) 0)
few_step rules again (Some x) flags (suc skip) held more few = few (drop (length (encode_utf8 x)) flags) skip held

few_flags : (rules : List Rule) (again : Bool) (k : ℕ) (flags : Text) (skip : ℕ) (held : Held) → IsFew (flags_fault rules again k flags skip held)
unfolding flags_fault
few_flags rules again zero flags skip held = none
few_flags rules again (suc k) flags skip held = few_step rules again (slice_get (chars flags) 0) flags skip held (flags_fault rules again k) (few_flags rules again k)

few_bundle : (rules : List Rule) (again : Bool) (flags : Text) (held : Held) → IsFew (bundle_fault rules again flags held)
few_bundle rules again flags held = few_flags rules again (length flags) flags held.skip (record held { skip = 0 })

few_flag_word : (rules : List Rule) (again : Bool) (name : Option (Text × Option Text)) (word : Text) (held : Held) → IsFew (flag_word_fault rules again name word held)
few_flag_word rules again (Some p) word held = few_long rules again (arg_by_long rules p.0) p.1 held
few_flag_word rules again None word held = few_map (λ (flags : Text). bundle_fault rules again flags held) _ (λ flags. few_bundle rules again flags held)

few_other : (shape : Shape) (waiting : Waiting) (word : Text) (held : Held) → IsFew (other_fault shape (subcommand_met [] waiting word) word held)
few_other shape idle word held = few_if _ _ _ none (few_flag_word shape.rules shape.args_override_self _ word held)
few_other shape (option id) word held = few_if _ _ _ none (few_flag_word shape.rules shape.args_override_self _ word held)
few_other shape positional word held = few_if _ _ _ none (few_flag_word shape.rules shape.args_override_self _ word held)

few_word : (shape : Shape) (is_trailing : Bool) (waiting : Waiting) (word : Text) (held : Held) → IsFew (word_fault shape [] is_trailing waiting word held)
few_word shape is_trailing waiting word held = few_if is_trailing _ _ none (few_other shape waiting word held)

few_positional : (rules : List Rule) (again : Bool) (rule : Rule) (held : Held) → IsFew (positional_fault rules again rule held)
few_positional rules again rule held = few_if _ _ _ none (few_settle rules again held)

few_stray : (shape : Shape) → shape.is_leaf ≡ true → IsFew (stray_fault shape)
few_stray shape leaf = rw leaf (one _)

few_value_step : (shape : Shape) (leaf : shape.is_leaf ≡ true) (position : ℕ) (held : Held) (rule : Option Rule)
    → IsFew (option_map_or (λ rule. positional_fault shape.rules shape.args_override_self rule held) rule (stray_fault shape))
few_value_step shape leaf position held None = few_stray shape leaf
few_value_step shape leaf position held (Some rule) = few_positional shape.rules shape.args_override_self rule held

few_after : (shape : Shape) → shape.is_leaf ≡ true → (position : ℕ) (held : Held) (step : Step) → IsFew (step_fault shape position held step)
few_after shape leaf position held (next w) = none
few_after shape leaf position held (trailing n) = none
few_after shape leaf position held (subcommand name) = none
few_after shape leaf position held value = few_value_step shape leaf position held (arg_by_index shape.rules position)

few_turn : (shape : Shape) → shape.is_leaf ≡ true → (w : Walk) (word : Text) → IsFew (turn_fault shape [] w word)
few_turn shape leaf w word =
    let met = word_met shape.rules [] w.is_trailing w.waiting w.position word w.held in
    few_if (is_some w.stopped) _ _ none (few_or (word_fault shape [] w.is_trailing w.waiting word w.held) (step_fault shape w.position met.0 met.1)
    (few_word shape w.is_trailing w.waiting word w.held) (few_after shape leaf w.position met.0 met.1))

-- Errors of all arguments, of defaults, and of missing arguments.

few_walk : (shape : Shape) → shape.is_leaf ≡ true → (w : Walk) (words : List Text) → IsFew (walk_fault shape [] w words)
unfolding walk_fault
few_walk shape leaf w [] = none
few_walk shape leaf w (word ∷ rest) = few_or (turn_fault shape [] w word) (walk_fault shape [] (walked shape.rules [] w word) rest) (few_turn shape leaf w word) (few_walk shape leaf (walked shape.rules [] w word) rest)

few_request : (x : ArgAction) → IsFew (request_kinds x)
few_request Set = none
few_request SetTrue = none
few_request SetFalse = none
few_request Append = none
few_request Count = none
few_request Help = one _
few_request HelpShort = one _
few_request HelpLong = one _
few_request Version = one _

few_default : (rows : List Row) (rule : Rule) → IsFew (default_fault rows rule)
few_default rows rule = few_if _ _ _ none (few_or (request_kinds (action_of rule)) (values_fault rule rule.defaults) (few_request (action_of rule)) (few_values rule.ignore_case (parser_of_value rule.parser) rule.defaults))

few_defaults : (rows : List Row) (rules : List Rule) → IsFew (defaults_fault rows rules)
unfolding defaults_fault
few_defaults rows [] = none
few_defaults rows (a ∷ rest) = few_or (default_fault rows a) (defaults_fault (with_default rows a) rest) (few_default rows a) (few_defaults (with_default rows a) rest)

few_check_by : (a b c : Bool) (k l m : ErrorKind) → IsFew (cond a (k ∷ []) (cond b (l ∷ []) (cond c (m ∷ []) [])))
few_check_by true b c k l m = one k
few_check_by false true c k l m = one l
few_check_by false false true k l m = one m
few_check_by false false false k l m = none

few_check : (shape : Shape) (rows : List Row) (met : Bool) → IsFew (check_fault shape rows met)
few_check shape rows met =
    few_check_by (not met && (shape.arg_required_else_help && not (list_any (λ r. explicit_source r.source) rows))) (not met && shape.subcommand_required)
    (not (shape.subcommand_negates_reqs && met) && list_any (λ rule. rule.required && not (is_given rule.id rows)) shape.rules)
    kind.DisplayHelpOnMissingArgumentOrSubcommand kind.MissingSubcommand kind.MissingRequiredArgument

few_level : (shape : Shape) → shape.is_leaf ≡ true → (held : Held) (words : List Text) (met : Bool) (below : Kinds) → IsFew below → IsFew (level_fault shape [] held words met below)
few_level shape leaf held words met below few =
    let end = (walk shape.rules [] held words).held in
    let rows = (settled shape.rules end).rows in
    let settles = settle_fault shape.rules shape.args_override_self end in
    let defaults = defaults_fault rows shape.rules in
    let check = check_fault shape (finished shape.rules end) met in
    few_or (walk_fault shape [] (walk_from held) words) (or_else below (or_else settles (or_else defaults check))) (few_walk shape leaf (walk_from held) words)
    (few_or below (or_else settles (or_else defaults check)) few
    (few_or settles (or_else defaults check) (few_settle shape.rules shape.args_override_self end)
    (few_or defaults check (few_defaults rows shape.rules) (few_check shape (finished shape.rules end) met))))

few_entered : (a : App) → a.subs ≡ [] → (stop : Option (Text × List Text)) → IsFew (entered_fault a stop)
few_entered a empty None = none
few_entered a empty (Some p) = rw empty none

few_built : (b : App) (words : List Text) → b.top.is_leaf ≡ true → b.subs ≡ [] → IsFew (built_fault b nothing_held words)
few_built b words leaf empty =
    let stop = (walk b.top.rules [] nothing_held words).stopped in
    let none_named : names_of b ≡ [] = rw empty refl in
    subst (λ (ns : Names). IsFew (level_fault b.top ns nothing_held words (is_some (entered b (walk b.top.rules ns nothing_held words).stopped))
    (entered_fault b (walk b.top.rules ns nothing_held words).stopped)))
    (sym none_named) (few_level b.top leaf nothing_held words (is_some (entered b stop)) (entered_fault b stop) (few_entered b empty stop))

-- the arguments of a command without subcommands have at most one kind of error
pub few_faults : (a : App) (words : List Text) → (built a).top.is_leaf ≡ true → (built a).subs ≡ [] → IsFew (fault_of a words)
few_faults a words leaf empty = few_built (built a) (argument_words a words) leaf empty

-- a kind among at most one is the only one
pub among_few : (k : ErrorKind) (ks : Kinds) → IsAmong k ks → IsFew ks → ks ≡ k ∷ []
among_few k [] a few = absurd a
among_few k (x ∷ []) (inl e) few = ap (λ (y : ErrorKind). y ∷ []) (sym e)
among_few k (x ∷ []) (inr a) few = absurd a
among_few k (x ∷ y ∷ ks) a few = let h = few.few in absurd (omega (arith, h))

use Rattle.std.proofs.Common.{◌≡◌, ℕ, ◌-◌, ◌++◌, List, length, take, drop, ap, ◌∙◌, subst}
use Rattle.std.proofs.lemmas.Bool.Decides.{Decides-eqb}
use Rattle.std.proofs.lemmas.List.{drop-drop, take_rest}
use Rattle.std.proofs.lemmas.Slice.Eq.{starts_is}
use Rattle.list_reader.proofs.word.read_word.Goals as goal

pub returns-then-starts_with-clause-some : goal.returns-then-starts_with-clause-some
returns-then-starts_with-clause-some c =
    let text = c.args.text.now in
    let at = c.args.at in
    let word = c.args.word.now in
    let is = (starts_is Decides-eqb (take (length text - at) (drop at text)) word c.starts_with.result c.starts_with.ensures.value).0 c.if-starts_with.true in
    let P : List ℕ → Type 0 = λ s. s ≡ word ++ drop (length word) s in
    subst P (take_rest text at) is ∙ ap (λ r. word ++ r) (drop-drop (length word) at text)

pub returns-else-starts_with-clause-none : goal.returns-else-starts_with-clause-none
returns-else-starts_with-clause-none c = λ rest is.
    let text = c.args.text.now in
    let at = c.args.at in
    let yes = (starts_is Decides-eqb (take (length text - at) (drop at text)) c.args.word.now c.starts_with.result c.starts_with.ensures.value).1 rest (take_rest text at ∙ is) in
    let no = c.if-starts_with.false in
    absurd (cc)

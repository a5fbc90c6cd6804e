-- Labels as entries of a line.
use Rattle.std.proofs.Common.{◌≡◌, ℕ, ◌-◌, ◌^◌, List, ◌∷◌, ◌++◌, refl, sym, ◌∙◌, append_assoc, codes, arith}
use Rattle.std.specs.Prelude.{decimal}
use Rattle.pt_base.specs.Whole.{IsDigit}
use Rattle.list_reader.specs.Inner.LineEntries.{IsEntry, IsPair}
use Rattle.list_reader.specs.Inner.LineTexts.{AreEntries}
use Rattle.list_reader.proofs.NumberPairs.{one_pair}
use Rattle.outline_check.specs.declared.label.Label.{Label}
use Rattle.outline_check.specs.ProofsText.{label_text}
use Rattle.outline_check.specs.Texts.{IsShortLabel}
use Rattle.outline_check.proofs.Right.{label_same}

label_bytes : (l : Label) (rest : List ℕ) → label_text l ++ rest ≡ 32 ∷ (decimal l.count ++ 58 ∷ (decimal l.cost ++ rest))
label_bytes l rest = simp append_assoc

-- a label is a pair
pub label_of_pair : (bytes : List ℕ) (l : Label) (rest : List ℕ) → IsPair 58 (2 ^ 32 - 1) (2 ^ 64 - 1) bytes l.count l.cost rest
    → IsEntry label_text IsShortLabel bytes l rest
label_of_pair bytes l rest pair =
    let count = pair.first_few in
    let cost = pair.second_few in
    record { is = pair.is ∙ sym (label_bytes l rest); inside = record { count = omega arith; cost = omega arith }; ends = pair.ends }

pub pair_of_label : (bytes : List ℕ) (l : Label) (rest : List ℕ) → IsEntry label_text IsShortLabel bytes l rest
    → IsPair 58 (2 ^ 32 - 1) (2 ^ 64 - 1) bytes l.count l.cost rest
pair_of_label bytes l rest entry =
    let inside = entry.inside in
    record {
      is = entry.is ∙ label_bytes l rest;
      first_few = omega (arith, inside.count);
      second_few = omega (arith, inside.cost);
      ends = entry.ends;
    }

colon_is_no_digit : ¬ IsDigit 58
colon_is_no_digit d = omega arith

-- labels are told apart
pub labels_are_entries : AreEntries Label label_text IsShortLabel
labels_are_entries = record {
  spaced = λ l. ((decimal l.count ++ codes ":") ++ decimal l.cost, refl);
  one = λ l m r s l_in m_in r_ends s_ends same.
      let first = pair_of_label (label_text l ++ r) l r (record { is = refl; inside = l_in; ends = r_ends }) in
      let second = pair_of_label (label_text l ++ r) m s (record { is = same; inside = m_in; ends = s_ends }) in
      let both = one_pair 58 (2 ^ 32 - 1) (2 ^ 64 - 1) colon_is_no_digit (omega arith) (omega arith) (label_text l ++ r) l.count l.cost m.count m.cost r s first second in
      (label_same l m both.0 both.1, both.2);
}

-- A text has one verdict.
use Rattle.std.proofs.Common.{◌≡◌, ℕ, ◌+◌, ◌<◌, List, length, length-take, take, refl, ap, sym, ◌∙◌, subst, inl, inr, arith}
use Rattle.std.proofs.lemmas.Bool.{cases_order}
use Rattle.std.proofs.lemmas.List.{get_or-take}
use Rattle.std.specs.List.{All}
use Rattle.outline_check.specs.ProofsText.{Certified}
use Rattle.outline_check.specs.Verdicts.{IsFirstBad, IsGood, IsVerdict, no_certified}
use Rattle.outline_check.specs.declared.verdict.Verdict.{Verdict}
use Rattle.outline_check.specs.declared.verdict.Verdict.TheVariants.{BadProofs, Right, Wrong}
use Rattle.outline_check.proofs.OneReading.{one_reading}

-- what stands before the first bad path is good
not_before : (paths : List Certified) (j k : ℕ) → IsFirstBad paths j → IsFirstBad paths k → j < k → ⊥
not_before paths j k this that less =
    let within = this.within in
    let below : j < length (take k paths) = omega (arith, length-take k paths) in
    this.bad (subst IsGood (get_or-take k paths j no_certified less) (that.before j no_certified below))

one_first_bad : (paths : List Certified) (j k : ℕ) → IsFirstBad paths j → IsFirstBad paths k → j ≡ k
one_first_bad paths j k this that = elim (cases_order j k) [
  | inl same ↦ same
  | inr (inl less) ↦ absurd (not_before paths j k this that less)
  | inr (inr more) ↦ absurd (not_before paths k j that this more)
]

right_or_wrong : (paths : List Certified) (k : ℕ) → All IsGood paths → IsFirstBad paths k → ⊥
right_or_wrong paths k good first = first.bad (good k no_certified first.within)

pub one_verdict : (text : List ℕ) (v w : Verdict) → IsVerdict text v → IsVerdict text w → v ≡ w
one_verdict text (Right n) (Right m) (a, b, paths, reads, good, count) (x, y, others, also, fine, many) =
    let same = (one_reading text a b x y paths others reads also).2 in
    ap Right (sym count ∙ ap (λ (l : List Certified). length l) same ∙ many)
one_verdict text (Right n) (Wrong m) (a, b, paths, reads, good, count) (x, y, others, k, also, first, place) =
    let same = (one_reading text a b x y paths others reads also).2 in
    absurd (right_or_wrong others k (subst (All IsGood) same good) first)
one_verdict text (Right n) BadProofs (a, b, paths, reads, good, count) none = absurd (none a b paths reads)
one_verdict text (Wrong n) (Right m) (a, b, paths, j, reads, first, place) (x, y, others, also, fine, many) =
    let same = (one_reading text a b x y paths others reads also).2 in
    absurd (right_or_wrong others j fine (subst (λ (l : List Certified). IsFirstBad l j) same first))
one_verdict text (Wrong n) (Wrong m) (a, b, paths, j, reads, first, place) (x, y, others, k, also, other, there) =
    let same = (one_reading text a b x y paths others reads also).2 in
    let one = one_first_bad others j k (subst (λ (l : List Certified). IsFirstBad l j) same first) other in
    ap Wrong (sym place ∙ ap (λ (i : ℕ). i + 1) one ∙ there)
one_verdict text (Wrong n) BadProofs (a, b, paths, j, reads, first, place) none = absurd (none a b paths reads)
one_verdict text BadProofs (Right m) none (x, y, others, also, fine, many) = absurd (none x y others also)
one_verdict text BadProofs (Wrong m) none (x, y, others, k, also, other, there) = absurd (none x y others also)
one_verdict text BadProofs BadProofs none never = refl

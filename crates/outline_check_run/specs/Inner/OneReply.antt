-- A text has only one reply.
use Rattle.std.proofs.Common.{◌≡◌, ℕ, List, refl, ap, sym, ◌∙◌, subst, codes}
use Rattle.outline_check.specs.declared.verdict.Verdict.TheVariants.{Right, Wrong, BadProofs}
use Rattle.outline_check.proofs.OneVerdict.{one_verdict}
use Rattle.run_output.specs.declared.status.Status.{Status}
use Rattle.run_output.specs.declared.status.Status.TheVariants as status
use Rattle.outline_check_run.specs.Verdict.{IsCheckReply, verdict_line}

-- a text has only one ending
pub one_ending : (bytes a b : List ℕ) (this that : Status) → IsCheckReply bytes this a → IsCheckReply bytes that b → this ≡ that
one_ending bytes a b status.Done status.Done x y = refl
one_ending bytes a b status.Done status.Wrong x y = absurd (let e : Right x.0 ≡ Wrong y.0 = one_verdict bytes (Right x.0) (Wrong y.0) x.1 y.1 in cc)
one_ending bytes a b status.Done status.Refused x y = absurd (let e : Right x.0 ≡ BadProofs = one_verdict bytes (Right x.0) BadProofs x.1 y.0 in cc)
one_ending bytes a b status.Wrong status.Done x y = absurd (let e : Wrong x.0 ≡ Right y.0 = one_verdict bytes (Wrong x.0) (Right y.0) x.1 y.1 in cc)
one_ending bytes a b status.Wrong status.Wrong x y = refl
one_ending bytes a b status.Wrong status.Refused x y = absurd (let e : Wrong x.0 ≡ BadProofs = one_verdict bytes (Wrong x.0) BadProofs x.1 y.0 in cc)
one_ending bytes a b status.Refused status.Done x y = absurd (let e : BadProofs ≡ Right y.0 = one_verdict bytes BadProofs (Right y.0) x.0 y.1 in cc)
one_ending bytes a b status.Refused status.Wrong x y = absurd (let e : BadProofs ≡ Wrong y.0 = one_verdict bytes BadProofs (Wrong y.0) x.0 y.1 in cc)
one_ending bytes a b status.Refused status.Refused x y = refl
one_ending bytes a b status.BadWords that x y = absurd x
one_ending bytes a b status.Unread that x y = absurd x
one_ending bytes a b status.Unwritten that x y = absurd x
one_ending bytes a b status.OutOfMemory that x y = absurd x
one_ending bytes a b this status.BadWords x y = absurd y
one_ending bytes a b this status.Unread x y = absurd y
one_ending bytes a b this status.Unwritten x y = absurd y
one_ending bytes a b this status.OutOfMemory x y = absurd y

-- an ending has only one line
one_of_ending : (bytes a b : List ℕ) (this : Status) → IsCheckReply bytes this a → IsCheckReply bytes this b → a ≡ b
one_of_ending bytes a b status.Done x y =
    let e : Right x.0 ≡ Right y.0 = one_verdict bytes (Right x.0) (Right y.0) x.1 y.1 in
    let same : x.0 ≡ y.0 = cc in
    x.2 ∙ ap (verdict_line (codes "right ")) same ∙ sym y.2
one_of_ending bytes a b status.Wrong x y =
    let e : Wrong x.0 ≡ Wrong y.0 = one_verdict bytes (Wrong x.0) (Wrong y.0) x.1 y.1 in
    let same : x.0 ≡ y.0 = cc in
    x.2 ∙ ap (verdict_line (codes "wrong ")) same ∙ sym y.2
one_of_ending bytes a b status.Refused x y = x.1 ∙ sym y.1
one_of_ending bytes a b status.BadWords x y = absurd x
one_of_ending bytes a b status.Unread x y = absurd x
one_of_ending bytes a b status.Unwritten x y = absurd x
one_of_ending bytes a b status.OutOfMemory x y = absurd x

-- a text has only one line
pub one_line : (bytes a b : List ℕ) (this that : Status) → IsCheckReply bytes this a → IsCheckReply bytes that b → a ≡ b
one_line bytes a b this that x y =
    one_of_ending bytes a b that (subst (λ (e : Status). IsCheckReply bytes e a) (one_ending bytes a b this that x y) x) y

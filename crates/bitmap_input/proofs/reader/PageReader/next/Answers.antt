use Rattle.std.proofs.Common.{◌≡◌, true, refl, ap, sym, arith}
use Rattle.bitmap_input.specs.declared.fault.InFault.TheVariants as fault
use Rattle.bitmap_input.specs.Cut.FileEnd.{End, Trailing}
use Rattle.bitmap_input.specs.Inner.Reading.{cause_of}
use Rattle.bitmap_input.specs.Reading.{cause_of_fault}
use Rattle.bitmap_input.specs.Reader.{Reader}
use Rattle.bitmap_input.proofs.ReaderResults.{reader_of, gives_page, gives_ending, fails_read, wants_memory, if_says, told_page, told_says, over_comes, page_comes, end_comes, trailing_comes, fault_comes}
use Rattle.bitmap_input.proofs.GrayAnswers.{still_at_end, never_falls}
use Rattle.bitmap_input.proofs.reader.PageReader.next.Goals as goal
use Rattle.bitmap_input.proofs.reader.PageReader.next.Goals.{in-End, in-Trailing, in-Fault}

pub returns-in-Ok-clause-page : goal.returns-in-Ok-clause-page
returns-in-Ok-clause-page g c =
    rw (← c.self.view_is) (gives_page c.args.level.now c.args.invert c.self.inside.buffer c.read_ahead-answer.new.buffer _ _ _ _ _ _ _ _ c.in-Ok.ensures.reads.step refl refl c.if-self.false)

pub returns-in-Ok-clause-told_page : goal.returns-in-Ok-clause-told_page
returns-in-Ok-clause-told_page g c =
    let at_end = rw (← c.self.view_is) at c.requires.at_end in
    rw (← c.self.view_is) (told_page c.args.level.now c.args.invert c.self.inside.buffer c.read_ahead-answer.new.buffer _ _ _ _ _ _ _ _ at_end
    (gives_page c.args.level.now c.args.invert c.self.inside.buffer c.read_ahead-answer.new.buffer _ _ _ _ _ _ _ _ c.in-Ok.ensures.reads.step refl refl c.if-self.false))

pub returns-after-stop-clause-told_ending : goal.returns-after-stop-clause-told_ending
returns-after-stop-clause-told_ending g c =
    let at_end = rw (← c.self.view_is) at c.requires.at_end in
    let gives = gives_ending c.args.level.now c.args.invert c.self.inside.buffer c.read_ahead-answer.new.buffer c.self.inside.skip c.self.inside.skip c.self.inside.pages c.self.inside.pages c.self.inside.over true
    (g.I.Inputs.files c.args.inputs.now) (g.I.Inputs.files c.read_ahead-answer.new.inputs) c.in-Err.stop c.in-Err.ensures.reads.step refl refl in
    let told = told_says c.args.level.now c.args.invert c.self.inside.buffer c.read_ahead-answer.new.buffer c.self.inside.skip c.self.inside.skip c.self.inside.pages c.self.inside.pages c.self.inside.over true
    (g.I.Inputs.files c.args.inputs.now) (g.I.Inputs.files c.read_ahead-answer.new.inputs) (cause_of c.in-Err.stop) at_end gives in
    rw (← c.self.view_is) (elim c.match-stop.branch [
      | in-End w ↦ rw w.result-is (rw w.in-End.is at told)
      | in-Trailing w ↦ rw w.result-is (rw w.in-Trailing.is at told)
      | in-Fault w ↦ rw w.result-is (rw w.in-Fault.is at told)
    ])

pub returns-after-stop-clause-ending : goal.returns-after-stop-clause-ending
returns-after-stop-clause-ending g c =
    let gives = gives_ending c.args.level.now c.args.invert c.self.inside.buffer c.read_ahead-answer.new.buffer c.self.inside.skip c.self.inside.skip c.self.inside.pages c.self.inside.pages c.self.inside.over true
    (g.I.Inputs.files c.args.inputs.now) (g.I.Inputs.files c.read_ahead-answer.new.inputs) c.in-Err.stop c.in-Err.ensures.reads.step refl refl in
    rw (← c.self.view_is) (elim c.match-stop.branch [
      | in-End w ↦ rw w.result-is (gives End (rw w.in-End.is refl))
      | in-Trailing w ↦ rw w.result-is (gives Trailing (rw w.in-Trailing.is refl))
      | in-Fault w ↦ rw w.result-is (if_says (cause_of_fault w.in-Fault.fault) _ (λ ending why. gives ending (rw w.in-Fault.is why)))
    ])

pub returns-after-stop-clause-read_fault : goal.returns-after-stop-clause-read_fault
returns-after-stop-clause-read_fault g c = λ err.
    rw (← c.self.view_is) (fails_read c.args.level.now c.args.invert c.self.inside.buffer c.read_ahead-answer.new.buffer c.self.inside.skip c.self.inside.skip c.self.inside.pages c.self.inside.pages c.self.inside.over true
    (g.I.Inputs.files c.args.inputs.now) (g.I.Inputs.files c.read_ahead-answer.new.inputs) c.in-Err.stop c.in-Err.ensures.reads.step refl refl
    (elim c.match-stop.branch [
      | in-End w ↦ let e = rw w.result-is at err in (cc)
      | in-Trailing w ↦ let e = rw w.result-is at err in (cc)
      | in-Fault w ↦ let e = rw w.result-is at err in let same : w.in-Fault.fault ≡ fault.ReadFault = cc in rw w.in-Fault.is (ap cause_of_fault same)
    ]))

pub returns-after-stop-clause-no_memory : goal.returns-after-stop-clause-no_memory
returns-after-stop-clause-no_memory g c = λ _.
    rw (← c.self.view_is) (wants_memory c.args.level.now c.args.invert c.self.inside.buffer c.read_ahead-answer.new.buffer c.self.inside.skip c.self.inside.skip c.self.inside.pages c.self.inside.pages c.self.inside.over true
    (g.I.Inputs.files c.args.inputs.now) (g.I.Inputs.files c.read_ahead-answer.new.inputs) c.in-Err.stop c.in-Err.ensures.reads.step refl refl)

pub returns-then-self-clause-always : goal.returns-then-self-clause-always
returns-then-self-clause-always g c =
    rw (← c.self.view_is) (over_comes c.args.level.now c.args.invert (reader_of c.self.inside.buffer c.self.inside.skip c.self.inside.pages c.self.inside.over) _ _ _ c.if-self.true)

pub returns-in-Ok-clause-always : goal.returns-in-Ok-clause-always
returns-in-Ok-clause-always g c =
    let at_end = rw (← c.self.view_is) at c.requires.at_end in
    rw (← c.self.view_is) (page_comes c.args.level.now c.args.invert (reader_of c.self.inside.buffer c.self.inside.skip c.self.inside.pages c.self.inside.over) _ _ c.in-Ok.read.page _ _ _
    (told_page c.args.level.now c.args.invert c.self.inside.buffer c.read_ahead-answer.new.buffer _ _ _ _ _ _ _ _ at_end
    (gives_page c.args.level.now c.args.invert c.self.inside.buffer c.read_ahead-answer.new.buffer _ _ _ _ _ _ _ _ c.in-Ok.ensures.reads.step refl refl c.if-self.false)))

pub returns-after-stop-clause-always : goal.returns-after-stop-clause-always
returns-after-stop-clause-always g c =
    let reader : Reader = reader_of c.self.inside.buffer c.self.inside.skip c.self.inside.pages c.self.inside.over in
    let at_end = rw (← c.self.view_is) at c.requires.at_end in
    let gives = gives_ending c.args.level.now c.args.invert c.self.inside.buffer c.read_ahead-answer.new.buffer c.self.inside.skip c.self.inside.skip c.self.inside.pages c.self.inside.pages c.self.inside.over true
    (g.I.Inputs.files c.args.inputs.now) (g.I.Inputs.files c.read_ahead-answer.new.inputs) c.in-Err.stop c.in-Err.ensures.reads.step refl refl in
    let told = told_says c.args.level.now c.args.invert c.self.inside.buffer c.read_ahead-answer.new.buffer c.self.inside.skip c.self.inside.skip c.self.inside.pages c.self.inside.pages c.self.inside.over true
    (g.I.Inputs.files c.args.inputs.now) (g.I.Inputs.files c.read_ahead-answer.new.inputs) (cause_of c.in-Err.stop) at_end gives in
    rw (← c.self.view_is) (elim c.match-stop.branch [
      | in-End w ↦ rw w.result-is (end_comes c.args.level.now c.args.invert reader _ _ _ (rw w.in-End.is at told))
      | in-Trailing w ↦ rw w.result-is (trailing_comes c.args.level.now c.args.invert reader _ _ _ (rw w.in-Trailing.is at told))
      | in-Fault w ↦ rw w.result-is (fault_comes c.args.level.now c.args.invert w.in-Fault.fault reader _ _ _ (rw w.in-Fault.is at told) (rw w.in-Fault.is at c.in-Err.ensures.reads.leaves.counts))
    ])

pub returns-in-Ok-clause-still_at_end : goal.returns-in-Ok-clause-still_at_end
returns-in-Ok-clause-still_at_end g c = λ ended.
    let at_end = rw (← c.self.view_is) at c.requires.at_end in
    still_at_end _ _ _ _ _ _ c.in-Ok.ensures.reads.step at_end ended

pub returns-after-stop-clause-still_at_end : goal.returns-after-stop-clause-still_at_end
returns-after-stop-clause-still_at_end g c = λ ended.
    let at_end = rw (← c.self.view_is) at c.requires.at_end in
    still_at_end _ _ _ _ _ _ c.in-Err.ensures.reads.step at_end ended

pub returns-in-Ok-clause-never_falls : goal.returns-in-Ok-clause-never_falls
returns-in-Ok-clause-never_falls g c = omega (arith, c.in-Ok.ensures.reads.leaves.counts)

pub returns-after-stop-clause-never_falls : goal.returns-after-stop-clause-never_falls
returns-after-stop-clause-never_falls g c = never_falls (cause_of c.in-Err.stop) _ _ c.in-Err.ensures.reads.leaves.counts

pub returns-after-stop-clause-over : goal.returns-after-stop-clause-over
returns-after-stop-clause-over g c =
    rw (← c.self.view_is) (elim c.match-stop.branch [
      | in-End w ↦ rw w.result-is (sym c.if-self.false)
      | in-Trailing w ↦ rw w.result-is (sym c.if-self.false)
      | in-Fault w ↦ rw w.result-is (sym c.if-self.false)
    ])

pub returns-after-stop-clause-steady : goal.returns-after-stop-clause-steady
returns-after-stop-clause-steady g c = elim c.match-stop.branch [
  | in-End w ↦ rw w.result-is (rw w.in-End.is at c.in-Err.ensures.reads.leaves.counts)
  | in-Trailing w ↦ rw w.result-is (rw w.in-Trailing.is at c.in-Err.ensures.reads.leaves.counts)
  | in-Fault w ↦ rw w.result-is tt
]

pub returns-after-stop-clause-steady_ending : goal.returns-after-stop-clause-steady_ending
returns-after-stop-clause-steady_ending g c = elim c.match-stop.branch [
  | in-End w ↦ rw w.result-is (rw w.in-End.is at c.in-Err.ensures.reads.leaves.counts)
  | in-Trailing w ↦ rw w.result-is (rw w.in-Trailing.is at c.in-Err.ensures.reads.leaves.counts)
  | in-Fault w ↦ rw w.result-is (if_says (cause_of_fault w.in-Fault.fault) _ (λ ending why. rw why at (rw w.in-Fault.is at c.in-Err.ensures.reads.leaves.counts)))
]

pub returns-after-stop-clause-cause : goal.returns-after-stop-clause-cause
returns-after-stop-clause-cause g c = λ err. elim c.match-stop.branch [
  | in-End w ↦ let e = rw w.result-is at err in (cc)
  | in-Trailing w ↦ let e = rw w.result-is at err in (cc)
  | in-Fault w ↦
      let e = rw w.result-is at err in
      let same : w.in-Fault.fault ≡ fault.ReadFault = cc in
      let rose = rw (w.in-Fault.is, same) at c.in-Err.ensures.reads.leaves.counts in rose.0
]

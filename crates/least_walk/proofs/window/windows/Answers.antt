use Rattle.std.proofs.Common.{ℕ, Bool, List, sym, ◌∙◌, subst, arith}
use Rattle.least_walk.specs.Inner.MarkedPlaces.{HasMarks}
use Rattle.least_walk.specs.Inner.Suffix.{HasFewest}
use Rattle.least_walk.specs.Windows.{AreWindows}
use Rattle.least_walk.specs.declared.window.Window.{Window}
use Rattle.least_walk.proofs.Lists.{unmarked, whole}
use Rattle.least_walk.proofs.window.windows.Goals as goal

-- all lists have a place for each index
pub fill_counts-requires : goal.fill_counts-requires
fill_counts-requires g c = omega (arith, c.deref_mut.ensures.len, c.in_ok-counts.ensures.len, c.size-size.ensures)

pub fill_marks-requires-clause-count_places : goal.fill_marks-requires-clause-count_places
fill_marks-requires-clause-count_places g c = omega (arith, c.deref.ensures.len, c.in_ok-counts.ensures.len, c.size-size.ensures)

pub fill_marks-requires-clause-mark_places : goal.fill_marks-requires-clause-mark_places
fill_marks-requires-clause-mark_places g c = omega (arith, c.deref_mut-2.ensures.len, c.in_ok-marks.ensures.len, c.size-size.ensures)

pub fill_windows-requires-clause-count_places : goal.fill_windows-requires-clause-count_places
fill_windows-requires-clause-count_places g c = omega (arith, c.deref-2.ensures.len, c.in_ok-counts.ensures.len, c.size-size.ensures)

pub fill_windows-requires-clause-mark_places : goal.fill_windows-requires-clause-mark_places
fill_windows-requires-clause-mark_places g c = omega (arith, c.deref-3.ensures.len, c.in_ok-marks.ensures.len, c.size-size.ensures)

-- and what was written is read
pub fill_marks-requires-clause-fewest : goal.fill_marks-requires-clause-fewest
fill_marks-requires-clause-fewest g c =
    let P : List ℕ → Type 0 = λ counts. HasFewest (g.S.Steps.size_of c.args.steps.now) (g.S.Steps.is_allowed c.args.steps.now) 0 counts in
    subst P (sym (c.deref.ensures.value ∙ whole c.fill_counts.new.counts _ _ (omega (arith, c.deref_mut.ensures.len, c.fill_counts.auto.counts)))) c.fill_counts.ensures

pub fill_marks-requires-clause-unmarked : goal.fill_marks-requires-clause-unmarked
fill_marks-requires-clause-unmarked g c =
    unmarked c.deref_mut-2.result.now _ (c.deref_mut-2.ensures.value ∙ c.in_ok-marks.ensures.items_if_clones_equal (λ y same. same))

pub fill_windows-requires-clause-fewest : goal.fill_windows-requires-clause-fewest
fill_windows-requires-clause-fewest g c =
    let P : List ℕ → Type 0 = λ counts. HasFewest (g.S.Steps.size_of c.args.steps.now) (g.S.Steps.is_allowed c.args.steps.now) 0 counts in
    subst P (sym (c.deref-2.ensures.value ∙ whole c.fill_counts.new.counts _ _ (omega (arith, c.deref_mut.ensures.len, c.fill_counts.auto.counts)))) c.fill_counts.ensures

pub fill_windows-requires-clause-marks : goal.fill_windows-requires-clause-marks
fill_windows-requires-clause-marks g c =
    let P : List Bool → Type 0 = λ marks. HasMarks (g.S.Steps.size_of c.args.steps.now) (g.S.Steps.is_allowed c.args.steps.now) marks in
    subst P (sym (c.deref-3.ensures.value ∙ whole c.fill_marks.new.marks _ _ (omega (arith, c.deref_mut-2.ensures.len, c.fill_marks.auto.marks)))) c.fill_marks.ensures

pub returns : goal.returns
returns g c =
    let P : List Window → Type 0 = λ windows. AreWindows (g.S.Steps.size_of c.args.steps.now) (g.S.Steps.is_allowed c.args.steps.now) windows in
    subst P (sym (whole c.fill_windows.new.windows _ _ (omega (arith, c.deref_mut-3.ensures.len, c.fill_windows.auto.windows)))) c.fill_windows.ensures

use Rattle.std.proofs.Common.{◌+◌, ◌≤◌, ℕ, refl, arith}
use Rattle.straight_paths.specs.Inner.Courses.{no_course}
use Rattle.straight_paths.specs.Inner.Tables.{KeepsWords}
use Rattle.straight_paths.specs.declared.table.Table.{Table}
use Rattle.straight_paths.proofs.Tabling.{table_kept, word_added}
use Rattle.straight_paths.proofs.table.Table.add.Goals as goal

itself : (n : ℕ) → n ≤ n
itself n = omega arith

-- what a list that can't grow leaves
pub returns-then-not-put-clause-grows : goal.returns-then-not-put-clause-grows
returns-then-not-put-clause-grows c =
    let old = c.args.self.now in
    let new : Table = record { used = old.used; digits = c.put.new.list; counts = old.counts; nexts = old.nexts; courses = old.courses } in
    let keeps : KeepsWords old new =
    record { used = itself old.used; counts = λ node h. refl; digits = λ node h. c.put.ensures.before node 0 h; courses = λ node h. refl } in
    record { whole = table_kept old new c.requires.root.whole keeps refl c.put.ensures.length (itself _) (itself _) (itself _) (λ k h. refl); keeps = keeps }

pub returns-then-not-put-2-clause-grows : goal.returns-then-not-put-2-clause-grows
returns-then-not-put-2-clause-grows c =
    let old = c.args.self.now in
    let new : Table = record { used = old.used; digits = c.put.new.list; counts = c.put-2.new.list; nexts = old.nexts; courses = old.courses } in
    let keeps : KeepsWords old new =
    record { used = itself old.used; counts = λ node h. c.put-2.ensures.before node 0 h; digits = λ node h. c.put.ensures.before node 0 h; courses = λ node h. refl } in
    record { whole = table_kept old new c.requires.root.whole keeps refl c.put.ensures.length c.put-2.ensures.length (itself _) (itself _) (λ k h. refl); keeps = keeps }

pub returns-then-not-put_four-clause-grows : goal.returns-then-not-put_four-clause-grows
returns-then-not-put_four-clause-grows c =
    let old = c.args.self.now in
    let new : Table = record { used = old.used; digits = c.put.new.list; counts = c.put-2.new.list; nexts = c.put_four.new.list; courses = old.courses } in
    let keeps : KeepsWords old new =
    record { used = itself old.used; counts = λ node h. c.put-2.ensures.before node 0 h; digits = λ node h. c.put.ensures.before node 0 h; courses = λ node h. refl } in
    record { whole = table_kept old new c.requires.root.whole keeps refl c.put.ensures.length c.put-2.ensures.length c.put_four.ensures.length (itself _) c.put_four.ensures.before; keeps = keeps }

pub returns-then-not-put-3-clause-grows : goal.returns-then-not-put-3-clause-grows
returns-then-not-put-3-clause-grows c =
    let old = c.args.self.now in
    let new : Table = record { used = old.used; digits = c.put.new.list; counts = c.put-2.new.list; nexts = c.put_four.new.list; courses = c.put-3.new.list } in
    let keeps : KeepsWords old new =
    record { used = itself old.used; counts = λ node h. c.put-2.ensures.before node 0 h; digits = λ node h. c.put.ensures.before node 0 h; courses = λ node h. c.put-3.ensures.before node no_course h } in
    record {
      whole = table_kept old new c.requires.root.whole keeps refl c.put.ensures.length c.put-2.ensures.length c.put_four.ensures.length c.put-3.ensures.length
          c.put_four.ensures.before;
      keeps = keeps;
    }

-- all lists have the word
pub returns-clause-grows : goal.returns-clause-grows
returns-clause-grows c =
    let old = c.args.self.now in
    let new : Table = record { used = old.used + 1; digits = c.put.new.list; counts = c.put-2.new.list; nexts = c.put_four.new.list; courses = c.put-3.new.list } in
    let keeps : KeepsWords old new =
    record { used = omega arith; counts = λ node h. c.put-2.ensures.before node 0 h; digits = λ node h. c.put.ensures.before node 0 h; courses = λ node h. c.put-3.ensures.before node no_course h } in
    record {
      whole = word_added old new c.args.word.count c.args.word.digits c.args.course c.requires.root.whole keeps refl c.requires.root.known
          c.if-at-ge-MOST_WORDS.false (c.put.ensures.there c.if-not-put.false) (c.put-2.ensures.there c.if-not-put-2.false)
          (c.put_four.ensures.there c.if-not-put_four.false) (c.put-3.ensures.there c.if-not-put-3.false)
          (c.put-2.ensures.put c.if-not-put-2.false 0) (c.put.ensures.put c.if-not-put.false 0) (c.put-3.ensures.put c.if-not-put-3.false no_course)
          c.requires.short c.requires.course.known c.requires.course.fits c.put_four.ensures.before (c.put_four.ensures.put c.if-not-put_four.false);
      keeps = keeps;
    }

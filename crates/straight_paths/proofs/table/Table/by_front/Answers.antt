use Rattle.std.proofs.Common.{◌≡◌, ℕ, suc, sym, ◌∙◌, subst, IsTrue, rules}
use Rattle.pt_core.specs.declared.point.Point.{Point}
use Rattle.path_cones.specs.Inner.Codes.{coded_step}
use Rattle.path_cones.specs.Corners.{step_from}
use Rattle.straight_paths.specs.Inner.Courses.{HasCourse}
use Rattle.path_cones.specs.Straight.{IsStraight}
use Rattle.straight_paths.specs.Inner.Tables.{count_at, course_at, digits_at}
use Rattle.straight_paths.specs.declared.course.Course.{Course}
use Rattle.path_cones.proofs.Pieces.{rest_of}
use Rattle.straight_paths.proofs.Tabling.{tells_end, tells_less, whole_straight}
use Rattle.straight_paths.proofs.table.Table.by_front.Goals as goal

-- less is straight before the last step
pub tell-requires-clause-leads : goal.tell-requires-clause-leads
tell-requires-clause-leads c =
    let t = c.args.self.now in
    record {
      known = c.requires.front.known;
      tells = tells_less (count_at t c.args.node) (digits_at t c.args.node) c.args.digit (count_at t c.args.next) (digits_at t c.args.next) c.args.last
          c.requires.front.tells (λ e. c.if-count.true (c.count.ensures.value ∙ e ∙ sym c.count-2.ensures.value));
    }

-- the last step isn't straight
pub tell-requires-then-not-goes_on-clause-leads : goal.tell-requires-then-not-goes_on-clause-leads
tell-requires-then-not-goes_on-clause-leads c =
    let t = c.args.self.now in
    let same : count_at t c.args.next ≡ count_at t c.args.node = sym c.count.ensures.value ∙ c.if-count.false ∙ c.count-2.ensures.value in
    let off : ¬ IsTrue c.goes_on.result = search rules in
    let front = (course_at t c.args.next).front in
    let P : Course → Type 0 = λ course. (path : ℕ → Point) (n : ℕ) → step_from path n ≡ coded_step c.args.last → HasCourse path n course
    → ¬ IsStraight path (suc n) in
    record {
      known = c.requires.front.known;
      tells = tells_end (count_at t c.args.node) (digits_at t c.args.node) c.args.digit (count_at t c.args.next) (digits_at t c.args.next) c.args.last
          c.requires.front.tells (count_at t front) (digits_at t front) (course_at t c.args.next) (c.requires.word.whole.course c.args.next c.requires.front.known) same
          (subst P c.course.ensures (c.goes_on.ensures.not_straight off));
    }

-- it is
pub longer-requires-clause-straight : goal.longer-requires-clause-straight
longer-requires-clause-straight c =
    let t = c.args.self.now in
    let same : count_at t c.args.next ≡ count_at t c.args.node = sym c.count.ensures.value ∙ c.if-count.false ∙ c.count-2.ensures.value in
    let on : IsTrue c.goes_on.result = search rules in
    let front = (course_at t c.args.next).front in
    let P : Course → Type 0 = λ course. (path : ℕ → Point) (n : ℕ) → step_from path n ≡ coded_step c.args.last → HasCourse path n course
    → IsStraight path n → IsStraight (rest_of path) n → IsStraight path (suc n) in
    whole_straight (count_at t c.args.node) (digits_at t c.args.node) c.args.digit (count_at t c.args.next) (digits_at t c.args.next) c.args.last
    c.requires.front.tells (count_at t front) (digits_at t front) (course_at t c.args.next) (c.requires.word.whole.course c.args.next c.requires.front.known) same
    (subst P c.course.ensures (c.goes_on.ensures.straight on))

-- What a table of words tells, as it grows.
use Rattle.std.proofs.Common.{◌≡◌, ◌⊎◌, ℕ, suc, ◌+◌, ◌-◌, ◌*◌, ◌/◌, ◌%◌, ◌<◌, ◌≤◌, inl, inr, Option, None, Some, IfSome, length, get_or, sym, ◌∙◌, ap, subst, arith}
use Rattle.std.proofs.lemmas.Bool.{cases_lt}
use Rattle.pt_core.specs.declared.point.Point.{Point}
use Rattle.path_cones.specs.Inner.Codes.{IsCoded, coded_step}
use Rattle.path_cones.specs.Corners.{step_from}
use Rattle.path_cones.specs.Inner.Cones.{IsSound}
use Rattle.straight_paths.specs.Inner.Courses.{HasCourse, IsCourse, cone_of, no_course}
use Rattle.path_cones.specs.Straight.{IsStraight}
use Rattle.straight_paths.specs.Inner.Tables.{GrowsInto, IsWordTable, StandsFor, KeepsWords, LeadsToWord, count_at, course_at, digits_at}
use Rattle.straight_paths.specs.Inner.NextSteps.{IsStraightUpTo, TellsFront, TellsNext}
use Rattle.straight_paths.specs.declared.course.Course.{Course}
use Rattle.straight_paths.specs.declared.table.Table.{Table}
use Rattle.path_cones.proofs.Pieces.{none_is_straight, rest_of, shorter, without_first}

pub keeps_on : (old mid new : Table) → KeepsWords old mid → KeepsWords mid new → KeepsWords old new
keeps_on old mid new a b = record {
  used = omega (arith, a.used, b.used);
  counts = λ node h. b.counts node (omega (arith, a.used)) ∙ a.counts node h;
  digits = λ node h. b.digits node (omega (arith, a.used)) ∙ a.digits node h;
  courses = λ node h. b.courses node (omega (arith, a.used)) ∙ a.courses node h;
}

pub grows_on : (old mid new : Table) → GrowsInto old mid → GrowsInto mid new → GrowsInto old new
grows_on old mid new a b = record { whole = b.whole; keeps = keeps_on old mid new a.keeps b.keeps }

-- what a step leads to in a table it leads to in one that keeps it
pub leads_kept : (old new : Table) (node digit next : ℕ) → KeepsWords old new → node < old.used → LeadsToWord old node digit next → LeadsToWord new node digit next
leads_kept old new node digit next k h l =
    let T : ℕ → ℕ → ℕ → ℕ → Type 0 = λ a b c d. TellsNext a b digit c d in
    let a = sym (k.counts node h) in
    let b = sym (k.digits node h) in
    let c = sym (k.counts next l.known) in
    let d = sym (k.digits next l.known) in
    record {
      known = omega (arith, k.used, l.known);
      tells = subst (λ n. T n (digits_at new node) (count_at new next) (digits_at new next)) a
          (subst (λ n. T (count_at old node) n (count_at new next) (digits_at new next)) b
          (subst (λ n. T (count_at old node) (digits_at old node) n (digits_at new next)) c
          (subst (λ n. T (count_at old node) (digits_at old node) (count_at old next) n) d l.tells)));
    }

-- ---- a step in front of a word

-- what is told of the word without its last step
module _ (count digits digit to_count to_digits last : ℕ) (front : TellsFront count digits digit to_count to_digits last) where
  -- less of that is straight
  pub tells_less : ¬ (to_count ≡ count) → TellsNext count digits digit to_count to_digits
  tells_less less path step rest straight =
      let t = front path step rest straight in
      let up = t.0.0 in
      let most = up.within in (
        record {
          within = omega arith;
          straight = up.straight;
          no_more = λ c few s. elim (cases_lt count c) [
            | inl beyond ↦ let f = up.no_more count (omega arith) (shorter path count c (omega arith) s) in absurd (omega arith)
            | inr within ↦ up.no_more c within s
          ];
        },
        t.0.1,
      )

  module _ (few others : ℕ) (course : Course) (is : IsCourse to_count to_digits few others course) (same : to_count ≡ count) where
    -- the path's first steps, all but the last one
    pub front_has : (path : ℕ → Point) → step_from path 0 ≡ coded_step digit → IsCoded count (rest_of path) digits → IsStraight (rest_of path) count
        → HasCourse path count course
    front_has path step rest straight =
        let t = front path step rest straight in
        subst (λ n. HasCourse path n course) same (is.has path t.0.1 t.0.0.straight)

    -- the last step isn't
    pub tells_end : ((path : ℕ → Point) (n : ℕ) → step_from path n ≡ coded_step last → HasCourse path n course → ¬ IsStraight path (suc n))
        → TellsNext count digits digit to_count to_digits
    tells_end ends path step rest straight =
        let t = front path step rest straight in
        let up = t.0.0 in
        let out = ends path count t.1 (front_has path step rest straight) in (
          record {
            within = omega arith;
            straight = up.straight;
            no_more = λ c few s. elim (cases_lt count c) [
              | inl beyond ↦ absurd (out (shorter path (suc count) c (omega arith) s))
              | inr within ↦ omega arith
            ];
          },
          t.0.1,
        )

    -- all of it is
    pub whole_straight : ((path : ℕ → Point) (n : ℕ) → step_from path n ≡ coded_step last → HasCourse path n course → IsStraight path n
        → IsStraight (rest_of path) n → IsStraight path (suc n))
        → (path : ℕ → Point) → step_from path 0 ≡ coded_step digit → IsCoded count (rest_of path) digits → IsStraight (rest_of path) count
        → IsStraight path (suc count)
    whole_straight on path step rest straight =
        let t = front path step rest straight in
        on path count t.1 (front_has path step rest straight) (subst (IsStraight path) same t.0.0.straight) straight

    -- the course of the word that is added
    pub added_course : (word digits' : ℕ) (new : Course) → word ≡ count + 1 → last < 4
        → ((path : ℕ → Point) → IsCoded (suc count) path digits' → step_from path 0 ≡ coded_step digit)
        → ((path : ℕ → Point) → IsCoded (suc count) path digits' → IsCoded count (rest_of path) digits)
        → new.last ≡ last → IsSound (cone_of new.cone)
        → ((path : ℕ → Point) (n : ℕ) → step_from path n ≡ coded_step last → HasCourse path n course → HasCourse path (suc n) new)
        → IsCourse word digits' to_count to_digits new
    added_course word digits' new more low first behind last_is sound on =
        let e : word ≡ suc count = omega arith in
        record {
          sound = sound;
          last = omega arith;
          fewer = λ some. omega arith;
          has = λ path coded straight.
              let c = subst (λ n. IsCoded n path digits') e coded in
              let s = without_first path count (subst (IsStraight path) e straight) in
              let t = front path (first path c) (behind path c) s in
              subst (λ n. HasCourse path n new) (sym e) (on path count t.1 (front_has path (first path c) (behind path c) s));
          ends = λ path some coded straight.
              let c = subst (λ n. IsCoded n path digits') e coded in
              let s = without_first path count (subst (IsStraight path) e straight) in
              let t = front path (first path c) (behind path c) s in
              (t.0.1, subst (λ n. step_from path n ≡ coded_step new.last) (sym same) (t.1 ∙ ap coded_step (sym last_is)));
        }

pub tells_whole : (count digits digit to_count to_digits : ℕ) → to_count ≡ count + 1
    → ((path : ℕ → Point) → step_from path 0 ≡ coded_step digit → IsCoded count (rest_of path) digits → IsCoded (suc count) path to_digits)
    → ((path : ℕ → Point) → step_from path 0 ≡ coded_step digit → IsCoded count (rest_of path) digits → IsStraight (rest_of path) count
    → IsStraight path (suc count))
    → TellsNext count digits digit to_count to_digits
tells_whole count digits digit to_count to_digits is coded whole path step rest straight =
    let e : suc count ≡ to_count = omega arith in (
      subst (IsStraightUpTo path (suc count)) e (record {
        within = omega arith;
        straight = whole path step rest straight;
        no_more = λ c few s. few;
      }),
      subst (λ n. IsCoded n path to_digits) e (coded path step rest),
    )

-- what a step leads to in front of the word without its last step
pub tells_front : (old new : Table) (node digit next : ℕ) → IsWordTable old → node < old.used → 0 < count_at old node → KeepsWords old new
    → LeadsToWord new (course_at old node).front digit next
    → TellsFront (count_at new node) (digits_at new node) digit (count_at new next) (digits_at new next) (course_at old node).last
tells_front old new node digit next table known some keeps leads =
    let front = (course_at old node).front in
    let there = table.front node known in
    let course = table.course node known in
    let fewer = course.fewer some in
    let few : count_at new front ≡ count_at old front = keeps.counts front there in
    let others : digits_at new front ≡ digits_at old front = keeps.digits front there in
    let n : count_at new node ≡ count_at old node = keeps.counts node known in
    let d : digits_at new node ≡ digits_at old node = keeps.digits node known in
    let T : ℕ → ℕ → Type 0 = λ count digits. TellsFront count digits digit (count_at new next) (digits_at new next) (course_at old node).last in
    subst (λ k. T k (digits_at new node)) (sym n) (subst (T (count_at old node)) (sym d)
    (λ path step rest straight.
    let ends = course.ends (rest_of path) some rest straight in
    let e : suc (count_at new front) ≡ count_at old node = omega arith in
    let shorter_rest = shorter (rest_of path) (count_at new front) (count_at old node) (omega arith) straight in
    let coded : IsCoded (count_at new front) (rest_of path) (digits_at new front) =
    subst (λ k. IsCoded (count_at new front) (rest_of path) k) (sym others) (subst (λ k. IsCoded k (rest_of path) (digits_at old front)) (sym few) ends.0) in
    let told = leads.tells path step coded shorter_rest in
    let f : suc (count_at old front) ≡ count_at old node = omega arith in (
      (subst (λ k. IsStraightUpTo path k (count_at new next)) e told.0, told.1),
      subst (λ k. step_from path k ≡ coded_step (course_at old node).last) f ends.1,
    )))

-- ---- courses, as the table grows

pub course_kept : (old new : Table) (node : ℕ) → IsWordTable old → KeepsWords old new → node < old.used
    → ((course_at new node).front < old.used)
    × IsCourse (count_at new node) (digits_at new node) (count_at new (course_at new node).front) (digits_at new (course_at new node).front) (course_at new node)
course_kept old new node table keeps known =
    let same = keeps.courses node known in
    let there = table.front node known in
    let front = (course_at old node).front in
    let C : ℕ → ℕ → ℕ → ℕ → Type 0 = λ a b c d. IsCourse a b c d (course_at old node) in
    let a = sym (keeps.counts node known) in
    let b = sym (keeps.digits node known) in
    let c = sym (keeps.counts front there) in
    let d = sym (keeps.digits front there) in
    let on : C (count_at new node) (digits_at new node) (count_at new front) (digits_at new front) =
    subst (λ n. C n (digits_at new node) (count_at new front) (digits_at new front)) a
    (subst (λ n. C (count_at old node) n (count_at new front) (digits_at new front)) b
    (subst (λ n. C (count_at old node) (digits_at old node) n (digits_at new front)) c
    (subst (λ n. C (count_at old node) (digits_at old node) (count_at old front) n) d (table.course node known)))) in
    let P : Course → Type 0 = λ course. (course.front < old.used)
    × IsCourse (count_at new node) (digits_at new node) (count_at new course.front) (digits_at new course.front) course in
    subst P (sym same) (there, on)

-- entries that are as they were
entry_kept : (old new : Table) (node digit : ℕ) → IsWordTable old → KeepsWords old new → node < old.used → digit < 4
    → ((k : ℕ) → k < 4 * old.used → get_or new.nexts.items k 0 ≡ get_or old.nexts.items k 0)
    → (get_or new.nexts.items (4 * node + digit) 0 ≡ 0) ⊎ LeadsToWord new node digit (get_or new.nexts.items (4 * node + digit) 0)
entry_kept old new node digit table keeps known low same =
    let e = same (4 * node + digit) (omega arith) in
    elim (table.tells node digit known low) [
      | inl none ↦ inl (e ∙ none)
      | inr leads ↦ inr (subst (LeadsToWord new node digit) (sym e)
          (leads_kept old new node digit (get_or old.nexts.items (4 * node + digit) 0) keeps known leads))
    ]

-- lists that grew, with all words as they were
pub table_kept : (old new : Table) → IsWordTable old → KeepsWords old new → new.used ≡ old.used
    → length old.digits.items ≤ length new.digits.items → length old.counts.items ≤ length new.counts.items
    → length old.nexts.items ≤ length new.nexts.items → length old.courses.items ≤ length new.courses.items
    → ((k : ℕ) → k < 4 * old.used → get_or new.nexts.items k 0 ≡ get_or old.nexts.items k 0) → IsWordTable new
table_kept old new table keeps used digits counts nexts courses same = record {
  few = omega (arith, table.few);
  digits = omega (arith, table.digits);
  counts = omega (arith, table.counts);
  nexts = omega (arith, table.nexts);
  courses = omega (arith, table.courses);
  root = λ some. keeps.counts 0 (omega arith) ∙ table.root (omega arith);
  short = λ node h. (let e = keeps.counts node (omega arith) in let f = table.short node (omega arith) in omega arith);
  tells = λ node digit h low. entry_kept old new node digit table keeps (omega arith) low same;
  front = λ node h. (let f = (course_kept old new node table keeps (omega arith)).0 in omega arith);
  course = λ node h. (course_kept old new node table keeps (omega arith)).1;
}

-- a word more
pub word_added : (old new : Table) (count digits : ℕ) (course : Course) → IsWordTable old → KeepsWords old new → new.used ≡ old.used + 1
    → 0 < old.used → old.used < 65536 → old.used < length new.digits.items → old.used < length new.counts.items
    → 4 * old.used + 4 ≤ length new.nexts.items → old.used < length new.courses.items
    → count_at new old.used ≡ count → digits_at new old.used ≡ digits → course_at new old.used ≡ course → count ≤ 19
    → course.front < old.used → IsCourse count digits (count_at old course.front) (digits_at old course.front) course
    → ((k : ℕ) → k < 4 * old.used → get_or new.nexts.items k 0 ≡ get_or old.nexts.items k 0)
    → ((k : ℕ) → 4 * old.used ≤ k → k < 4 * old.used + 4 → get_or new.nexts.items k 0 ≡ 0) → IsWordTable new
word_added old new count digits course table keeps used some few l_digits l_counts l_nexts l_courses is_count is_digits is_course short known is same zeros =
    let n = sym (keeps.counts course.front known) in
    let d = sym (keeps.digits course.front known) in
    let here : IsCourse (count_at new old.used) (digits_at new old.used) (count_at new course.front) (digits_at new course.front) course =
    subst (λ k. IsCourse k (digits_at new old.used) (count_at new course.front) (digits_at new course.front) course) (sym is_count)
    (subst (λ k. IsCourse count k (count_at new course.front) (digits_at new course.front) course) (sym is_digits)
    (subst (λ k. IsCourse count digits k (digits_at new course.front) course) n
    (subst (λ k. IsCourse count digits (count_at old course.front) k course) d is))) in
    let P : Course → Type 0 = λ c. (c.front < old.used)
    × IsCourse (count_at new old.used) (digits_at new old.used) (count_at new c.front) (digits_at new c.front) c in
    let last : P (course_at new old.used) = subst P (sym is_course) (known, here) in
    let Q : ℕ → Type 0 = λ node. ((course_at new node).front < old.used)
    × IsCourse (count_at new node) (digits_at new node) (count_at new (course_at new node).front) (digits_at new (course_at new node).front) (course_at new node) in
    let all : (node : ℕ) → node < new.used → Q node = λ node h. elim (cases_lt node old.used) [
      | inl old_one ↦ course_kept old new node table keeps old_one
      | inr new_one ↦ let e : old.used ≡ node = omega arith in subst Q e last
    ] in
    record {
      few = omega arith;
      digits = omega arith;
      counts = omega arith;
      nexts = omega arith;
      courses = omega arith;
      root = λ more. keeps.counts 0 some ∙ table.root some;
      short = λ node h. elim (cases_lt node old.used) [
        | inl old_one ↦ (let e = keeps.counts node old_one in let f = table.short node old_one in omega arith)
        | inr new_one ↦ let e : old.used ≡ node = omega arith in subst (λ k. count_at new k ≤ 19) e (omega arith)
      ];
      tells = λ node digit h low. elim (cases_lt node old.used) [
        | inl old_one ↦ entry_kept old new node digit table keeps old_one low same
        | inr new_one ↦ inl (zeros (4 * node + digit) (omega arith) (omega arith))
      ];
      front = λ node h. (let f = (all node h).0 in omega arith);
      course = λ node h. (all node h).1;
    }

-- ---- a word by its digits

pub spelled_longer : (old new : Table) (rest next count digits : ℕ) → 0 < count → StandsFor old rest (count - 1) (digits / 4) → KeepsWords old new
    → LeadsToWord new rest (digits % 4) next → StandsFor new next count digits
spelled_longer old new rest next count digits some spelled keeps leads = record {
  known = leads.known;
  same = λ path coded straight.
      let e : count ≡ suc (count - 1) = omega arith in
      let c = subst (λ n. IsCoded n path digits) e coded in
      let s = subst (IsStraight path) e straight in
      let later = without_first path (count - 1) s in
      let same = spelled.same (rest_of path) c.1 later in
      let n : count_at new rest ≡ count - 1 = keeps.counts rest spelled.known ∙ same.0 in
      let d : digits_at new rest ≡ digits_at old rest = keeps.digits rest spelled.known in
      let code : IsCoded (count_at new rest) (rest_of path) (digits_at new rest) =
      subst (λ k. IsCoded (count_at new rest) (rest_of path) k) (sym d) (subst (λ k. IsCoded k (rest_of path) (digits_at old rest)) (sym n) same.1) in
      let told = leads.tells path c.0 code (subst (IsStraight (rest_of path)) (sym n) later) in
      let few = told.0.within in
      let most = told.0.no_more count (omega arith) straight in
      let is : count_at new next ≡ count = omega arith in
      (is, subst (λ k. IsCoded k path (digits_at new next)) is told.1);
}

-- what follows from what is there follows where it is there
pub if_some : (o : Option ℕ) (P Q : ℕ → Type 0) → IfSome o P → ((x : ℕ) → P x → Q x) → IfSome o Q
if_some None P Q p f = tt
if_some (Some x) P Q p f = f x p

-- an entry that isn't 0 leads on
pub entry_leads : (table : Table) (node digit next : ℕ)
    → (get_or table.nexts.items (4 * node + digit) 0 ≡ 0) ⊎ LeadsToWord table node digit (get_or table.nexts.items (4 * node + digit) 0)
    → next ≡ get_or table.nexts.items (4 * node + digit) 0 → 0 < next → LeadsToWord table node digit next
entry_leads table node digit next entry is some = elim entry [
  | inl none ↦ absurd (omega arith)
  | inr leads ↦ subst (LeadsToWord table node digit) (sym is) leads
]

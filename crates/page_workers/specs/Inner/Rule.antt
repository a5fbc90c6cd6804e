-- The rule of the claim word: what holds of it and of all views between any two steps. A view is
-- what one seat knows: the numbers that it drew, its parts, and its credits.
use Rattle.std.specs.Prelude.{◌≡◌, ℕ, ◌+◌, ◌-◌, ◌^◌, ◌≤◌, List, [], ◌∷◌, ◌++◌, cond, nat_lt, Bool, false}
use mathlib.Core.Option.{some}
use lib.ListN.{get_elem?}
use Rattle.atomic_table.specs.Table.{Step, Me}
use Rattle.atomic_table.specs.Seated.{TableId}
use Rattle.page_workers.specs.declared.hand.Hand.{Hand}
use Rattle.page_workers.specs.NumberLists.{count_in, once_below, IsRising, IsAbove, has_from}
use Rattle.page_workers.specs.Inner.NumberLists.{merged}
use Rattle.page_workers.specs.Draws.{AreDrawn}

-- the view of a seat with these
abbrev pub hand : List ℕ → ℕ → ℕ → Hand
hand drawn parts credits = record { drawn = drawn; parts = parts; credits = credits }

-- f of each view, added up
abbrev pub sum_of_views : (Hand → ℕ) → List Hand → ℕ
sum_of_views f [] = 0
sum_of_views f (v ∷ vs) = f v + sum_of_views f vs

-- what the rule says of one view: each credit is covered by a part, and who has no part has no
-- numbers
pub record IsFairHand (v : Hand) : Type 0 where
  pub rising : IsRising v.drawn
  pub covered : v.credits ≤ v.parts
  pub idle : v.parts ≡ 0 → v.drawn ≡ []

-- the parts of all views are 64, so who has them all knows every number that was drawn; and the
-- credits bound how far the word can go
pub record IsFair (word : ℕ) (views : List Hand) : Type 0 where
  pub parts : sum_of_views (λ v. v.parts) views ≡ 64
  pub once : (x : ℕ) → sum_of_views (λ v. count_in x v.drawn) views ≡ once_below x word
  pub sound : (by : ℕ) (v : Hand) → get_elem? views by ≡ some v → IsFairHand v
  pub bound : word + sum_of_views (λ v. v.credits) views ≤ 2 ^ 32 + 64

-- the table has one word, and it is fair
pub record IsKept (words : List ℕ) (views : List Hand) : Type 0 where
  pub word : ℕ
  pub words_are : words ≡ word ∷ []
  pub fair : IsFair word views

-- a claim that finds 2^32 or more takes one credit away
abbrev pub credits_after : ℕ → ℕ → ℕ
credits_after word credits = cond (nat_lt word (2 ^ 32)) credits (credits - 1)

-- what a claim tells its seat: the number that it found went behind the seat's list, and it is the
-- next number of lists in which the seat's stands
pub record IsDraw (v : Hand) (word : ℕ) (w : Hand) : Type 0 where
  pub hand : w ≡ hand (v.drawn ++ word ∷ []) v.parts (credits_after word v.credits)
  pub above : IsAbove word v.drawn
  pub rising : IsRising w.drawn
  pub lists : List (List ℕ)
  pub by : ℕ
  pub drawn : AreDrawn (record { next = word; lists = lists })
  pub mine : get_elem? lists by ≡ some v.drawn

-- what a claim tells its seat, and it keeps what else it has
abbrev pub ClaimTells : {S : Type 0} → Step S → Me S Hand → ℕ → Me S Hand → Type 0
ClaimTells s v word w = IsDraw v.0 word w.0 × (w.1 ≡ v.1)

-- one part and one credit go to a new seat
abbrev pub with_one_less : Hand → Hand
with_one_less v = hand v.drawn (v.parts - 1) (v.credits - 1)

-- the view of one part and one credit, before anything was drawn
abbrev pub one_part : Hand
one_part = hand [] 1 1

-- two views as one
abbrev pub together : Hand → Hand → Hand
together v w = hand (merged v.drawn w.drawn) (v.parts + w.parts) (v.credits + w.credits)

-- the view of nothing
abbrev pub empty_hand : Hand
empty_hand = hand [] 0 0

-- what stands beside a seat's view: it has one part, and one credit until it is spent; and it is
-- spent where it drew a number at or above the total
pub record IsSeated (total : ℕ) (spent : Bool) (me : Me (Unit {0}) Hand) : Type 0 where
  pub slots : me.1 ≡ []
  pub part : me.0.parts ≡ 1
  pub credit : spent ≡ false → me.0.credits ≡ 1
  pub past : spent ≡ has_from total me.0.drawn
  pub rising : IsRising me.0.drawn

-- what stands beside a counter's word: its own seat has the parts and the credits of no other seat
pub record KeepsTheRest (table first : TableId) (seats : ℕ) (me : Me (Unit {0}) Hand) : Type 0 where
  pub words : table.words ≡ 1
  pub slots : table.slots ≡ 0
  pub same : first ≡ table
  pub some_seat : 1 ≤ seats
  pub most_seats : seats ≤ 64
  pub rest : me ≡ (hand [] (64 - seats) (64 - seats), [])

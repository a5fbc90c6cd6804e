-- Words that stand in blocks, and the list of all of them.
use Rattle.std.proofs.Common.{◌≡◌, ◌≢◌, ℕ, ◌+◌, ◌-◌, ◌*◌, ◌/◌, ◌%◌, ◌<◌, List, ◌++◌, length, get_or, set, replicate, refl, ap, sym, subst, ◌∙◌, inl, inr, arith}
use Rattle.std.proofs.lemmas.Bool.{cases_lt, cases_eq}
use Rattle.std.proofs.lemmas.Grind.{get_or-set_at}
use Rattle.std.proofs.lemmas.List.{ext_get_or, get_or_past, get_or-set_other, set-get_or, length-set, length-append, length-replicate, get_or-replicate, get_or_append_left, get_or-append_right}
use Rattle.std.proofs.lemmas.List.FromFn.{length-map-range_with_len, get_or-map-range_with_len}
use Rattle.boundary_edges.specs.Inner.Blocks.{stands_at, spread, AreBlocks}

-- words of 0
abbrev pub zeros : ℕ → List ℕ
zeros n = replicate n 0

pub length-zeros : (n : ℕ) → length (zeros n) ≡ n
length-zeros n = length-replicate n 0

pub zero_at : (n i : ℕ) → get_or (zeros n) i 0 ≡ 0
zero_at n i = elim (cases_lt i n) [
  | inl inside ↦ get_or-replicate n i 0 0 inside
  | inr past ↦ get_or_past (zeros n) i 0 (omega (arith, length-zeros n))
]

-- ---- the word at a place

pub length-spread : (starts words : List ℕ) → length (spread starts words) ≡ 16 * length starts
unfolding spread
length-spread starts words = length-map-range_with_len (λ i. get_or words (stands_at starts i) 0) 0 (16 * length starts)

spread_at : (starts words : List ℕ) (i : ℕ) → i < 16 * length starts → get_or (spread starts words) i 0 ≡ get_or words (stands_at starts i) 0
unfolding spread
spread_at starts words i inside =
    get_or-map-range_with_len (λ j. get_or words (stands_at starts j) 0) 0 (16 * length starts) i i 0 inside (omega arith)

-- the words of a white block are 0
pub white_at : (starts words : List ℕ) (i : ℕ) → AreBlocks starts words → get_or starts (i / 16) 0 ≡ 0 → get_or words (stands_at starts i) 0 ≡ 0
white_at starts words i blocks white =
    let place : stands_at starts i ≡ i % 16 = omega (arith, white) in
    ap (λ n. get_or words n 0) place ∙ blocks.white (i % 16) (omega arith)

-- also past all blocks, where a place leads to the zeros
pub get_or-spread : (starts words : List ℕ) (i : ℕ) → AreBlocks starts words → get_or (spread starts words) i 0 ≡ get_or words (stands_at starts i) 0
get_or-spread starts words i blocks = elim (cases_lt i (16 * length starts)) [
  | inl inside ↦ spread_at starts words i inside
  | inr past ↦
      get_or_past (spread starts words) i 0 (omega (arith, length-spread starts words))
      ∙ sym (white_at starts words i blocks (get_or_past starts (i / 16) 0 (omega arith)))
]

pub place_in : (starts words all : List ℕ) (i : ℕ) → spread starts words ≡ all → i < length all → i / 16 < length starts
place_in starts words all i is short = omega (arith, short, ap length is, length-spread starts words)

-- word i of a block
pub in_block : (starts : List ℕ) (block i start : ℕ) → i < 16 → start ≡ get_or starts block 0 → start + i ≡ stands_at starts (16 * block + i)
in_block starts block i start small is =
    let here : (16 * block + i) / 16 ≡ block = omega (arith, small) in
    omega (arith, small, is, ap (λ b. get_or starts b 0) here)

stands_inside : (starts words : List ℕ) (i : ℕ) → AreBlocks starts words → stands_at starts i < length words
stands_inside starts words i blocks = omega (arith, blocks.room (i / 16))

-- a word of a block with room of its own stands for one place alone
stands_apart : (starts words : List ℕ) (i j : ℕ) → AreBlocks starts words → 0 < get_or starts (i / 16) 0 → stands_at starts i ≡ stands_at starts j → j ≡ i
stands_apart starts words i j blocks some same =
    let here : get_or starts (i / 16) 0 ≡ get_or starts (j / 16) 0 = omega (arith, same, blocks.start (i / 16), blocks.start (j / 16)) in
    let block : i / 16 ≡ j / 16 = blocks.apart (i / 16) (j / 16) some here in
    omega (arith, same, here, block)

-- ---- a word that is written

pub spread-set : (starts words : List ℕ) (i x : ℕ) → AreBlocks starts words → i < 16 * length starts → 0 < get_or starts (i / 16) 0
    → spread starts (set words (stands_at starts i) x) ≡ set (spread starts words) i x
spread-set starts words i x blocks inside some =
    let at : ℕ = stands_at starts i in
    let all : List ℕ = spread starts words in
    let size : length all ≡ 16 * length starts = length-spread starts words in
    ext_get_or 0 (spread starts (set words at x)) (set all i x)
    (length-spread starts (set words at x) ∙ sym (length-set all i x ∙ size))
    (λ k short.
    let within : k < 16 * length starts = omega (arith, short, length-spread starts (set words at x)) in
    spread_at starts (set words at x) k within
    ∙ elim (cases_eq k i) [
      | inl same ↦
          get_or-set_at words at (stands_at starts k) x 0 (ap (stands_at starts) same) (stands_inside starts words i blocks)
          ∙ sym (get_or-set_at all i k x 0 same (omega (arith, inside, size)))
      | inr other ↦
          get_or-set_other words at (stands_at starts k) x 0 (λ e. other (stands_apart starts words i k blocks some (sym e)))
          ∙ sym (get_or-set_other all i k x 0 other ∙ spread_at starts words k within)
    ])

pub blocks_set : (starts words : List ℕ) (i x : ℕ) → AreBlocks starts words → 0 < get_or starts (i / 16) 0 → AreBlocks starts (set words (stands_at starts i) x)
blocks_set starts words i x blocks some =
    let at : ℕ = stands_at starts i in
    let size : length (set words at x) ≡ length words = length-set words at x in
    record {
      white = λ k short. get_or-set_other words at k x 0 (λ e. omega (arith, e, short, some, blocks.start (i / 16))) ∙ blocks.white k short;
      whole = omega (arith, size, blocks.whole);
      start = blocks.start;
      room = λ b. omega (arith, size, blocks.room b);
      apart = blocks.apart;
    }

put_in : (starts words all : List ℕ) (start block i word : ℕ) → AreBlocks starts words → spread starts words ≡ all → 16 * block < length all → i < 16 → 0 < start → start ≡ get_or starts block 0
    → AreBlocks starts (set words (start + i) word) × (spread starts (set words (start + i) word) ≡ set all (16 * block + i) word)
put_in starts words all start block i word blocks is inside small some begins =
    let here : (16 * block + i) / 16 ≡ block = omega (arith, small) in
    let own : 0 < get_or starts ((16 * block + i) / 16) 0 = omega (arith, some, begins, ap (λ b. get_or starts b 0) here) in
    let within : 16 * block + i < 16 * length starts = omega (arith, small, inside, ap length is, length-spread starts words) in
    subst (λ n. AreBlocks starts (set words n word) × (spread starts (set words n word) ≡ set all (16 * block + i) word)) (sym (in_block starts block i start small begins)) (
      blocks_set starts words (16 * block + i) word blocks own,
      spread-set starts words (16 * block + i) word blocks within own ∙ ap (λ ws. set ws (16 * block + i) word) is,
    )

-- and the next one
pub put_two_in : (starts words all : List ℕ) (start block i first second : ℕ) → AreBlocks starts words → spread starts words ≡ all → 16 * block < length all → i % 2 ≡ 0 → i < 16 → 0 < start → start ≡ get_or starts block 0
    → AreBlocks starts (set (set words (start + i) first) (start + i + 1) second)
    × (spread starts (set (set words (start + i) first) (start + i + 1) second) ≡ set (set all (16 * block + i) first) (16 * block + i + 1) second)
put_two_in starts words all start block i first second blocks is inside even small some begins =
    let once : List ℕ = set words (start + i) first in
    let one = put_in starts words all start block i first blocks is inside small some begins in
    let at : start + (i + 1) ≡ start + i + 1 = omega arith in
    let place : 16 * block + (i + 1) ≡ 16 * block + i + 1 = omega arith in
    let within : 16 * block < length (set all (16 * block + i) first) = omega (arith, inside, length-set all (16 * block + i) first) in
    subst (λ n. AreBlocks starts (set once n second) × (spread starts (set once n second) ≡ set (set all (16 * block + i) first) (16 * block + i + 1) second)) at
    (subst (λ n. AreBlocks starts (set once (start + (i + 1)) second) × (spread starts (set once (start + (i + 1)) second) ≡ set (set all (16 * block + i) first) n second)) place
    (put_in starts once (set all (16 * block + i) first) start block (i + 1) second one.0 one.1 within (omega (arith, even, small)) some begins))

set_same : (xs : List ℕ) (i x : ℕ) → get_or xs i 0 ≡ x → set xs i x ≡ xs
set_same xs i x is = ap (set xs i) (sym is) ∙ set-get_or xs i 0

-- a word that is 0 only stays 0, so this spoils no zeros that white blocks share
pub spread-less : (starts words : List ℕ) (i x : ℕ) → AreBlocks starts words → i < 16 * length starts → (get_or words (stands_at starts i) 0 ≡ 0 → x ≡ 0)
    → AreBlocks starts (set words (stands_at starts i) x) × (spread starts (set words (stands_at starts i) x) ≡ set (spread starts words) i x)
spread-less starts words i x blocks inside less = elim (cases_eq (get_or starts (i / 16) 0) 0) [
  | inr some ↦ (blocks_set starts words i x blocks (omega (arith, some)), spread-set starts words i x blocks inside (omega (arith, some)))
  | inl none ↦
      let zero : get_or words (stands_at starts i) 0 ≡ 0 = white_at starts words i blocks none in
      let kept : set words (stands_at starts i) x ≡ words = set_same words (stands_at starts i) x (zero ∙ sym (less zero)) in (
        rw kept blocks,
        ap (spread starts) kept ∙ sym (set_same (spread starts words) i x (spread_at starts words i inside ∙ zero ∙ sym (less zero))),
      )
]

-- ---- blocks that get room

pub white_blocks : (count : ℕ) → AreBlocks (zeros count) (zeros 16)
white_blocks count =
    record {
      white = λ i short. zero_at 16 i;
      whole = refl;
      start = λ b. omega (arith, zero_at count b);
      room = λ b. omega (arith, zero_at count b, length-zeros 16);
      apart = λ b c some same. absurd (omega (arith, some, zero_at count b));
    }

pub spread-white : (count : ℕ) → spread (zeros count) (zeros 16) ≡ zeros (16 * count)
spread-white count =
    let size : length (spread (zeros count) (zeros 16)) ≡ 16 * count = omega (arith, length-spread (zeros count) (zeros 16), length-zeros count) in
    ext_get_or 0 (spread (zeros count) (zeros 16)) (zeros (16 * count)) (size ∙ sym (length-zeros (16 * count)))
    (λ k short.
    get_or-spread (zeros count) (zeros 16) k (white_blocks count)
    ∙ white_at (zeros count) (zeros 16) k (white_blocks count) (zero_at count (k / 16))
    ∙ sym (zero_at (16 * count) k))

-- a white block gets zeros of its own behind all other words
pub blocks_more : (starts words more : List ℕ) (block : ℕ) → AreBlocks starts words → block < length starts → get_or starts block 0 ≡ 0 → length more ≡ 16 → ((i : ℕ) → get_or more i 0 ≡ 0)
    → AreBlocks (set starts block (length words)) (words ++ more) × (spread (set starts block (length words)) (words ++ more) ≡ spread starts words)
blocks_more starts words more block blocks inside white size zero =
    let next : List ℕ = set starts block (length words) in
    let longer : length (words ++ more) ≡ length words + 16 = omega (arith, length-append words more, size) in
    let own : get_or next block 0 ≡ length words = get_or-set_at starts block block (length words) 0 refl inside in
    let others : (b : ℕ) → b ≢ block → get_or next b 0 ≡ get_or starts b 0 = λ b away. get_or-set_other starts block b (length words) 0 away in (
      record {
        white = λ i short. get_or_append_left words more 0 i (omega (arith, short, blocks.room block)) ∙ blocks.white i short;
        whole = omega (arith, longer, blocks.whole);
        start = λ b. elim (cases_eq b block) [
          | inl here ↦ ap (λ n. get_or next n 0 % 16) here ∙ ap (λ n. n % 16) own ∙ blocks.whole
          | inr away ↦ ap (λ n. n % 16) (others b away) ∙ blocks.start b
        ];
        room = λ b. elim (cases_eq b block) [
          | inl here ↦ omega (arith, longer, own, ap (λ n. get_or next n 0) here)
          | inr away ↦ omega (arith, longer, others b away, blocks.room b)
        ];
        apart = λ b c some same. elim (cases_eq b block) [
          | inl here ↦ elim (cases_eq c block) [
            | inl there ↦ here ∙ sym there
            | inr away ↦ absurd (omega (arith, same, own, ap (λ n. get_or next n 0) here, others c away, blocks.room c))
          ]
          | inr apart ↦ elim (cases_eq c block) [
            | inl there ↦ absurd (omega (arith, same, own, ap (λ n. get_or next n 0) there, others b apart, blocks.room b))
            | inr away ↦ blocks.apart b c (omega (arith, some, others b apart)) (sym (others b apart) ∙ same ∙ others c away)
          ]
        ];
      },
      spread_more,
    )
  where
    spread_more : spread (set starts block (length words)) (words ++ more) ≡ spread starts words
    spread_more =
        let next : List ℕ = set starts block (length words) in
        let count : length next ≡ length starts = length-set starts block (length words) in
        let all : length (spread next (words ++ more)) ≡ 16 * length starts = omega (arith, length-spread next (words ++ more), count) in
        ext_get_or 0 (spread next (words ++ more)) (spread starts words) (all ∙ sym (length-spread starts words))
        (λ k short.
        let within : k < 16 * length starts = omega (arith, short, all) in
        spread_at next (words ++ more) k (omega (arith, within, count))
        ∙ elim (cases_eq (k / 16) block) [
          | inl here ↦
              ap (λ n. get_or (words ++ more) (n + k % 16) 0) (get_or-set_at starts block (k / 16) (length words) 0 here inside)
              ∙ get_or-append_right words more (length words) (length words + k % 16) 0 refl (omega arith)
              ∙ zero (length words + k % 16 - length words)
              ∙ sym (spread_at starts words k within
              ∙ white_at starts words k blocks (ap (λ b. get_or starts b 0) here ∙ white))
          | inr away ↦
              ap (λ n. get_or (words ++ more) (n + k % 16) 0) (get_or-set_other starts block (k / 16) (length words) 0 away)
              ∙ get_or_append_left words more 0 (stands_at starts k) (stands_inside starts words k blocks)
              ∙ sym (spread_at starts words k within)
        ])

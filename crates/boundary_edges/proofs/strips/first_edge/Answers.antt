-- The first word without the bits before the column, and the words of the strips behind it.
use Rattle.std.proofs.Common.{◌*◌, ◌/◌, ◌%◌, ◌-◌, length, refl, ap, inl, inr, ◌∙◌, arith}
use Rattle.std.proofs.lemmas.Bool.{cases_lt}
use Rattle.bit_image.specs.Words.{is_one}
use Rattle.bit_image.proofs.Bits.{is_one-zero}
use Rattle.boundary_edges.proofs.EdgeBits.{lowest_from, lowest_whole, none_from, edge_found, edge_none, has_edge-past, strip_room}
use Rattle.boundary_edges.proofs.strips.first_edge.Goals as goal

pub returns-then-word-ne0-clause-edge : goal.returns-then-word-ne0-clause-edge
returns-then-word-ne0-clause-edge c =
    let x = c.args.x in
    let word = c.down_in.result in
    let found = edge_found c.args.rows c.args.words.now (x / 64) (x % 64) _ c.args.y word c.requires.y c.down_in.ensures (lowest_from word (x % 64) _ refl (omega arith) (omega arith) (omega arith)) in
    (omega (arith, found.0), found.1)

pub returns-then-word-ne0-clause-left : goal.returns-then-word-ne0-clause-left
returns-then-word-ne0-clause-left c = λ u right left.
    let x = c.args.x in
    let word = c.down_in.result in
    let found = edge_found c.args.rows c.args.words.now (x / 64) (x % 64) _ c.args.y word c.requires.y c.down_in.ensures (lowest_from word (x % 64) _ refl (omega arith) (omega arith) (omega arith)) in
    found.2 u (omega arith) left

pub loop-strip-init : goal.loop-strip-init
loop-strip-init c = λ u right left.
    let x = c.args.x in
    let word = c.down_in.result in
    edge_none c.args.rows c.args.words.now (x / 64) c.args.y word u c.requires.y c.down_in.ensures (omega arith) (omega arith)
    (none_from word (x % 64) _ (u - 64 * (x / 64)) refl (omega arith) c.if-word-ne0.false (omega arith) (omega arith))

pub returns-then-word-ne0-2-clause-edge : goal.returns-then-word-ne0-2-clause-edge
returns-then-word-ne0-2-clause-edge c =
    let word = c.down_in-word.result in
    let found = edge_found c.args.rows c.args.words.now c.loop-strip.strip 0 _ c.args.y word c.requires.y c.down_in-word.ensures (lowest_whole word (omega arith) (omega arith)) in
    (omega (arith, found.0), found.1)

pub returns-then-word-ne0-2-clause-left : goal.returns-then-word-ne0-2-clause-left
returns-then-word-ne0-2-clause-left c = λ u right left.
    let word = c.down_in-word.result in
    let found = edge_found c.args.rows c.args.words.now c.loop-strip.strip 0 _ c.args.y word c.requires.y c.down_in-word.ensures (lowest_whole word (omega arith) (omega arith)) in
    elim (cases_lt u (64 * c.loop-strip.strip)) [
      | inl before ↦ c.loop-strip.invariant u right before
      | inr here ↦ found.2 u (omega arith) left
    ]

pub loop-strip-preserved : goal.loop-strip-preserved
loop-strip-preserved c = λ u right left.
    let strip = c.loop-strip.strip in
    elim (cases_lt u (64 * strip)) [
      | inl before ↦ c.loop-strip.invariant u right before
      | inr here ↦
          edge_none c.args.rows c.args.words.now strip c.args.y c.down_in-word.result u c.requires.y c.down_in-word.ensures here (omega arith)
          (ap (λ n. is_one n (u - 64 * strip)) c.if-word-ne0-2.false ∙ is_one-zero (u - 64 * strip))
    ]

pub returns-clause-none : goal.returns-clause-none
returns-clause-none c = λ _ u right. elim (cases_lt u (64 * c.loop-strip.strip)) [
  | inl before ↦ c.loop-strip.invariant u right before
  | inr past ↦ has_edge-past c.args.rows c.args.strips c.args.words.now 0 u c.args.y c.requires.room (omega arith)
]

pub down_in-requires-clause-room : goal.down_in-requires-clause-room
down_in-requires-clause-room c = strip_room c.args.rows c.args.strips (c.args.x / 64) (length c.args.words.now) c.requires.x c.requires.room

pub down_in-word-requires-clause-room : goal.down_in-word-requires-clause-room
down_in-word-requires-clause-room c = strip_room c.args.rows c.args.strips c.loop-strip.strip (length c.args.words.now) (omega arith) c.requires.room

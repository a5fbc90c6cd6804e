-- The rings inside the current one tie, and each pixel of a ring is black or white.
use Rattle.std.proofs.Common.{◌≡◌, ◌*◌, ◌-◌, nat_lt, ◌∙◌, ap, sym, inl, inr, arith}
use Rattle.std.proofs.lemmas.Bool.{cases_eq}
use Rattle.turn_policies.specs.Majority.{black_in_ring, white_in_ring}
use Rattle.turn_policies.proofs.Rings.{ring_size}
use Rattle.turn_policies.proofs.Majorities.{major-at, major-tied}
use Rattle.turn_policies.proofs.Square.{word_image, word_square}
use Rattle.turn_policies.proofs.majority.major_in.Goals as goal

pub overflow_sub-white-in-loop-radius : goal.overflow_sub-white-in-loop-radius
overflow_sub-white-in-loop-radius c =
    omega (
      arith,
      ring_size (word_image c.args.pixels) 4 4 c.loop-radius.radius (omega arith) (omega arith),
      c.black_around-black.ensures (word_image c.args.pixels) 4 4 (word_square c.args.pixels),
    )

pub returns-then-black-white : goal.returns-then-black-white
returns-then-black-white c = λ b x y square.
    let r = c.loop-radius.radius in
    let black = c.black_around-black.ensures b x y square in
    let size = ring_size b x y r (omega arith) (omega arith) in
    let white : 8 * r - 4 - c.black_around-black.result ≡ white_in_ring b x y r = omega (arith, size, black) in
    ap (λ n. nat_lt n c.black_around-black.result) white
    ∙ ap (nat_lt (white_in_ring b x y r)) black
    ∙ sym (major-at b x y r (omega arith) (omega arith) (c.loop-radius.invariant b x y square) (λ e. c.if-black-white.true (omega (arith, size, black))))

pub loop-radius-preserved : goal.loop-radius-preserved
loop-radius-preserved c = λ b x y square k p q. elim (cases_eq k c.loop-radius.radius) [
  | inr before ↦ c.loop-radius.invariant b x y square k p (omega arith)
  | inl here ↦
      let r = c.loop-radius.radius in
      let black = c.black_around-black.ensures b x y square in
      let size = ring_size b x y r (omega arith) (omega arith) in
      let tie : black_in_ring b x y r ≡ white_in_ring b x y r = omega (arith, size, black) in
      rw here tie
]

pub returns : goal.returns
returns c = λ b x y square. sym (major-tied b x y (λ k p q. c.loop-radius.invariant b x y square k p (omega arith)))

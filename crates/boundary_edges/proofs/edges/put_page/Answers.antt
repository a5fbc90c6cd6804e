-- One row more is put, or it stays without edges between two white rows, and the others stay.
use Rattle.std.proofs.Common.{◌≡◌, ℕ, suc, ◌+◌, ◌-◌, ◌*◌, ◌/◌, ◌≤◌, ◌&&◌, length, nat_le, ◌∙◌, ap, sym, subst, inl, inr, arith, add-one}
use Rattle.std.proofs.lemmas.Bool.{cases_order}
use Rattle.std.proofs.lemmas.Nat.{mul-le}
use Rattle.bit_image.specs.Page.{image_of}
use Rattle.bit_image.specs.Inner.Words.{black_in}
use Rattle.boundary_edges.specs.Inner.BoundaryBits.{has_edge, changes}
use Rattle.boundary_edges.proofs.Bounded.{row_changes, changes-white}
use Rattle.boundary_edges.proofs.edges.put_page.Goals as goal
use Rattle.boundary_edges.proofs.edges.put_page.Goals.{then-not-above_is_white+in_ok-put_row, else-not-above_is_white}

pub loop-y-preserved : goal.loop-y-preserved
loop-y-preserved c =
    let y = c.loop-y.y in
    let b = image_of c.args.page.now in
    let next = c.row_behind-above.result.now in
    let edges = has_edge c.args.rows in
    let over : (u : ℕ) → black_in next u ≡ nat_le 4 (suc y) && b u (suc y - 4) = subst (λ n. (w : ℕ) → black_in next w ≡ nat_le 4 n && b w (n - 4)) (add-one y) c.row_behind-above.ensures.pixels in
    record {
      size = elim c.if-not-above_is_white.branch [
        | then-not-above_is_white+in_ok-put_row w ↦ ap length w.words-is ∙ w.in_ok-put_row.ensures.length ∙ c.loop-y.invariant.size
        | else-not-above_is_white w ↦ ap length w.words-is ∙ c.loop-y.invariant.size
      ];
      rows_so_far = λ k u v p below. elim (cases_order v y) [
        | inl here ↦ elim c.if-not-above_is_white.branch [
          | then-not-above_is_white+in_ok-put_row w ↦
              ap (λ ws. edges ws k u v) w.words-is
              ∙ ap (edges w.put_row.new.words k u) here
              ∙ w.in_ok-put_row.ensures.row k u p
              ∙ row_changes b w.row_behind.result.now next k u y p w.row_behind.ensures.pixels over
              ∙ ap (changes b k u) (omega (arith, here))
          | else-not-above_is_white w ↦
              let both = w.if-not-above_is_white.false in
              ap (λ ws. edges ws k u v) w.words-is
              ∙ c.loop-y.invariant.rest k u v p (omega (arith, here))
              ∙ sym (ap (changes b k u) here ∙ changes-white b k u y (c.loop-y.invariant.white both.0) (λ n. sym (over n) ∙ c.is_white-above_is_white.ensures.0 both.1 n))
        ]
        | inr (inl before) ↦ elim c.if-not-above_is_white.branch [
          | then-not-above_is_white+in_ok-put_row w ↦ ap (λ ws. edges ws k u v) w.words-is ∙ w.in_ok-put_row.ensures.others k u v p (λ e. omega arith) ∙ c.loop-y.invariant.rows_so_far k u v p before
          | else-not-above_is_white w ↦ ap (λ ws. edges ws k u v) w.words-is ∙ c.loop-y.invariant.rows_so_far k u v p before
        ]
        | inr (inr after) ↦ absurd (omega arith)
      ];
      rest = λ k u v p after. elim c.if-not-above_is_white.branch [
        | then-not-above_is_white+in_ok-put_row w ↦ ap (λ ws. edges ws k u v) w.words-is ∙ w.in_ok-put_row.ensures.others k u v p (λ e. omega arith) ∙ c.loop-y.invariant.rest k u v p (omega arith)
        | else-not-above_is_white w ↦ ap (λ ws. edges ws k u v) w.words-is ∙ c.loop-y.invariant.rest k u v p (omega arith)
      ];
      white = λ white u. sym (c.row_behind-above.ensures.pixels u) ∙ c.is_white-above_is_white.ensures.0 white u;
    }

pub put_row-requires-clause-room : goal.put_row-requires-clause-room
put_row-requires-clause-room c =
    let rows = c.args.rows in
    let width = c.args.page.now.width in
    let fits : ((width + 63) / 64 + 1) * rows ≤ (width / 64 + 2) * rows = mul-le ((width + 63) / 64 + 1) rows (width / 64 + 2) rows (omega arith) (omega arith) in
    let size : length c.loop-y.words ≡ 2 * ((width / 64 + 2) * rows) = c.loop-y.invariant.size ∙ c.requires.room in
    subst (λ n. 2 * ((n + 1) * rows) ≤ length c.loop-y.words) (sym c.row_behind.ensures.count) (omega (arith, fits, size))

pub returns-clause-length : goal.returns-clause-length
returns-clause-length c = c.loop-y.invariant.size

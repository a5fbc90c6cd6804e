-- At the end all strips but the last one are written, which has no word of its own, and right of it there is nothing.
use Rattle.std.proofs.Common.{◌≡◌, ◌/◌, ◌∷◌, ◌∙◌, refl, ap, sym, inl, inr, get_or, length, arith, add-one}
use Rattle.std.proofs.lemmas.Bool.{cases_order}
use Rattle.std.proofs.lemmas.List.{get_or_past}
use Rattle.boundary_edges.proofs.EdgeBits.{changes_in-past}
use Rattle.boundary_edges.proofs.strips.put_row.Goals as goal

pub loop-strip-preserved : goal.loop-strip-preserved
loop-strip-preserved c =
    let strip = c.loop-strip.strip in
    record {
      size = c.in_ok-put_strip.ensures.length ∙ c.loop-strip.invariant.size;
      left = ap (λ n. get_or (0 ∷ c.args.below.now) n 0) (sym (add-one strip));
      left_above = ap (λ n. get_or (0 ∷ c.args.above.now) n 0) (sym (add-one strip));
      row = λ k u p before. elim (cases_order (u / 64) strip) [
        | inl here ↦
            c.in_ok-put_strip.ensures.row c.args.below.now c.args.above.now (record { left = c.loop-strip.invariant.left; word = refl }) (record { left = c.loop-strip.invariant.left_above; word = refl }) k u p here
        | inr (inl left) ↦ c.in_ok-put_strip.ensures.others k u c.args.y p (inl (λ e. omega arith)) ∙ c.loop-strip.invariant.row k u p left
        | inr (inr right) ↦ absurd (omega arith)
      ];
      rest = λ k u p past. c.in_ok-put_strip.ensures.others k u c.args.y p (inl (λ e. omega arith)) ∙ c.loop-strip.invariant.rest k u p (omega arith);
      others = λ k u v p away. c.in_ok-put_strip.ensures.others k u v p (inr away) ∙ c.loop-strip.invariant.others k u v p away;
    }

pub returns-clause-row : goal.returns-clause-row
returns-clause-row c =
    let below = c.args.below.now in
    let above = c.args.above.now in
    let whole : c.loop-strip.strip ≡ length below = omega arith in
    λ k u p. elim (cases_order (u / 64) (length below)) [
      | inl here ↦
          c.in_ok-put_strip-2.ensures.row below above
          (record { left = c.loop-strip.invariant.left ∙ ap (λ n. get_or (0 ∷ below) n 0) whole; word = sym (get_or_past below (length below) 0 (omega arith)) })
          (record { left = c.loop-strip.invariant.left_above ∙ ap (λ n. get_or (0 ∷ above) n 0) whole; word = sym (get_or_past above (length below) 0 (omega (arith, c.requires.count))) }) k u p here
      | inr (inl left) ↦ c.in_ok-put_strip-2.ensures.others k u c.args.y p (inl (λ e. omega arith)) ∙ c.loop-strip.invariant.row k u p (omega arith)
      | inr (inr past) ↦
          c.in_ok-put_strip-2.ensures.others k u c.args.y p (inl (λ e. omega arith)) ∙ c.loop-strip.invariant.rest k u p (omega arith)
          ∙ sym (changes_in-past below above k u c.requires.count past p)
    ]

pub returns-clause-length : goal.returns-clause-length
returns-clause-length c = c.in_ok-put_strip-2.ensures.length ∙ c.loop-strip.invariant.size

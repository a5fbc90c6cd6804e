use Rattle.std.proofs.Common.{◌≡◌, ℕ, ◌-◌, length, replicate, ◌∙◌, ap, subst, arith}
use Rattle.polygon_search.specs.declared.bounds.Bound.{Bound}
use Rattle.polygon_search.specs.Polygon.{penalty_of}
use Rattle.polygon_search.specs.Inner.VertexBounds.{AreBoundsOf}
use Rattle.polygon_search.proofs.Joining.{bound_of_none}
use Rattle.polygon_search.proofs.bounds.fill_bounds.Goals as goal

pub loop-window-init : goal.loop-window-init
loop-window-init c =
    let bounds = c.fill.new.self in
    let none = bound_of_none bounds (length c.args.bounds.now) (c.fill.ensures.after (λ y is. is) ∙ ap (λ b. replicate (length c.args.bounds.now) b) c.none.ensures) in
    let floor = λ (k : ℕ). ap (λ (b : Bound). b.floor) (none k) in
    record {
      places = c.fill.ensures.len;
      bounds = record {
        first = floor 0;
        small = λ k. omega (arith, floor k);
        joined = λ window i j below inside above reached. absurd (omega arith);
      };
      blank = record {
        ahead = λ k above. ap (λ (b : Bound). b.ahead) (none k);
        behind = λ k past. ap (λ (b : Bound). b.behind) (none k);
      };
    }

pub returns-clause-bounds : goal.returns-clause-bounds
returns-clause-bounds c =
    let s = c.args.segments.now in
    let whole : c.loop-window.window ≡ length c.args.farthest.now - 1 = omega (arith, c.loop-window-test.false) in
    subst (λ n. AreBoundsOf s.lasts.items c.args.begins.now c.args.farthest.now (penalty_of s.moments.now) n c.loop-window.bounds) whole c.loop-window.invariant.bounds

use Rattle.std.proofs.Common.{rules, ◌≡◌, ℕ, List, refl, ◌+◌, ◌*◌, ◌-◌, min, get_or, arith, ap, sym, ◌∙◌, subst}
use Rattle.mkbitmap.specs.Enlarged.{before_within}
use Rattle.mkbitmap.specs.Filtering.{Filtering}
use Rattle.mkbitmap.specs.Follows.{AreRaised, Follows}
use Rattle.mkbitmap.specs.Relief.{raised_of}
use Rattle.mkbitmap.specs.Inner.Layout.{filtering_of, first_held}
use Rattle.mkbitmap.proofs.RingRows.{holds_of, ring_of}
use Rattle.mkbitmap.proofs.filter.Filter.finish.Goals as goal

pub returns : goal.returns
returns c = (
  λ page old. (
      let f = c.self.inside in
      let laid = c.self.invariant in
      let due : f.pairs ≡ f.height = subst (λ (v : Filtering). v.pairs ≡ v.height) (sym c.self.view_is) c.requires.due in
      let follows : Follows page (filtering_of f) = subst (λ (v : Filtering). Follows page v) (sym c.self.view_is) old in
      let ring = ring_of page f laid follows.holds in
      let low : min (f.pairs + 1) f.height - f.radius ≡ first_held f = omega (arith, due) in
      let y_up : before_within f.height (f.pairs + 1 - 1) ≡ before_within f.height f.pairs = omega arith in
      let y_low : before_within f.height (f.pairs + 1) ≡ before_within f.height f.pairs = omega (arith, due) in
      let last : AreRaised page (filtering_of f) f.lower.items (before_within f.height f.pairs) = follows.lower (omega (arith, due, laid.room.setup.some_rows)) in
      let copied : c.copy_from_slice.new.self.items ≡ f.lower.items = c.copy_from_slice.ensures.items ∙ c.deref.ensures.value in
      record {
        holds = holds_of page _ (2 * f.radius + 1) (min (f.pairs + 1) f.height - f.radius) f.ring.items refl (omega (arith, low, laid.room.low)) ring.width ring.height ring.maxval ring.bright
            (λ j from. ring.held j (omega (arith, low, from)));
        upper = λ _ x within. ap (λ (l : List ℕ). get_or l x 0) copied ∙ last x within ∙ ap (raised_of page f.radius x) (sym y_up);
        lower = λ _ x within. last x within ∙ ap (raised_of page f.radius x) (sym y_low);
      }),
  search rules,
)

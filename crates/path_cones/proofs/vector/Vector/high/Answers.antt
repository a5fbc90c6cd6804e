use Rattle.std.proofs.Common.{◌≡◌, sym, ap, ◌∙◌, subst}
use Rattle.path_cones.specs.Inner.Cones.{IsShort, low_of}
use Rattle.path_cones.specs.declared.vector.Vector.{Vector}
use Rattle.path_cones.proofs.Bounds.{high_short, same_vector, short_back, shorter_back, shorter_passed}
use Rattle.path_cones.proofs.vector.Vector.high.Goals as goal

abbrev mirrored : Vector → Vector
mirrored way = record { x = way.y; y = way.x }

pub low-low-requires : goal.low-low-requires
low-low-requires c = record { x = shorter_passed c.args.self.y c.requires.y; y = shorter_passed c.args.self.x c.requires.x }

pub returns-clause-value : goal.returns-clause-value
returns-clause-value c =
    let s = c.requires in
    let low = c.low-low.result in
    let short = c.low-low.ensures.short in
    let is : low ≡ low_of (mirrored c.args.self) =
    c.low-low.ensures.value ∙ ap low_of (same_vector _ _ _ _ (shorter_back c.args.self.y s.y) (shorter_back c.args.self.x s.x)) in
    same_vector _ _ _ _ (short_back low.y short.y ∙ ap (λ (o : Vector). o.y) is) (short_back low.x short.x ∙ ap (λ (o : Vector). o.x) is)

pub returns-clause-short : goal.returns-clause-short
returns-clause-short c = subst (IsShort 65536) (sym (returns-clause-value c)) (high_short c.args.self c.requires)

use Rattle.std.proofs.Common.{◌≡◌, ◌+◌, ℤ, w64, to_z, of_z, refl, ap, ◌∙◌, rules}
use Rattle.std.proofs.lemmas.Int.{to_z-of_z}
use Rattle.std.specs.Int.RustNames.{FitsSigned}
use Rattle.prefix_moments.specs.declared.sums.Sums.{Sums}
use Rattle.prefix_moments.specs.Inner.Table.{offsets_of, without_count}
use Rattle.prefix_moments.proofs.Fitting.{side_back}
use Rattle.prefix_moments.proofs.Rows.{sums_same}
use Rattle.prefix_moments.proofs.receding.with_first.Goals as goal

-- the numbers come back from their bits
pub returns : goal.returns
returns c =
    let s = c.args.sums in
    let m = c.offsets-moved.result in
    let bits : (z : ℤ) → FitsSigned w64 z → to_z w64 (of_z w64 z) ≡ z = to_z-of_z w64 in
    let moved : m ≡ offsets_of (without_count s) c.args.count c.args.right c.args.above = c.offsets-moved.ensures
    ∙ rw (
      bits s.x (search rules),
      bits s.y (search rules),
      bits s.xx (search rules),
      bits s.xy (search rules),
      bits s.yy (search rules),
      side_back c.args.right c.requires.right,
      side_back c.args.above c.requires.above,
    ) refl in
    let is = moved ∙ ap (λ n. offsets_of (without_count s) n c.args.right c.args.above) c.requires.count in
    sums_same _ _ (ap (λ n. n + 1) c.requires.count)
    (bits m.x (search rules) ∙ ap (λ (s : Sums). s.x) is)
    (bits m.y (search rules) ∙ ap (λ (s : Sums). s.y) is)
    (bits m.xx (search rules) ∙ ap (λ (s : Sums). s.xx) is)
    (bits m.xy (search rules) ∙ ap (λ (s : Sums). s.xy) is)
    (bits m.yy (search rules) ∙ ap (λ (s : Sums). s.yy) is)

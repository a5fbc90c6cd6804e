use Rattle.std.proofs.Common.{◌≡◌, ◌≤◌, length, sym, ap, ◌∙◌, arith}
use Rattle.std.specs.List.{All, slice_range}
use Rattle.curve_join.proofs.Areas.{area_small}
use Rattle.curve_join.proofs.Cuts.{slice_length, slice_small}
use Rattle.curve_join.proofs.Widths.{long_back}
use Rattle.curve_join.specs.Inner.Bends.{IsWorkable}
use Rattle.curve_join.specs.Join.{area_at}
use Rattle.curve_join.proofs.runs.Runs.run.Goals as goal

pub invariant_of-result : goal.invariant_of-result
invariant_of-result c =
    let r = c.args.self.now in
    let run = slice_range c.deref.result.now c.args.from c.args.to in
    let count = ap (λ bends. length (slice_range bends c.args.from c.args.to)) c.deref.ensures.value ∙ slice_length r.bends.items c.args.from c.args.to c.requires.within in
    let some : 2 ≤ length run = omega (arith, count, c.requires.onwards) in
    let few : length run ≤ 64 = omega (arith, count, c.requires.few) in
    let small : All IsWorkable run = rw c.deref.ensures.value (slice_small r.bends.items c.args.from c.args.to r.small) in
    let area : c.area.result ≡ area_at run = c.area.ensures ∙ sym (ap (λ bends. area_at (slice_range bends c.args.from c.args.to)) c.deref.ensures.value) in
    record {
      some = some;
      few = few;
      small = small;
      area_is = long_back c.area.result (omega (arith, area_small run small some few c.area.result area)) ∙ area;
    }

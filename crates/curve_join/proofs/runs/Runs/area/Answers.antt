use Rattle.std.proofs.Common.{◌≡◌, ◌-◌, pos, ◌*ℤ◌, get_or, ap, ◌∙◌, arith}
use Rattle.std.proofs.lemmas.List.{get_or_read}
use Rattle.pt_core.specs.ClosedWalk.{origin}
use Rattle.curve_join.proofs.Areas.{area_fits_too, area_read, area_worked, areas_length, between_fits}
use Rattle.curve_join.proofs.Widths.{back}
use Rattle.curve_join.proofs.JoinedRuns.{crosses}
use Rattle.curve_join.specs.Inner.Areas.{area_up_to}
use Rattle.curve_join.specs.Join.{no_bend}
use Rattle.curve_join.specs.Vector.{vector_cross, way_of}
use Rattle.curve_join.proofs.runs.Runs.area.Goals as goal

-- two prefix sums, and ten times the triangle of the origin and the chord
module _ (c : goal.After-times) where
  upper_is : c.index-3.result.now ≡ area_up_to c.args.self.now.bends.items c.args.to
  upper_is = area_read c.args.self.now.bends.items c.args.self.now.areas.items c.args.self.now.summed c.args.to c.requires.within c.index-3.result.now c.index-3.ensures

  lower_is : c.index-4.result.now ≡ area_up_to c.args.self.now.bends.items c.args.from
  lower_is =
      area_read c.args.self.now.bends.items c.args.self.now.areas.items c.args.self.now.summed c.args.from (omega (arith, c.requires.onwards, c.requires.within))
      c.index-4.result.now c.index-4.ensures

  triangle_is : c.times.result
      ≡ pos 10 *ℤ vector_cross (way_of origin (get_or c.args.self.now.bends.items c.args.from no_bend).start)
      (way_of origin (get_or c.args.self.now.bends.items (c.args.to - 1) no_bend).end)
  triangle_is =
      let bends = c.args.self.now.bends.items in
      let first = get_or_read bends c.args.from c.index.result.now (omega (arith, c.requires.onwards, c.requires.within)) c.index.ensures no_bend in
      let last = get_or_read bends (c.args.to - 1) c.index-2.result.now (omega (arith, c.requires.onwards, c.requires.within)) c.index-2.ensures no_bend in
      c.times.ensures.value
      ∙ ap (λ z. pos 10 *ℤ z) (back c.cross.result (omega (arith, c.cross.ensures.most)) ∙ c.cross.ensures.value
      ∙ crosses _ _ _ _ (c.short_way.ensures.value ∙ ap (λ b. way_of origin b.start) first) (c.short_way-2.ensures.value ∙ ap (λ b. way_of origin b.end) last))

pub index-requires-3 : goal.index-requires-3
index-requires-3 c = omega (arith, areas_length c.args.self.now.bends.items c.args.self.now.areas.items c.args.self.now.summed, c.requires.within)

pub index-requires-4 : goal.index-requires-4
index-requires-4 c = omega (arith, areas_length c.args.self.now.bends.items c.args.self.now.areas.items c.args.self.now.summed, c.requires.onwards, c.requires.within)

pub overflow_sub-between : goal.overflow_sub-between
overflow_sub-between c =
    let r = c.args.self.now in
    between_fits r.bends.items r.linked r.small r.most c.args.from c.args.to c.index-3.result.now c.index-4.result.now (pos 0)
    (area_read r.bends.items r.areas.items r.summed c.args.to c.requires.within c.index-3.result.now c.index-3.ensures)
    (area_read r.bends.items r.areas.items r.summed c.args.from (omega (arith, c.requires.onwards, c.requires.within)) c.index-4.result.now c.index-4.ensures)
    (omega arith)

pub overflow_sub-result : goal.overflow_sub-result
overflow_sub-result c =
    let r = c.args.self.now in
    area_fits_too r.bends.items r.linked r.small r.most c.args.from c.args.to c.index-3.result.now c.index-4.result.now c.times.result (upper_is c) (lower_is c) c.times.ensures.most

pub returns : goal.returns
returns c =
    let r = c.args.self.now in
    area_worked r.bends.items r.linked r.small r.most c.args.from c.args.to c.index-3.result.now c.index-4.result.now c.times.result (upper_is c) (lower_is c) c.times.ensures.most
    c.requires.onwards c.requires.within (triangle_is c)

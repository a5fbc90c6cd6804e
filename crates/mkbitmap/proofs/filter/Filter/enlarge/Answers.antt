use Rattle.std.proofs.Common.{◌≡◌, ℕ, List, ◌+◌, ◌*◌, ◌≤◌, ◌<◌, length, get_or, arith, ap, sym, ◌∙◌, subst}
use Rattle.std.specs.Prelude.{nat_le}
use Rattle.std.proofs.lemmas.List.{with_items_is}
use Rattle.std.proofs.lemmas.Nat.{mul-le}
use Rattle.bit_image.specs.PbmText.{row_text}
use Rattle.mkbitmap.specs.Enlarged.{after_of, before_within, mixed_column, mixed_raised, is_black, dark_limit}
use Rattle.mkbitmap.specs.Filtering.{Filtering}
use Rattle.mkbitmap.specs.Follows.{Follows}
use Rattle.mkbitmap.specs.Inner.Enlarged.{dark}
use Rattle.mkbitmap.specs.Inner.Layout.{filtering_of}
use Rattle.mkbitmap.specs.Packing.{padded}
use Rattle.mkbitmap.proofs.Bytes.{length-row_text}
use Rattle.mkbitmap.proofs.RaisedReliefs.{black-is}
use Rattle.mkbitmap.proofs.PixelPlaces.{after-within}
use Rattle.mkbitmap.proofs.LargerRows.{column_is, dark_is, packed_same}
use Rattle.mkbitmap.proofs.filter.Filter.enlarge.Goals as goal

pub overflow_cast-self-inside : goal.overflow_cast-self-inside
overflow_cast-self-inside c =
    let f = c.self.inside in
    let room = c.self.invariant.room in
    let one : 1 * f.width ≤ f.times * f.width = mul-le 1 f.width f.times f.width room.setup.some_times (omega arith) in
    omega (arith, one, room.setup.most_columns)

pub returns-clause-row : goal.returns-clause-row
returns-clause-row c = λ page old.
    let f = c.self.inside in
    let room = c.self.invariant.room in
    let follows : Follows page (filtering_of f) = subst (λ (v : Filtering). Follows page v) (sym c.self.view_is) old in
    let ready : f.pairs ≡ after_of f.times c.args.y + 1 = subst (λ (v : Filtering). v.pairs ≡ after_of v.times c.args.y + 1) (sym c.self.view_is) c.requires.ready in
    let wide : length c.deref.result.now ≡ f.width = ap length c.deref.ensures.value ∙ room.upper in
    let page_wide : page.width ≡ f.width = follows.holds.width in
    let size : length c.mix_row.new.mixed ≡ f.mixed.len = c.mix_row.ensures.same_room ∙ c.deref_mut.ensures.len in
    let mixed_wide : length c.mix_row.new.mixed ≡ f.width + 2 = size ∙ f.mixed.ok.0 ∙ room.mixed in
    let mixed : c.deref-3.result.now ≡ c.mix_row.new.mixed = c.deref-3.ensures.value ∙ with_items_is f.mixed c.mix_row.new.mixed size in
    let columns : (u : ℕ) → u < page.width + 2 → get_or c.mix_row.new.mixed u 0 ≡ mixed_column page f.radius f.times c.args.y (before_within page.width u)
    = λ u h.
    let value = c.mix_row.ensures.value u (omega (arith, h, page_wide, mixed_wide, c.mix_row.ensures.same_room)) in
    let same : before_within (length c.deref.result.now) u ≡ before_within page.width u = omega (arith, wide, page_wide) in
    value ∙ column_is page (filtering_of f) f.times c.args.y follows ready c.of-place.result.part c.deref.result.now c.deref-2.result.now
    c.of-place.ensures.part c.deref.ensures.value c.deref-2.ensures.value (before_within (length c.deref.result.now) u) (omega (arith, wide, room.setup.some_columns))
    ∙ ap (λ x. mixed_column page f.radius f.times c.args.y x) same in
    let all : f.times * (page.width + 2) ≡ f.times * f.width + 2 * f.times = rw page_wide (omega arith) in
    let bright : (a b : ℕ) → page.sample a b ≤ page.maxval = λ a b. rw follows.holds.maxval (follows.holds.bright a b) in
    let limit : f.limit ≡ dark_limit page.maxval f.times f.level = room.setup.dark ∙ ap (λ w. dark_limit w f.times f.level) (sym follows.holds.maxval) in
    let row : c.pack_row.new.row ≡ row_text (f.times * f.width) (padded (f.times * f.width) (λ X. is_black page f.radius f.times f.level X c.args.y))
    = c.pack_row.ensures ∙ ap (λ (m : List ℕ). row_text (f.times * f.width) (padded (f.times * f.width) (dark m f.times f.limit))) mixed
    ∙ packed_same (f.times * f.width) (dark c.mix_row.new.mixed f.times f.limit) (λ X. is_black page f.radius f.times f.level X c.args.y)
    (λ X h. dark_is page f.radius f.times f.limit c.args.y X c.mix_row.new.mixed columns
    (after-within f.times X (f.times * f.width) (page.width + 2) room.setup.some_times h (omega (arith, all)))
    ∙ ap (λ n. nat_le (mixed_raised page f.radius f.times X c.args.y) n) limit
    ∙ sym (black-is page f.radius f.times f.level X c.args.y bright (omega (arith, page_wide, room.setup.some_columns)) (omega (arith, follows.holds.height, room.setup.some_rows)) room.setup.some_times)) in
    let packed : length c.pack_row.new.row ≡ f.packed.len = ap length row ∙ length-row_text (f.times * f.width) (padded (f.times * f.width) (λ X. is_black page f.radius f.times f.level X c.args.y)) ∙ sym (f.packed.ok.0 ∙ room.packed) in
    with_items_is f.packed c.pack_row.new.row packed ∙ row
    ∙ ap (λ (v : Filtering). row_text (v.times * v.width) (padded (v.times * v.width) (λ X. is_black page v.radius v.times v.level X c.args.y))) c.self.view_is

pub returns-clause-follows : goal.returns-clause-follows
returns-clause-follows c = λ page old.
    let follows : Follows page (filtering_of c.self.inside) = subst (λ (v : Filtering). Follows page v) (sym c.self.view_is) old in
    let holds = follows.holds in
    record {
      holds = record { width = holds.width; height = holds.height; maxval = holds.maxval; bright = holds.bright; held = holds.held };
      upper = follows.upper;
      lower = follows.lower;
    }

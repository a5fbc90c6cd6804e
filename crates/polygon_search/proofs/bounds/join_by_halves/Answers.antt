use Rattle.std.proofs.Common.{ℕ, ◌+◌, length, ◌∙◌, arith}
use Rattle.std.specs.Prelude.{slice_index}
use Rattle.polygon_search.specs.Polygon.{penalty_of}
use Rattle.polygon_search.proofs.Counting.{counted}
use Rattle.polygon_search.proofs.Floors.{joined_by_halves}
use Rattle.polygon_search.proofs.Halving.{halves_of, middle_between, reach_back, reach_on}
use Rattle.polygon_search.proofs.Joining.{blank_more, joined_more}
use Rattle.polygon_search.proofs.Windowed.{begin_near, end_before, is_between}
use Rattle.polygon_search.proofs.bounds.join_by_halves.Goals as goal

pub overflow_sub-middle-2 : goal.overflow_sub-middle-2
overflow_sub-middle-2 c =
    let s = c.args.segments.now in
    let points = s.moments.now in
    let size = length points in
    let lasts = s.lasts.items in
    let begins = c.args.begins.now in
    let farthest = c.args.farthest.now in
    let window : ℕ = c.args.window in
    let known = counted size lasts s.onwards s.rising in
    let apart = end_before size lasts begins farthest known c.requires.windows window c.requires.window in
    omega (arith, apart)

-- the middle stands before the next window
pub between-halves-requires-clause-beyond : goal.between-halves-requires-clause-beyond
between-halves-requires-clause-beyond c =
    let s = c.args.segments.now in
    let points = s.moments.now in
    let size = length points in
    let lasts = s.lasts.items in
    let begins = c.args.begins.now in
    let farthest = c.args.farthest.now in
    let window : ℕ = c.args.window in
    let known = counted size lasts s.onwards s.rising in
    let apart = end_before size lasts begins farthest known c.requires.windows window c.requires.window in
    let middle = middle_between (slice_index farthest window) (slice_index begins (window + 1)) apart in
    omega (arith, middle.1, begin_near size lasts begins farthest known c.requires.windows (window + 1) c.requires.window)

pub fill_ahead-least-requires-clause-halves : goal.fill_ahead-least-requires-clause-halves
fill_ahead-least-requires-clause-halves c =
    let s = c.args.segments.now in
    let points = s.moments.now in
    let size = length points in
    let lasts = s.lasts.items in
    let begins = c.args.begins.now in
    let farthest = c.args.farthest.now in
    let window : ℕ = c.args.window in
    let known = counted size lasts s.onwards s.rising in
    let apart = end_before size lasts begins farthest known c.requires.windows window c.requires.window in
    let middle = middle_between (slice_index farthest window) (slice_index begins (window + 1)) apart in
    let between = is_between size lasts begins farthest known c.requires.windows window c.requires.window _ middle.0 middle.1 in
    let found = c.between-halves.ensures in
    let are = halves_of points (slice_index begins window) _ (slice_index farthest (window + 1)) c.between-halves.result found.moments found.middle found.one_way in
    reach_back points begins farthest window _ between c.between-halves.result are

pub fill_behind-requires-clause-halves : goal.fill_behind-requires-clause-halves
fill_behind-requires-clause-halves c =
    let s = c.args.segments.now in
    let points = s.moments.now in
    let size = length points in
    let lasts = s.lasts.items in
    let begins = c.args.begins.now in
    let farthest = c.args.farthest.now in
    let window : ℕ = c.args.window in
    let known = counted size lasts s.onwards s.rising in
    let apart = end_before size lasts begins farthest known c.requires.windows window c.requires.window in
    let middle = middle_between (slice_index farthest window) (slice_index begins (window + 1)) apart in
    let between = is_between size lasts begins farthest known c.requires.windows window c.requires.window _ middle.0 middle.1 in
    let found = c.between-halves.ensures in
    let are = halves_of points (slice_index begins window) _ (slice_index farthest (window + 1)) c.between-halves.result found.moments found.middle found.one_way in
    reach_on points begins farthest window _ between c.between-halves.result are

pub returns : goal.returns
returns c =
    let s = c.args.segments.now in
    let points = s.moments.now in
    let size = length points in
    let lasts = s.lasts.items in
    let begins = c.args.begins.now in
    let farthest = c.args.farthest.now in
    let window : ℕ = c.args.window in
    let known = counted size lasts s.onwards s.rising in
    let apart = end_before size lasts begins farthest known c.requires.windows window c.requires.window in
    let middle = middle_between (slice_index farthest window) (slice_index begins (window + 1)) apart in
    let found = c.between-halves.ensures in
    let are = halves_of points (slice_index begins window) _ (slice_index farthest (window + 1)) c.between-halves.result found.moments found.middle found.one_way in
    let here = c.fill_ahead-least.ensures.ahead in
    let there = c.fill_behind.ensures in
    let joined = joined_by_halves size lasts begins farthest known c.requires.windows window c.requires.window points c.between-halves.result _ c.fill_ahead-least.result
    c.args.bounds.now c.fill_ahead-least.new.bounds c.fill_behind.new.bounds c.requires.bounds middle.0 middle.1 are here there in
    record {
      places = there.places ∙ here.places;
      bounds = joined_more size lasts begins farthest known c.requires.windows (penalty_of points) window c.requires.window c.args.bounds.now c.fill_behind.new.bounds joined c.requires.bounds;
      blank = blank_more size lasts begins farthest known c.requires.windows (penalty_of points) window c.requires.window c.args.bounds.now c.fill_behind.new.bounds joined c.requires.blank;
    }

use Rattle.std.proofs.Common.{◌≡◌, ◌+◌, ◌-◌, ◌<◌, ◌≤◌, length, ◌∙◌, arith}
use Rattle.std.proofs.lemmas.List.{get_or_default}
use Rattle.std.specs.Prelude.{slice_index}
use Rattle.cyclic_optimal.proofs.Layers.{front_at, nowhere, rest_most, via_none, via_tried}
use Rattle.cyclic_optimal.proofs.fronts.tried.Goals as goal

pub returns-then-beyond-begin-le-FEW-clause-least : goal.returns-then-beyond-begin-le-FEW-clause-least
returns-then-beyond-begin-le-FEW-clause-least c =
    let points = c.args.sides.now.moments.now in
    let front = c.args.later.now in
    via_none points front.end front.left c.args.i c.args.begin
    (nowhere points front c.args.i c.args.begin c.requires.front c.requires.first)

pub lower-requires-clause-most : goal.lower-requires-clause-most
lower-requires-clause-most c =
    λ below.
    (let s = c.args.sides.now in
    let front = c.args.later.now in
    let j = c.min-to.result in
    let above : front.low ≤ j = omega (arith, c.min-to.ensures, c.max.ensures, c.requires.low, c.requires.some) in
    let under : j < front.low + length front.least.items = omega (arith, c.min-to.ensures, c.requires.some, c.requires.high) in
    let value : c.index.result.now ≡ slice_index front.least.items (j - front.low)
    = c.index.ensures ∙ get_or_default front.least.items (j - front.low) c.index.result.now 0 (omega arith) in
    rest_most s.moments.now s.on_page front.end front.left j c.index.result.now c.requires.end c.requires.left
    (front_at s.moments.now front j c.index.result.now c.requires.front above under value)
    below)

pub returns-clause-least : goal.returns-clause-least
returns-clause-least c =
    let s = c.args.sides.now in
    let front = c.args.later.now in
    let j = c.min-to.result in
    let above : front.low ≤ j = omega (arith, c.min-to.ensures, c.max.ensures, c.requires.low, c.requires.some) in
    let under : j < front.low + length front.least.items = omega (arith, c.min-to.ensures, c.requires.some, c.requires.high) in
    let value : c.index.result.now ≡ slice_index front.least.items (j - front.low)
    = c.index.ensures ∙ get_or_default front.least.items (j - front.low) c.index.result.now 0 (omega arith) in
    via_tried s.moments.now front.end front.left c.args.i j c.args.begin c.index.result.now c.lower.result.least
    (nowhere s.moments.now front c.args.i c.args.begin c.requires.front c.requires.first)
    (c.requires.possible j (omega (arith, c.min-to.ensures, c.max.ensures, c.requires.onwards, c.requires.some)) (omega (arith, c.min-to.ensures, c.requires.some)))
    (front_at s.moments.now front j c.index.result.now c.requires.front above under value)
    c.lower.ensures.lower c.lower.ensures.same

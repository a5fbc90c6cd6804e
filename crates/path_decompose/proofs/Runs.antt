-- Runs of edges with one heading, and what is noted down of them.
use Rattle.std.proofs.Common.{◌≡◌, ◌≢◌, ℕ, zero, suc, pred, ◌+◌, ◌-◌, ◌<◌, ◌≤◌, Bool, true, false, not, List, [], ◌∷◌, ◌++◌, length, map, sum_by, All, refl, ap, sym, subst, ◌∙◌, arith, append_assoc}
use Rattle.std.proofs.lemmas.Bool.{false≢true}
use Rattle.std.proofs.lemmas.List.{length-append, length-map, map-append}
use Rattle.std.proofs.lemmas.List.Sums.{sum_by-cons, sum_by-append}
use Rattle.std.proofs.lemmas.List.Elements.{All-nil, All-cons, All-head, All-tail, All-append}
use Rattle.pt_core.specs.declared.point.Point.{Point}
use Rattle.pt_core.specs.declared.path.Sign.{Sign}
use Rattle.pt_core.specs.declared.policy.Policy.{Policy}
use Rattle.pt_core.specs.declared.limits.TheConstants.{LONGEST_SIDE}
use Rattle.bit_image.specs.Image.{Image, Fits, south_west}
use Rattle.bit_image.specs.FirstBlack.{IsFirstBlack}
use Rattle.turn_policies.specs.declared.heading.Dir.{Dir}
use Rattle.turn_policies.specs.declared.heading.Dir.TheVariants.{North, East, South, West}
use Rattle.turn_policies.specs.declared.edge.Edge.{Edge}
use Rattle.turn_policies.specs.Boundary.{IsBoundary, left_pixel}
use Rattle.turn_policies.specs.Heading.{left_of, right_of, end_x, end_y}
use Rattle.turn_policies.specs.Turn.{turn_of, turn, next}
use Rattle.turn_policies.proofs.TurnedEdges.{next_boundary}
use Rattle.path_decompose.specs.declared.trail.Trail.{Trail}
use Rattle.path_decompose.specs.Inner.Trail.{is_upright, column_up, column_down, AreNoted, IsStraightRun}
use Rattle.path_decompose.specs.Walk.{first_edge, start_of, IsTrail}
use Rattle.path_decompose.proofs.OnPage.{edge_on}
use Rattle.path_decompose.proofs.Orbit.{nth_after-keeps}
use Rattle.path_decompose.proofs.Round.{first_boundary}
use Rattle.path_decompose.proofs.Noted.{IsNoted, IsWholeWalk, noted_more, noted_closed, column_up-le, column_down-le}

-- ---- edge by edge

-- nothing is passed yet
pub no_run : (f : Edge → Edge) (from here : Edge) (trail : Trail) → from ≡ here → IsStraightRun f from here trail trail
no_run f from here trail e =
    record {
      edges = [];
      straight = All-nil _;
      trail = e;
      noted = record { points = sym (append_nil trail.points.items); up = omega arith; down = omega arith };
    }
  where
    append_nil : (points : List Point) → points ++ [] ≡ points
    append_nil [] = refl
    append_nil (p ∷ ps) = ap (λ qs. p ∷ qs) (append_nil ps)

trail_more : (f : Edge → Edge) (from here after : Edge) (es : List Edge) → IsTrail f from es here → f here ≡ after → IsTrail f from (es ++ here ∷ []) after
trail_more f from here after [] run last = (sym run, last)
trail_more f from here after (e ∷ es) run last = (run.0, trail_more f (f e) here after es run.1 last)

sum_more : (g : Edge → ℕ) (es : List Edge) (e : Edge) (old mid new : ℕ) → mid ≡ old + sum_by g es → new ≡ mid + sum_by g (e ∷ []) → new ≡ old + sum_by g (es ++ e ∷ [])
sum_more g es e old mid new first last = omega (arith, first, last, sum_by-append g es (e ∷ []))

noted_push : (old mid new : Trail) (es : List Edge) (e : Edge) → AreNoted old mid es → AreNoted mid new (e ∷ []) → AreNoted old new (es ++ e ∷ [])
noted_push old mid new es e first last =
    record {
      points =
          last.points ∙ ap (λ ps. ps ++ start_of e ∷ []) first.points
          ∙ append_assoc old.points.items (map start_of es) (start_of e ∷ [])
          ∙ ap (λ ps. old.points.items ++ ps) (sym (map-append start_of es (e ∷ [])));
      up = sum_more column_up es e old.up mid.up new.up first.up last.up;
      down = sum_more column_down es e old.down mid.down new.down first.down last.down;
    }

-- one edge more, with the same heading
pub run_more : (f : Edge → Edge) (from here after : Edge) (old mid new : Trail) → IsStraightRun f from here old mid → here.heading ≡ from.heading → after ≡ f here → AreNoted mid new (here ∷ []) → IsStraightRun f from after old new
run_more f from here after old mid new run same next noted =
    record {
      edges = run.edges ++ here ∷ [];
      straight = All-append (λ e. e.heading ≡ from.heading) run.edges (here ∷ []) run.straight (All-cons (λ e. e.heading ≡ from.heading) here [] same (All-nil _));
      trail = trail_more f from here after run.edges run.trail (sym next);
      noted = noted_push old mid new run.edges here run.noted noted;
    }

-- ---- how many edges a run can have

-- how many edges lead on from corner (x, y) to the side of a page, and one more to the north and to the east
abbrev pub edges_left : ℕ → ℕ → ℕ → ℕ → Dir → ℕ
edges_left width height x y North = suc height - y
edges_left width height x y East = suc width - x
edges_left width height x y South = y
edges_left width height x y West = x

pub edges_left-le : (width height x y most : ℕ) (d : Dir) → width ≤ most → height ≤ most → x ≤ width → y ≤ height → edges_left width height x y d ≤ suc most
edges_left-le width height x y most North w h a b = omega arith
edges_left-le width height x y most East w h a b = omega arith
edges_left-le width height x y most South w h a b = omega arith
edges_left-le width height x y most West w h a b = omega arith

-- a black pixel's upper right corner is none at the page's left or lower side
pub past_sides : (b : Image) (x y : ℕ) → south_west b x y ≡ true → (1 ≤ x) × (1 ≤ y)
past_sides b zero y black = absurd (false≢true black)
past_sides b (suc x) zero black = absurd (false≢true black)
past_sides b (suc x) (suc y) black = (omega arith, omega arith)

pred-less : (n : ℕ) → 1 ≤ n → pred n < n
pred-less zero some = absurd (omega (arith, some))
pred-less (suc n) some = omega arith

-- each edge leaves fewer
pub edges_left-less : (b : Image) (width height x y : ℕ) (d : Dir) → Fits b width height → IsBoundary b (record { x = x; y = y; heading = d })
    → edges_left width height (end_x x d) (end_y y d) d < edges_left width height x y d
edges_left-less b width height x y North fits boundary = let on = edge_on b width height fits _ boundary in omega (arith, on.row)
edges_left-less b width height x y East fits boundary = let on = edge_on b width height fits _ boundary in omega (arith, on.column)
edges_left-less b width height x y South fits boundary = pred-less y (past_sides b (suc x) y boundary.black_left).1
edges_left-less b width height x y West fits boundary = pred-less x (past_sides b x y boundary.black_left).0

pub left_less : (b : Image) (policy : Policy) (sign : Sign) (width height : ℕ) (here after : Edge) → Fits b width height → IsBoundary b here → after ≡ next b policy sign here
    → edges_left width height after.x after.y here.heading < edges_left width height here.x here.y here.heading
left_less b policy sign width height here after fits boundary next =
    subst (λ e. edges_left width height e.x e.y here.heading < edges_left width height here.x here.y here.heading) (sym next)
    (edges_left-less b width height here.x here.y here.heading fits boundary)

-- and an edge adds little to the sums
pub sums_more : (old new : Trail) (here : Edge) → here.x ≤ LONGEST_SIDE → AreNoted old new (here ∷ []) → (new.up ≤ old.up + LONGEST_SIDE) × (new.down ≤ old.down + LONGEST_SIDE)
sums_more old new here narrow noted = (
  omega (arith, narrow, noted.up, sum_by-cons column_up here [], column_up-le here.x here.heading),
  omega (arith, narrow, noted.down, sum_by-cons column_down here [], column_down-le here.x here.heading),
)

-- ---- turns

left_upright : (d : Dir) → is_upright (left_of d) ≡ not (is_upright d)
left_upright North = refl
left_upright East = refl
left_upright South = refl
left_upright West = refl

right_upright : (d : Dir) → is_upright (right_of d) ≡ not (is_upright d)
right_upright North = refl
right_upright East = refl
right_upright South = refl
right_upright West = refl

turn_upright : (left right choice : Bool) (d : Dir) → turn_of left right choice d ≢ d → is_upright (turn_of left right choice d) ≡ not (is_upright d)
turn_upright true false choice d other = absurd (other refl)
turn_upright true true choice d other = right_upright d
turn_upright false false choice d other = left_upright d
turn_upright false true true d other = right_upright d
turn_upright false true false d other = left_upright d

-- an edge with another heading than the one before leads along a row after one up or down, and the other way round
pub next_upright : (b : Image) (policy : Policy) (sign : Sign) (here after : Edge) → after ≡ next b policy sign here → after.heading ≢ here.heading → is_upright after.heading ≡ not (is_upright here.heading)
next_upright b policy sign here after is other =
    let heading : after.heading ≡ turn b policy sign (end_x here.x here.heading) (end_y here.y here.heading) here.heading = ap (λ e. e.heading) is in
    ap is_upright heading ∙ turn_upright _ _ _ here.heading (λ e. other (heading ∙ e))

-- and so it has another heading
pub upright_apart : (c d : Dir) → is_upright c ≡ not (is_upright d) → c ≢ d
upright_apart c d turned same = not_self (is_upright d) (sym (ap is_upright same) ∙ turned)
  where
    not_self : (t : Bool) → t ≡ not t → ⊥
    not_self true e = absurd (false≢true (sym e))
    not_self false e = absurd (false≢true e)

pub upright_south : (d : Dir) → is_upright d ≡ true → d ≢ North → d ≡ South
upright_south North up other = absurd (other refl)
upright_south East up other = absurd (false≢true up)
upright_south South up other = refl
upright_south West up other = absurd (false≢true up)

pub level_west : (d : Dir) → is_upright d ≡ false → d ≢ East → d ≡ West
level_west North level other = absurd (false≢true (sym level))
level_west East level other = absurd (other refl)
level_west South level other = absurd (false≢true (sym level))
level_west West level other = refl

-- ---- the walk

-- The edge that leads straight to the first edge would have a black pixel on its left, above the first black one.
turns_to_first : (b : Image) (policy : Policy) (sign : Sign) (x y : ℕ) (e : Edge) → IsFirstBlack b x y → IsBoundary b e → (next b policy sign e).heading ≡ e.heading → next b policy sign e ≢ first_edge x y
turns_to_first b policy sign x y e first boundary same is =
    let south : e.heading ≡ South = sym same ∙ ap (λ d. d.heading) is in
    let row : end_y e.y e.heading ≡ suc y = ap (λ d. d.y) is in
    higher e.x e.y
    (subst (λ d. left_pixel (south_west b) e.x e.y d ≡ true) south boundary.black_left)
    (subst (λ d. end_y e.y d ≡ suc y) south row)
  where
    higher : (u v : ℕ) → south_west b (suc u) v ≡ true → pred v ≡ suc y → ⊥
    higher u zero black row = absurd (omega (arith, row))
    higher u (suc v) black row = absurd (false≢true (sym (first.above u v (omega (arith, row))) ∙ black))

-- what is noted down of a walk that comes to `after` by its last edge
record IsNotedTo (f : Edge → Edge) (s after : Edge) (points : List Point) (up down : ℕ) : Type 0 where
  pub last : Edge
  pub passed : List Point
  pub up_before : ℕ
  pub down_before : ℕ
  pub noted : IsNoted f s passed up_before down_before last
  pub leads : after ≡ f last
  pub points_is : points ≡ passed ++ start_of last ∷ []
  pub up_is : up ≡ up_before + column_up last
  pub down_is : down ≡ down_before + column_down last

-- no edge of a run but its first one is the first edge of the walk
noted_along : (b : Image) (policy : Policy) (sign : Sign) (x y : ℕ) (d : Dir) (from after : Edge) (es : List Edge) (points : List Point) (up down : ℕ)
    → IsFirstBlack b x y → ((e : Edge) → IsBoundary b e → e.x ≤ LONGEST_SIDE) → IsNoted (next b policy sign) (first_edge x y) points up down from → IsBoundary b from
    → IsTrail (next b policy sign) from es after → All (λ e. e.heading ≡ d) es → 1 ≤ length es
    → IsNotedTo (next b policy sign) (first_edge x y) after (points ++ map start_of es) (up + sum_by column_up es) (down + sum_by column_down es)
noted_along b policy sign x y d from after [] points up down first narrow noted boundary run straight some = absurd (omega (arith, some))
noted_along b policy sign x y d from after (e ∷ []) points up down first narrow noted boundary run straight some =
    record {
      last = from;
      passed = points;
      up_before = up;
      down_before = down;
      noted = noted;
      leads = sym run.1 ∙ ap (next b policy sign) run.0;
      points_is = ap (λ h. points ++ start_of h ∷ []) run.0;
      up_is = ap (λ n. up + n) (sum_by-cons column_up e [] ∙ last_sum (column_up e) ∙ ap column_up run.0);
      down_is = ap (λ n. down + n) (sum_by-cons column_down e [] ∙ last_sum (column_down e) ∙ ap column_down run.0);
    }
  where
    last_sum : (n : ℕ) → n + 0 ≡ n
    last_sum n = omega arith
noted_along b policy sign x y d from after (e ∷ h ∷ hs) points up down first narrow noted boundary run straight some =
    let f : Edge → Edge = next b policy sign in
    let on : IsTrail f (f from) (h ∷ hs) after = subst (λ k. IsTrail f (f k) (h ∷ hs) after) run.0 run.1 in
    let rest : All (λ k. k.heading ≡ d) (h ∷ hs) = All-tail (λ k. k.heading ≡ d) e (h ∷ hs) straight in
    let here : from.heading ≡ d = ap (λ k. k.heading) (sym run.0) ∙ All-head (λ k. k.heading ≡ d) e (h ∷ hs) straight in
    let same : (f from).heading ≡ from.heading = ap (λ k. k.heading) (sym on.0) ∙ All-head (λ k. k.heading ≡ d) h hs rest ∙ sym here in
    let other : f from ≢ first_edge x y = turns_to_first b policy sign x y from first boundary same in
    let one = noted_more f (first_edge x y) points (points ++ start_of from ∷ []) up down (up + column_up from) (down + column_down from) from (f from)
    noted (narrow from boundary) refl refl refl refl other in
    let all = noted_along b policy sign x y d (f from) after (h ∷ hs) (points ++ start_of from ∷ []) (up + column_up from) (down + column_down from)
    first narrow one (next_boundary b policy sign from boundary) on rest (omega arith) in
    record {
      last = all.last;
      passed = all.passed;
      up_before = all.up_before;
      down_before = all.down_before;
      noted = all.noted;
      leads = all.leads;
      points_is =
          ap (λ k. points ++ start_of k ∷ map start_of (h ∷ hs)) run.0
          ∙ sym (append_assoc points (start_of from ∷ []) (map start_of (h ∷ hs)))
          ∙ all.points_is;
      up_is = sum_first column_up up all.up_is;
      down_is = sum_first column_down down all.down_is;
    }
  where
    sum_first : (g : Edge → ℕ) (n : ℕ) {m : ℕ} → n + g from + sum_by g (h ∷ hs) ≡ m → n + sum_by g (e ∷ h ∷ hs) ≡ m
    sum_first g n sum =
        let parts : sum_by g (e ∷ h ∷ hs) ≡ g e + sum_by g (h ∷ hs) = sum_by-cons g e (h ∷ hs) in
        let same : g e ≡ g from = ap g run.0 in
        omega (arith, parts, same, sum)

-- a run that turns has an edge
run_some : (f : Edge → Edge) (from after : Edge) (old new : Trail) → (run : IsStraightRun f from after old new) → after.heading ≢ from.heading → 1 ≤ length run.edges
run_some f from after old new run turns = some run.edges run.trail
  where
    some : (es : List Edge) → IsTrail f from es after → 1 ≤ length es
    some [] e = absurd (turns (ap (λ k. k.heading) (sym e)))
    some (e ∷ es) _ = omega arith

-- the edge that a walk has come to
pub noted_boundary : (b : Image) (policy : Policy) (sign : Sign) (x y : ℕ) (points : List Point) (up down : ℕ) (here : Edge) → IsFirstBlack b x y
    → IsNoted (next b policy sign) (first_edge x y) points up down here → IsBoundary b here
noted_boundary b policy sign x y points up down here first noted =
    subst (IsBoundary b) (sym noted.part.at) (nth_after-keeps (next b policy sign) (IsBoundary b) (next_boundary b policy sign) (first_edge x y) (first_boundary b x y first) (length points))

narrow : (b : Image) (width height : ℕ) → Fits b width height → width ≤ LONGEST_SIDE → (e : Edge) → IsBoundary b e → e.x ≤ LONGEST_SIDE
narrow b width height fits w e boundary = let on = edge_on b width height fits e boundary in omega (arith, on.column, w)

-- what is noted down after a run
noted_run : (b : Image) (policy : Policy) (sign : Sign) (x y width height : ℕ) (from after : Edge) (old new : Trail)
    → IsFirstBlack b x y → Fits b width height → width ≤ LONGEST_SIDE → IsNoted (next b policy sign) (first_edge x y) old.points.items old.up old.down from
    → IsStraightRun (next b policy sign) from after old new → after.heading ≢ from.heading
    → IsNotedTo (next b policy sign) (first_edge x y) after new.points.items new.up new.down
noted_run b policy sign x y width height from after old new first fits w noted run turns =
    rw (run.noted.points, run.noted.up, run.noted.down)
    (noted_along b policy sign x y from.heading from after run.edges old.points.items old.up old.down first (narrow b width height fits w) noted
    (noted_boundary b policy sign x y old.points.items old.up old.down from first noted) run.trail run.straight
    (run_some (next b policy sign) from after old new run turns))

-- a run that leads to another edge than the first one
pub noted_on : (b : Image) (policy : Policy) (sign : Sign) (x y width height : ℕ) (from after : Edge) (old new : Trail)
    → IsFirstBlack b x y → Fits b width height → width ≤ LONGEST_SIDE → IsNoted (next b policy sign) (first_edge x y) old.points.items old.up old.down from
    → IsStraightRun (next b policy sign) from after old new → after.heading ≢ from.heading → after ≢ first_edge x y
    → IsNoted (next b policy sign) (first_edge x y) new.points.items new.up new.down after
noted_on b policy sign x y width height from after old new first fits w noted run turns other =
    let to = noted_run b policy sign x y width height from after old new first fits w noted run turns in
    let boundary : IsBoundary b to.last = noted_boundary b policy sign x y to.passed to.up_before to.down_before to.last first to.noted in
    noted_more (next b policy sign) (first_edge x y) to.passed new.points.items to.up_before to.down_before new.up new.down to.last after
    to.noted (narrow b width height fits w to.last boundary) to.points_is to.up_is to.down_is to.leads (λ e. other (to.leads ∙ e))

-- a run up or down leads on to an edge along a row, which the first edge isn't
pub noted_upright : (b : Image) (policy : Policy) (sign : Sign) (x y width height : ℕ) (from after : Edge) (old new : Trail)
    → IsFirstBlack b x y → Fits b width height → width ≤ LONGEST_SIDE → IsNoted (next b policy sign) (first_edge x y) old.points.items old.up old.down from
    → IsStraightRun (next b policy sign) from after old new → is_upright from.heading ≡ true → is_upright after.heading ≡ false
    → IsNoted (next b policy sign) (first_edge x y) new.points.items new.up new.down after
noted_upright b policy sign x y width height from after old new first fits w noted run up level =
    noted_on b policy sign x y width height from after old new first fits w noted run
    (upright_apart after.heading from.heading (level ∙ sym (ap not up))) (λ e. false≢true (sym level ∙ ap (λ k. is_upright k.heading) e))

-- and one that leads to the first edge
pub noted_round : (b : Image) (policy : Policy) (sign : Sign) (x y width height : ℕ) (from after : Edge) (old new : Trail)
    → IsFirstBlack b x y → Fits b width height → width ≤ LONGEST_SIDE → IsNoted (next b policy sign) (first_edge x y) old.points.items old.up old.down from
    → IsStraightRun (next b policy sign) from after old new → after.heading ≢ from.heading → after ≡ first_edge x y
    → IsWholeWalk b policy sign x y width height new.points.items new.up new.down
noted_round b policy sign x y width height from after old new first fits w noted run turns closed =
    let to = noted_run b policy sign x y width height from after old new first fits w noted run turns in
    noted_closed b policy sign x y width height to.passed new.points.items to.up_before to.down_before new.up new.down to.last
    first fits to.noted to.points_is to.up_is to.down_is (sym to.leads ∙ closed)

-- each run notes more points down
pub length-run : (f : Edge → Edge) (from after : Edge) (old new : Trail) → IsStraightRun f from after old new → after.heading ≢ from.heading → length old.points.items < length new.points.items
length-run f from after old new run turns =
    omega (arith, run_some f from after old new run turns, ap length run.noted.points, length-append old.points.items (map start_of run.edges), length-map run.edges start_of)

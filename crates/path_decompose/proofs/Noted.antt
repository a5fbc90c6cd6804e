-- What has been noted down of a walk tells what its edges tell.
use Rattle.std.proofs.Common.{◌≡◌, ◌≢◌, ℕ, suc, ◌+◌, ◌*◌, ◌^◌, ◌<◌, ◌≤◌, List, [], ◌∷◌, ◌++◌, length, map, sum_by, refl, ap, sym, subst, ◌∙◌, arith}
use Rattle.std.proofs.Math.Path.{fun_ext}
use Rattle.std.proofs.lemmas.Nat.{mul-le}
use Rattle.std.proofs.lemmas.List.{length-append}
use Rattle.std.proofs.lemmas.List.Sums.{sum_by-append, sum_by-cons}
use Rattle.pt_core.specs.declared.point.Point.{Point}
use Rattle.pt_core.specs.declared.path.Sign.{Sign}
use Rattle.pt_core.specs.declared.policy.Policy.{Policy}
use Rattle.pt_core.specs.declared.limits.TheConstants.{LONGEST_SIDE}
use Rattle.bit_image.specs.Image.{Image, Fits}
use Rattle.bit_image.specs.FirstBlack.{IsFirstBlack}
use Rattle.turn_policies.specs.declared.heading.Dir.{Dir}
use Rattle.turn_policies.specs.declared.heading.Dir.TheVariants.{North, East, South, West}
use Rattle.turn_policies.specs.declared.edge.Edge.{Edge}
use Rattle.turn_policies.specs.Turn.{next}
use Rattle.boundary_edges.specs.Inside.{inside, black_count}
use Rattle.path_decompose.specs.Inner.Trail.{column_if_up, column_if_down, column_up, column_down}
use Rattle.path_decompose.specs.Walk.{first_edge, start_of, IsBoundaryWalk}
use Rattle.path_decompose.proofs.Area.{circuit_area}
use Rattle.path_decompose.proofs.EdgeLine.{inside_edges, inside-run}
use Rattle.path_decompose.proofs.Orbit.{nth_after, orbit, orbit_push}
use Rattle.path_decompose.proofs.Round.{IsCircuit, circuit_of}
use Rattle.path_decompose.proofs.Steps.{IsPartWalk, points_push, part_more, part_closed, part_round, part_short}

-- ---- step by step

-- After so many steps from s as there are points the walk is at an edge, and this is noted down of it.
pub record IsNoted (f : Edge → Edge) (s : Edge) (points : List Point) (up down : ℕ) (here : Edge) : Type 0 where
  pub part : IsPartWalk f s (length points) points here
  pub up_is : up ≡ sum_by column_up (orbit f (length points) s)
  pub down_is : down ≡ sum_by column_down (orbit f (length points) s)
  pub up_most : up ≤ length points * LONGEST_SIDE
  pub down_most : down ≤ length points * LONGEST_SIDE

-- nothing is noted down yet
pub none_noted : (f : Edge → Edge) (s : Edge) (points : List Point) (up down : ℕ) → points ≡ [] → up ≡ 0 → down ≡ 0 → IsNoted f s points up down s
none_noted f s points up down p u d =
    rw (p, u, d)
    (record {
      part = record { passed = refl; at = refl; no_return = λ k below. absurd (omega arith) };
      up_is = refl;
      down_is = refl;
      up_most = omega arith;
      down_most = omega arith;
    })

pub column_up-le : (x : ℕ) (d : Dir) → column_if_up x d ≤ x
column_up-le x North = omega arith
column_up-le x East = omega arith
column_up-le x South = omega arith
column_up-le x West = omega arith

pub column_down-le : (x : ℕ) (d : Dir) → column_if_down x d ≤ x
column_down-le x North = omega arith
column_down-le x East = omega arith
column_down-le x South = omega arith
column_down-le x West = omega arith

pub length-push : (points : List Point) (p : Point) → length (points ++ p ∷ []) ≡ suc (length points)
length-push points p = omega (arith, length-append points (p ∷ []))

sum_push : (g : Edge → ℕ) (f : Edge → Edge) (s : Edge) (n : ℕ) (sum : ℕ) (here : Edge) → sum ≡ sum_by g (orbit f n s) → here ≡ nth_after f n s → sum + g here ≡ sum_by g (orbit f (suc n) s)
sum_push g f s n sum here is at =
    let one : sum_by g (nth_after f n s ∷ []) ≡ g (nth_after f n s) + 0 = sum_by-cons g (nth_after f n s) [] in
    let same : g here ≡ g (nth_after f n s) = ap g at in
    let more : sum_by g (orbit f (suc n) s) ≡ sum_by g (orbit f n s ++ nth_after f n s ∷ []) = ap (sum_by g) (orbit_push f n s) in
    omega (arith, one, same, more, sum_by-append g (orbit f n s) (nth_after f n s ∷ []))

-- one more edge
pub noted_more : (f : Edge → Edge) (s : Edge) (points new_points : List Point) (up down new_up new_down : ℕ) (here after : Edge) → IsNoted f s points up down here → here.x ≤ LONGEST_SIDE
    → new_points ≡ points ++ start_of here ∷ [] → new_up ≡ up + column_up here → new_down ≡ down + column_down here → after ≡ f here → f here ≢ s
    → IsNoted f s new_points new_up new_down after
noted_more f s points new_points up down new_up new_down here after noted narrow ps u d next other =
    let n : ℕ = length points in
    let size : length new_points ≡ suc n = ap length ps ∙ length-push points (start_of here) in
    let at = noted.part.at in
    record {
      part =
          subst (λ m. IsPartWalk f s m new_points after) (sym size)
          (subst (λ qs. IsPartWalk f s (suc n) qs after) (sym ps)
          (subst (IsPartWalk f s (suc n) (points ++ start_of here ∷ [])) (sym next) (part_more f s n points here noted.part other)));
      up_is = u ∙ sum_push column_up f s n up here noted.up_is at ∙ ap (λ m. sum_by column_up (orbit f m s)) (sym size);
      down_is = d ∙ sum_push column_down f s n down here noted.down_is at ∙ ap (λ m. sum_by column_down (orbit f m s)) (sym size);
      up_most = omega (arith, size, u, noted.up_most, column_up-le here.x here.heading);
      down_most = omega (arith, size, d, noted.down_most, column_down-le here.x here.heading);
    }

-- ---- once round

-- what is noted down of a whole walk
pub record IsWholeWalk (b : Image) (policy : Policy) (sign : Sign) (x y width height : ℕ) (points : List Point) (up down : ℕ) : Type 0 where
  pub walk : IsBoundaryWalk b policy sign x y points
  pub area : black_count (inside points) width height + down ≡ up

whole_of : (b : Image) (policy : Policy) (sign : Sign) (x y width height : ℕ) (es : List Edge) (points : List Point) → IsFirstBlack b x y → Fits b width height → IsCircuit b policy sign (first_edge x y) es
    → IsBoundaryWalk b policy sign x y points → points ≡ map start_of es → IsWholeWalk b policy sign x y width height points (sum_by column_up es) (sum_by column_down es)
whole_of b policy sign x y width height es points first fits c walk starts =
    let crossed : (u v : ℕ) → inside_edges es u v ≡ inside points u v =
    λ u v. sym (ap (λ ps. inside ps u v) starts ∙ inside-run b policy sign (first_edge x y) es c.boundary c.closes u v) in
    record {
      walk = walk;
      area =
          ap (λ i. black_count i width height + sum_by column_down es) (sym (fun_ext (λ u. fun_ext (λ v. crossed u v))))
          ∙ circuit_area b policy sign x y es first c width height fits;
    }

-- the last edge, after which the first one comes again
pub noted_closed : (b : Image) (policy : Policy) (sign : Sign) (x y width height : ℕ) (points new_points : List Point) (up down new_up new_down : ℕ) (here : Edge)
    → IsFirstBlack b x y → Fits b width height → IsNoted (next b policy sign) (first_edge x y) points up down here
    → new_points ≡ points ++ start_of here ∷ [] → new_up ≡ up + column_up here → new_down ≡ down + column_down here → next b policy sign here ≡ first_edge x y
    → IsWholeWalk b policy sign x y width height new_points new_up new_down
noted_closed b policy sign x y width height points new_points up down new_up new_down here first fits noted ps u d closed =
    let f : Edge → Edge = next b policy sign in
    let s : Edge = first_edge x y in
    let n : ℕ = length points in
    let es : List Edge = orbit f (suc n) s in
    let at = noted.part.at in
    let walk : IsBoundaryWalk b policy sign x y new_points = subst (IsBoundaryWalk b policy sign x y) (sym ps) (part_closed b policy sign x y n points here first noted.part closed) in
    let starts : new_points ≡ map start_of es = ps ∙ points_push f s n points here noted.part.passed at in
    let c : IsCircuit b policy sign s es = circuit_of b policy sign x y es first (part_round b policy sign x y n first noted.part.no_return (sym (ap f at) ∙ closed)) in
    rw (u ∙ sum_push column_up f s n up here noted.up_is at, d ∙ sum_push column_down f s n down here noted.down_is at)
    (whole_of b policy sign x y width height es new_points first fits c walk starts)

-- the sums stay small, as a page has only so many edges
pub noted_small : (b : Image) (policy : Policy) (sign : Sign) (x y width height : ℕ) (points : List Point) (up down : ℕ) (here : Edge)
    → IsFirstBlack b x y → Fits b width height → width ≤ LONGEST_SIDE → height ≤ LONGEST_SIDE → IsNoted (next b policy sign) (first_edge x y) points up down here
    → (length points < suc width * suc height * 2) × (up < 2 ^ 62) × (down < 2 ^ 62)
noted_small b policy sign x y width height points up down here first fits w h noted =
    let short : length points < suc width * suc height * 2 = part_short b policy sign x y (length points) points here width height first fits noted.part in
    let sides : suc width * suc height ≤ suc LONGEST_SIDE * suc LONGEST_SIDE = mul-le (suc width) (suc height) (suc LONGEST_SIDE) (suc LONGEST_SIDE) (omega arith) (omega arith) in
    (short, omega (arith, noted.up_most), omega (arith, noted.down_most))

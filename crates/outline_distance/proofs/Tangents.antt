-- The line through a curve's middle along the way between the vertex's neighbours passes near the vertex.
use Rattle.std.proofs.Common.{◌≡◌, ℕ, ◌+◌, ◌-◌, ◌*◌, ◌/◌, ◌<◌, ◌≤◌, max, min, ℤ, pos, negsuc, neg_ℤ, ◌+ℤ◌, ◌-ℤ◌, ◌*ℤ◌, ◌≤ℤ◌, Bool, true, false, inl, inr, refl, sym, ap, subst, ◌∙◌, arith}
use Rattle.std.proofs.lemmas.Int.{ints}
use Rattle.std.proofs.lemmas.Bool.{cases_eq, cases_lt, eq-eqb, false≢true, leb-false, lt-leb, ne_eqb}
use Rattle.std.proofs.lemmas.Nat.{mul-le}
use Rattle.std.proofs.Math.Nat.{lt-mul-div-succ}
use Rattle.std.specs.Prelude.{unsigned_abs, if◌then◌else◌}
use Rattle.pt_core.specs.Floor.{floor_of}
use Rattle.pt_core.specs.Outlines.{end_of}
use Rattle.pt_core.specs.declared.piece.Piece.{Piece}
use Rattle.pt_core.specs.declared.piece.Piece.TheVariants.{Corner, Curve}
use Rattle.pt_core.specs.declared.point.Point.{Point}
use Rattle.pt_core.proofs.Sizes.{product_most}
use Rattle.pt_core.proofs.Terms.{same_value}
use Rattle.pt_core.proofs.Terms.Term.{num, plus, less, times, opposite}
use Rattle.corner_smooth.specs.Corner.{al_of, area_of, control_of, curve_of, grid_distance_of, is_corner, middle_of, part_of, piece_of, sharpness_by, sharpness_of, signed_area_of}
use Rattle.curve_join.specs.Outline.{first_of, second_of, is_curve}
use Rattle.outline_distance.specs.Distance.{LinePassesBy, eightfold_middle, multiple}

-- ---- how round a curve is, by its triangle's area and the distance of the vertex's neighbours

blunt_enough : (area distance al : ℕ) → area ≤ 1024 * distance → (262144 - 3 * al) * area ≤ 268500992 * distance
blunt_enough area distance al h =
    omega (arith, mul-le (262144 - 3 * al) area 262144 (1024 * distance) (omega arith) h)

-- by the products alone
by_products : (area al product : ℕ) (distance : ℕ) → al ≤ 65536 → product ≡ al * area → area < 4096 * distance
    → 262144 * area < 268435456 * distance + (3 * product + 3 * area) → 262144 * area - 3 * product ≤ 268500992 * distance
by_products area al product distance h e k l = omega arith

rest_times : (area al : ℕ) → al ≤ 65536 → (262144 - 3 * al) * area ≡ 262144 * area - 3 * (al * area)
rest_times area al h =
    let rest : (262144 - 3 * al) + 3 * al ≡ 262144 = omega arith in
    let whole = ap (λ n. n * area) rest in
    omega (arith, whole)

sharp_enough : (area distance al : ℕ) → al ≤ 65536 → 1024 * distance < area
    → 4 * (area - 1024 * distance) < 3 * area
    → 65536 * (4 * (area - 1024 * distance)) < (3 * area) * (al + 1)
    → (262144 - 3 * al) * area ≤ 268500992 * distance
sharp_enough area distance al most h k l =
    let P : ℕ → Type 0 = λ n. n ≤ 268500992 * distance in
    subst P (sym (rest_times area al most))
    (by_products area al (al * area) distance most refl (omega arith) (omega arith))

-- ---- what isn't a corner

not_as_sharp : (alphamax area distance : ℕ) → alphamax ≤ 1000000 → is_corner alphamax (sharpness_by area distance) ≡ false
    → (sharpness_by area distance).numerator < (sharpness_by area distance).denominator
not_as_sharp alphamax area distance h e =
    let top : ℕ = (sharpness_by area distance).numerator in
    let bottom : ℕ = (sharpness_by area distance).denominator in
    let fewer = leb-false (alphamax * bottom) (1000000 * top) e in
    let most = mul-le alphamax bottom 1000000 bottom h (omega arith) in
    omega (arith, fewer, most)

-- a curve's neighbours are apart, and it is so round
pub record IsRound (area distance al : ℕ) : Type 0 where
  pub apart : 1 ≤ distance
  pub most : al ≤ 65536
  pub enough : (262144 - 3 * al) * area ≤ 268500992 * distance

part_fits : (n d q al : ℕ) → n < d → 65536 * n < d * (q + 1) → al ≡ max 36045 (min 65536 q) → 65536 * n < d * (al + 1)
part_fits n d q al h k is = elim (cases_lt q 65536) [
  | inl below ↦
      let more = mul-le d (q + 1) d (al + 1) (omega arith) (omega arith) in
      omega arith
  | inr whole ↦
      let least : 65536 ≤ al = omega arith in
      let more = mul-le d 65537 d (al + 1) (omega arith) (omega arith) in
      omega arith
]

rounded_most : (q al : ℕ) → al ≡ max 36045 (min 65536 q) → al ≤ 65536
rounded_most q al is = omega arith

-- ---- by the three cases of a sharpness

abbrev IsSharpnessOf : ℕ → ℕ → ℕ → ℕ → Type 0
IsSharpnessOf area distance top bottom = ((sharpness_by area distance).numerator ≡ top) × ((sharpness_by area distance).denominator ≡ bottom)

sharp_zero : (area distance : ℕ) → distance ≡ 0 → IsSharpnessOf area distance 4 3
sharp_zero area distance e = (let test = eq-eqb distance 0 e in rw test (refl, refl))

sharp_some : (area distance : ℕ) → (distance ≡ 0 → ⊥) → 1024 * distance < area → IsSharpnessOf area distance (4 * (area - 1024 * distance)) (3 * area)
sharp_some area distance n h =
    let first = ne_eqb distance 0 n in
    let second = lt-leb area (1024 * distance) h in
    rw (first, second) (refl, refl)

by_share : (area distance top bottom al : ℕ) → al ≡ max 36045 (min 65536 (65536 * top / bottom)) → top < bottom
    → top ≡ 4 * (area - 1024 * distance) → bottom ≡ 3 * area → 1024 * distance < area
    → (262144 - 3 * al) * area ≤ 268500992 * distance
by_share area distance top bottom al is fewer e f sharp =
    let over = lt-mul-div-succ (65536 * top) {b = bottom} (omega arith) in
    let share = part_fits top bottom (65536 * top / bottom) al fewer over is in
    let P : ℕ → ℕ → Type 0 = λ m n. 65536 * m < n * (al + 1) in
    let Q : ℕ → ℕ → Type 0 = λ m n. m < n in
    sharp_enough area distance al (rounded_most (65536 * top / bottom) al is) sharp
    (subst (λ (n : ℕ). Q (4 * (area - 1024 * distance)) n) f (subst (λ (m : ℕ). Q m bottom) e fewer))
    (subst (λ (n : ℕ). P (4 * (area - 1024 * distance)) n) f (subst (λ (m : ℕ). P m bottom) e share))

pub is_round : (area distance : ℕ) → (sharpness_by area distance).numerator < (sharpness_by area distance).denominator
    → IsRound area distance (al_of (sharpness_by area distance))
is_round area distance fewer = elim (cases_eq distance 0) [
  | inl none ↦
      let is = sharp_zero area distance none in
      let four = is.0 in
      let three = is.1 in
      absurd (omega (arith, fewer, four, three))
  | inr some ↦ elim (cases_lt (1024 * distance) area) [
    | inr blunt ↦ record {
      apart = omega arith;
      most = rounded_most _ (al_of (sharpness_by area distance)) refl;
      enough = blunt_enough area distance (al_of (sharpness_by area distance)) blunt;
    }
    | inl sharp ↦
        let is = sharp_some area distance some sharp in
        record {
          apart = omega arith;
          most = rounded_most _ (al_of (sharpness_by area distance)) refl;
          enough = by_share area distance (sharpness_by area distance).numerator (sharpness_by area distance).denominator
              (al_of (sharpness_by area distance)) refl fewer is.0 is.1 sharp;
        }
  ]
]

-- ---- what a curve's controls are

chosen : (corner : Bool) (at joint : Point) (curve : Piece) (first second end : Point) (al : ℕ)
    → (if corner then Corner at joint else curve) ≡ Curve first second end al → (corner ≡ false) × (curve ≡ Curve first second end al)
chosen true at joint curve first second end al e = (let not : false ≡ true = ap is_curve e in absurd (false≢true not))
chosen false at joint curve first second end al e = (refl, e)

pub is_that_curve : (alphamax al : ℕ) (before at after first second end : Point)
    → piece_of alphamax before at after ≡ Curve first second end al
    → (is_corner alphamax (sharpness_of before at after) ≡ false)
    × (curve_of (al_of (sharpness_of before at after)) before at after ≡ Curve first second end al)
unfolding piece_of
is_that_curve alphamax al before at after first second end e =
    chosen (is_corner alphamax (sharpness_of before at after)) at (middle_of at after)
    (curve_of (al_of (sharpness_of before at after)) before at after) first second end al e

-- ---- eight times the way from the curve's middle to the vertex, in one coordinate

floor_near : (z : ℤ) → (pos 0 ≤ℤ (z -ℤ pos 131072 *ℤ floor_of z 131072)) × ((z -ℤ pos 131072 *ℤ floor_of z 131072) ≤ℤ pos 131072)
floor_near (pos a) = (omega (arith, ints), omega (arith, ints))
floor_near (negsuc a) = (omega (arith, ints), omega (arith, ints))

half_near : (z : ℤ) → (pos 0 ≤ℤ (z -ℤ pos 2 *ℤ floor_of z 2)) × ((z -ℤ pos 2 *ℤ floor_of z 2) ≤ℤ pos 1)
half_near (pos a) = (omega (arith, ints), omega (arith, ints))
half_near (negsuc a) = (omega (arith, ints), omega (arith, ints))

-- a way times three of a control's parts
thrice : (g r d : ℤ) → pos 3 *ℤ g ≡ pos 458752 -ℤ r → pos 3 *ℤ (g *ℤ d) ≡ pos 458752 *ℤ d -ℤ r *ℤ d
thrice g r d e =
    same_value (times (num (pos 3)) (times (num g) (num d))) (times (times (num (pos 3)) (num g)) (num d)) (omega arith)
    ∙ ap (λ n. n *ℤ d) e
    ∙ same_value (times (less (num (pos 458752)) (num r)) (num d)) (less (times (num (pos 458752)) (num d)) (times (num r) (num d))) (omega arith)

doubled : (r a b c : ℤ) → r *ℤ ((pos 2 *ℤ a -ℤ b) -ℤ c) ≡ r *ℤ (a -ℤ b) +ℤ r *ℤ (a -ℤ c)
doubled r a b c = same_value
    (times (num r) (less (less (times (num (pos 2)) (num a)) (num b)) (num c)))
    (plus (times (num r) (less (num a) (num b))) (times (num r) (less (num a) (num c))))
    (omega arith)

-- by the products alone: f and h are the ways to the controls, j and k the joints
collected : (a b c f h j k gf gh rf rh : ℤ)
    → (pos 0 ≤ℤ (gf -ℤ pos 131072 *ℤ f)) × ((gf -ℤ pos 131072 *ℤ f) ≤ℤ pos 131072)
    → (pos 0 ≤ℤ (gh -ℤ pos 131072 *ℤ h)) × ((gh -ℤ pos 131072 *ℤ h) ≤ℤ pos 131072)
    → (pos 0 ≤ℤ ((b +ℤ a) -ℤ pos 2 *ℤ j)) × (((b +ℤ a) -ℤ pos 2 *ℤ j) ≤ℤ pos 1)
    → (pos 0 ≤ℤ ((a +ℤ c) -ℤ pos 2 *ℤ k)) × (((a +ℤ c) -ℤ pos 2 *ℤ k) ≤ℤ pos 1)
    → pos 3 *ℤ gf ≡ pos 458752 *ℤ (a -ℤ b) -ℤ rf → pos 3 *ℤ gh ≡ pos 458752 *ℤ (a -ℤ c) -ℤ rh
    → unsigned_abs (pos 131072 *ℤ (pos 8 *ℤ a -ℤ (((j +ℤ pos 3 *ℤ (b +ℤ f)) +ℤ pos 3 *ℤ (c +ℤ h)) +ℤ k)) -ℤ (rf +ℤ rh)) ≤ 917504
collected a b c f h j k gf gh rf rh p q s t u v =
    let p0 = p.0 in let p1 = p.1 in let q0 = q.0 in let q1 = q.1 in
    let s0 = s.0 in let s1 = s.1 in let t0 = t.0 in let t1 = t.1 in
    omega (arith, ints)

round_parts : (al : ℕ) → al ≤ 65536 → pos 3 *ℤ pos (65536 + al) ≡ pos 458752 -ℤ pos (262144 - 3 * al)
round_parts al h = omega (arith, ints)

-- the middle of the coordinates of a curve, eight times, from those of its vertex and the neighbours
abbrev middle_by : ℕ → ℤ → ℤ → ℤ → ℤ
middle_by al before at after =
    ((floor_of (before +ℤ at) 2 +ℤ pos 3 *ℤ part_of al before at) +ℤ pos 3 *ℤ part_of al after at) +ℤ floor_of (at +ℤ after) 2

below_vertex : (al : ℕ) (b a c : ℤ) → al ≤ 65536
    → unsigned_abs (pos 131072 *ℤ (pos 8 *ℤ a -ℤ middle_by al b a c) -ℤ pos (262144 - 3 * al) *ℤ ((pos 2 *ℤ a -ℤ b) -ℤ c)) ≤ 917504
below_vertex al b a c h =
    let g : ℤ = pos (65536 + al) in
    let r : ℤ = pos (262144 - 3 * al) in
    let P : ℤ → Type 0 = λ z. unsigned_abs (pos 131072 *ℤ (pos 8 *ℤ a -ℤ middle_by al b a c) -ℤ z) ≤ 917504 in
    subst P (sym (doubled r a b c))
    (collected a b c (floor_of (g *ℤ (a -ℤ b)) 131072) (floor_of (g *ℤ (a -ℤ c)) 131072) (floor_of (b +ℤ a) 2) (floor_of (a +ℤ c) 2)
    (g *ℤ (a -ℤ b)) (g *ℤ (a -ℤ c)) (r *ℤ (a -ℤ b)) (r *ℤ (a -ℤ c))
    (floor_near (g *ℤ (a -ℤ b))) (floor_near (g *ℤ (a -ℤ c))) (half_near (b +ℤ a)) (half_near (a +ℤ c))
    (thrice g r (a -ℤ b) (round_parts al h)) (thrice g r (a -ℤ c) (round_parts al h)))

-- ---- across the way between the neighbours

-- u and v are the ways in both coordinates, p and q that way
crossing : (p q u v r du dv : ℤ) → pos 131072 *ℤ (p *ℤ v -ℤ q *ℤ u)
    ≡ r *ℤ (p *ℤ dv -ℤ q *ℤ du) +ℤ (p *ℤ (pos 131072 *ℤ v -ℤ r *ℤ dv) -ℤ q *ℤ (pos 131072 *ℤ u -ℤ r *ℤ du))
crossing p q u v r du dv = same_value
    (times (num (pos 131072)) (less (times (num p) (num v)) (times (num q) (num u))))
    (plus (times (num r) (less (times (num p) (num dv)) (times (num q) (num du))))
    (less (times (num p) (less (times (num (pos 131072)) (num v)) (times (num r) (num dv))))
    (times (num q) (less (times (num (pos 131072)) (num u)) (times (num r) (num du))))))
    (omega arith)

-- twice the triangle's area
twice_area : (bx by ax ay cx cy : ℤ)
    → (cx -ℤ bx) *ℤ ((pos 2 *ℤ ay -ℤ by) -ℤ cy) -ℤ (cy -ℤ by) *ℤ ((pos 2 *ℤ ax -ℤ bx) -ℤ cx)
    ≡ neg_ℤ (pos 2 *ℤ ((ax -ℤ bx) *ℤ (cy -ℤ by) -ℤ (ay -ℤ by) *ℤ (cx -ℤ bx)))
twice_area bx by ax ay cx cy = same_value
    (less (times (less (num cx) (num bx)) (less (less (times (num (pos 2)) (num ay)) (num by)) (num cy)))
    (times (less (num cy) (num by)) (less (less (times (num (pos 2)) (num ax)) (num bx)) (num cx))))
    (opposite (times (num (pos 2)) (less (times (less (num ax) (num bx)) (less (num cy) (num by))) (times (less (num ay) (num by)) (less (num cx) (num bx))))))
    (omega arith)

size_most : (z m : ℤ) (s t : ℤ) (n k l : ℕ) → pos 131072 *ℤ z ≡ m +ℤ (s -ℤ t) → unsigned_abs m ≤ 2 * n → unsigned_abs s ≤ k * 917504 → unsigned_abs t ≤ l * 917504
    → n ≤ 268500992 * (k + l) → unsigned_abs z ≤ 4104 * (k + l)
size_most z m s t n k l e f g h i = omega (arith, ints)

middle_size : (rest : ℕ) (z area : ℤ) → z ≡ neg_ℤ (pos 2 *ℤ area) → unsigned_abs (pos rest *ℤ z) ≤ 2 * (rest * unsigned_abs area)
middle_size rest z area e =
    let twice : unsigned_abs z ≤ 2 * unsigned_abs area = omega (arith, ints) in
    omega (arith, product_most (pos rest) z rest (2 * unsigned_abs area) (omega arith) twice)

module _ (al : ℕ) (before at after : Point) (round : IsRound (area_of before at after) (grid_distance_of before after) al) where
  across_small : unsigned_abs ((after.x -ℤ before.x) *ℤ (pos 8 *ℤ at.y -ℤ middle_by al before.y at.y after.y) -ℤ (after.y -ℤ before.y) *ℤ (pos 8 *ℤ at.x -ℤ middle_by al before.x at.x after.x))
      ≤ 4104 * grid_distance_of before after
  across_small =
      let p : ℤ = after.x -ℤ before.x in
      let q : ℤ = after.y -ℤ before.y in
      let u : ℤ = pos 8 *ℤ at.x -ℤ middle_by al before.x at.x after.x in
      let v : ℤ = pos 8 *ℤ at.y -ℤ middle_by al before.y at.y after.y in
      let r : ℤ = pos (262144 - 3 * al) in
      let du : ℤ = (pos 2 *ℤ at.x -ℤ before.x) -ℤ after.x in
      let dv : ℤ = (pos 2 *ℤ at.y -ℤ before.y) -ℤ after.y in
      size_most (p *ℤ v -ℤ q *ℤ u) (r *ℤ (p *ℤ dv -ℤ q *ℤ du)) (p *ℤ (pos 131072 *ℤ v -ℤ r *ℤ dv)) (q *ℤ (pos 131072 *ℤ u -ℤ r *ℤ du))
      ((262144 - 3 * al) * area_of before at after) (unsigned_abs p) (unsigned_abs q)
      (crossing p q u v r du dv)
      (middle_size (262144 - 3 * al) (p *ℤ dv -ℤ q *ℤ du) (signed_area_of before at after)
      (twice_area before.x before.y at.x at.y after.x after.y))
      (product_most p (pos 131072 *ℤ v -ℤ r *ℤ dv) (unsigned_abs p) 917504 (omega arith) (below_vertex al before.y at.y after.y round.most))
      (product_most q (pos 131072 *ℤ u -ℤ r *ℤ du) (unsigned_abs q) 917504 (omega arith) (below_vertex al before.x at.x after.x round.most))
      round.enough

-- ---- where the line passes

-- a number times a sign is its size
pub record HasSign (d : ℤ) : Type 0 where
  pub sign : ℤ
  pub is : pos (unsigned_abs d) ≡ sign *ℤ d
  pub keeps : (w : ℤ) → unsigned_abs (sign *ℤ w) ≡ unsigned_abs w

sign_of : (d : ℤ) → HasSign d
sign_of (pos n) = record { sign = pos 1; is = omega (arith, ints); keeps = λ w. omega (arith, ints) }
sign_of (negsuc n) = record { sign = negsuc 0; is = omega (arith, ints); keeps = λ w. omega (arith, ints) }

along_first : (p q u v s t : ℤ) → (s *ℤ p +ℤ t *ℤ q) *ℤ u -ℤ (s *ℤ u +ℤ t *ℤ v) *ℤ p ≡ t *ℤ neg_ℤ (p *ℤ v -ℤ q *ℤ u)
along_first p q u v s t = same_value
    (less (times (plus (times (num s) (num p)) (times (num t) (num q))) (num u)) (times (plus (times (num s) (num u)) (times (num t) (num v))) (num p)))
    (times (num t) (opposite (less (times (num p) (num v)) (times (num q) (num u)))))
    (omega arith)

along_second : (p q u v s t : ℤ) → (s *ℤ p +ℤ t *ℤ q) *ℤ v -ℤ (s *ℤ u +ℤ t *ℤ v) *ℤ q ≡ s *ℤ (p *ℤ v -ℤ q *ℤ u)
along_second p q u v s t = same_value
    (less (times (plus (times (num s) (num p)) (times (num t) (num q))) (num v)) (times (plus (times (num s) (num u)) (times (num t) (num v))) (num q)))
    (times (num s) (less (times (num p) (num v)) (times (num q) (num u))))
    (omega arith)

both_sizes : (p q : ℤ) (a b : ℤ) → pos (unsigned_abs p) ≡ a → pos (unsigned_abs q) ≡ b → pos (unsigned_abs p + unsigned_abs q) ≡ a +ℤ b
both_sizes p q a b e f = omega (arith, ints)

same_size : (z : ℤ) → unsigned_abs (neg_ℤ z) ≡ unsigned_abs z
same_size z = omega (arith, ints)

line_passes : (a b c d : Point) (most : ℕ) → 1 ≤ grid_distance_of a b
    → unsigned_abs ((b.x -ℤ a.x) *ℤ (d.y -ℤ c.y) -ℤ (b.y -ℤ a.y) *ℤ (d.x -ℤ c.x)) ≤ most * grid_distance_of a b
    → LinePassesBy most a b c d
line_passes a b c d most some small =
    let p : ℤ = b.x -ℤ a.x in
    let q : ℤ = b.y -ℤ a.y in
    let u : ℤ = d.x -ℤ c.x in
    let v : ℤ = d.y -ℤ c.y in
    let first = sign_of p in
    let second = sign_of q in
    let s : ℤ = first.sign in
    let t : ℤ = second.sign in
    let whole = both_sizes p q (s *ℤ p) (t *ℤ q) first.is second.is in
    let x = ap unsigned_abs (ap (λ n. n *ℤ u -ℤ (s *ℤ u +ℤ t *ℤ v) *ℤ p) whole ∙ along_first p q u v s t)
    ∙ second.keeps (neg_ℤ (p *ℤ v -ℤ q *ℤ u)) ∙ same_size (p *ℤ v -ℤ q *ℤ u) in
    let y = ap unsigned_abs (ap (λ n. n *ℤ v -ℤ (s *ℤ u +ℤ t *ℤ v) *ℤ q) whole ∙ along_second p q u v s t)
    ∙ first.keeps (p *ℤ v -ℤ q *ℤ u) in
    let P : ℕ → Type 0 = λ n. n ≤ grid_distance_of a b * most in
    let enough : unsigned_abs (p *ℤ v -ℤ q *ℤ u) ≤ grid_distance_of a b * most = omega arith in
    record {
      along = s *ℤ u +ℤ t *ℤ v;
      steps = grid_distance_of a b;
      some = some;
      in_x = subst P (sym x) enough;
      in_y = subst P (sym y) enough;
    }

pub curve_passes : (alphamax al : ℕ) (before at after first second end : Point) → alphamax ≤ 1000000
    → piece_of alphamax before at after ≡ Curve first second end al
    → LinePassesBy 4104 before after (eightfold_middle (middle_of before at) first second end) (multiple 8 at)
curve_passes alphamax al before at after first second end h e =
    let is = is_that_curve alphamax al before at after first second end e in
    let sharpness = sharpness_of before at after in
    let area = area_of before at after in
    let distance = grid_distance_of before after in
    let round = is_round area distance (not_as_sharp alphamax area distance h is.0) in
    let P : Piece → Type 0 = λ piece.
    LinePassesBy 4104 before after (eightfold_middle (middle_of before at) (first_of piece) (second_of piece) (end_of piece)) (multiple 8 at) in
    let roundness = al_of sharpness in
    subst P is.1
    (line_passes before after (eightfold_middle (middle_of before at) (control_of roundness before at) (control_of roundness after at) (middle_of at after)) (multiple 8 at) 4104
    round.apart (across_small roundness before at after round))

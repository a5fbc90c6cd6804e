-- The sums of a path's first points, as they are kept.
use Rattle.std.proofs.Common.{◌≡◌, ℕ, zero, suc, ◌+◌, ◌-◌, ◌*◌, ◌/◌, ◌%◌, ◌<◌, ◌≤◌, ◌^◌, ℤ, pos, negsuc, ◌+ℤ◌, ◌*ℤ◌, ◌≤ℤ◌, List, [], ◌∷◌, ◌++◌, length, get_or, refl, sym, ap, ◌∙◌, subst, add-one, arith}
use Rattle.std.proofs.Math.Nat.{mod-add-mod, add-mod-mod, add-mod_left, mod-eq_of_lt, mod-lt, le-div_iff_mul-le}
use Rattle.std.proofs.Math.ListN.{get_or-append}
use Rattle.std.proofs.Math.Seq.{get_or-append_seam}
use Rattle.std.proofs.Math.Decide.{dec_lt}
use Rattle.std.proofs.lemmas.Int.{ints, unsigned_abs-mul}
use Rattle.std.proofs.lemmas.List.{get_or_read}
use Rattle.std.proofs.lemmas.Nat.{le-div, pow_pos}
use Rattle.std.specs.Prelude.{unsigned_abs, slice_index_or}
use Rattle.pt_core.specs.declared.point.Point.{Point}
use Rattle.pt_core.specs.ClosedWalk.{point_at, origin}
use Rattle.pt_core.specs.declared.limits.TheConstants.{MOST_STEPS}
use Rattle.pt_core.specs.OnPage.{IsOnPage, AreOnPage}
use Rattle.prefix_moments.specs.declared.prefix.Prefix.{Prefix}
use Rattle.prefix_moments.specs.declared.raw.RawSums.{RawSums}
use Rattle.prefix_moments.specs.Sums.{sum_of}
use Rattle.prefix_moments.specs.Inner.Table.{raw_of, kept_of, prefix_of, both_of, less_of, no_prefix, IsTable}
use Rattle.prefix_moments.proofs.Summing.{split}
use Rattle.prefix_moments.proofs.Rows.{raw_same, raw_most}

abbrev prefix : ℕ → ℕ → ℕ → ℕ → ℕ → Prefix
prefix x y xx xy yy = record { x = x; y = y; xx = xx; xy = xy; yy = yy }

prefix_same : (p q : Prefix) → p.x ≡ q.x → p.y ≡ q.y → p.xx ≡ q.xx → p.xy ≡ q.xy → p.yy ≡ q.yy → p ≡ q
prefix_same p q x y xx xy yy =
    ap (λ v. prefix v p.y p.xx p.xy p.yy) x ∙ ap (λ v. prefix q.x v p.xx p.xy p.yy) y ∙ ap (λ v. prefix q.x q.y v p.xy p.yy) xx
    ∙ ap (λ v. prefix q.x q.y q.xx v p.yy) xy ∙ ap (λ v. prefix q.x q.y q.xx q.xy v) yy

-- no sum is below zero
record IsNatural (r : RawSums) : Type 0 where
  x : pos 0 ≤ℤ r.x
  y : pos 0 ≤ℤ r.y
  xx : pos 0 ≤ℤ r.xx
  xy : pos 0 ≤ℤ r.xy
  yy : pos 0 ≤ℤ r.yy

product_natural : (a b : ℤ) → pos 0 ≤ℤ a → pos 0 ≤ℤ b → pos 0 ≤ℤ (a *ℤ b)
product_natural (pos m) (pos n) h k = omega (arith, ints)
product_natural (pos m) (negsuc n) h k = omega (arith, ints)
product_natural (negsuc m) b h k = omega (arith, ints)

sum_natural : (f : ℕ → ℤ) (count : ℕ) → ((k : ℕ) → pos 0 ≤ℤ f k) → pos 0 ≤ℤ sum_of f count
sum_natural f zero h = omega (arith, ints)
sum_natural f (suc count) h = omega (arith, ints, sum_natural f count h, h count)

raw_natural : (at : ℕ → Point) (count : ℕ) → ((k : ℕ) → IsOnPage (at k)) → IsNatural (raw_of at count)
raw_natural at count on_page = record {
  x = sum_natural (λ k. (at k).x) count (λ k. (on_page k).left);
  y = sum_natural (λ k. (at k).y) count (λ k. (on_page k).bottom);
  xx = sum_natural (λ k. (at k).x *ℤ (at k).x) count (λ k. product_natural ((at k).x) ((at k).x) (on_page k).left (on_page k).left);
  xy = sum_natural (λ k. (at k).x *ℤ (at k).y) count (λ k. product_natural ((at k).x) ((at k).y) (on_page k).left (on_page k).bottom);
  yy = sum_natural (λ k. (at k).y *ℤ (at k).y) count (λ k. product_natural ((at k).y) ((at k).y) (on_page k).bottom (on_page k).bottom);
}

-- one number more
more_kept : (s z : ℤ) (m : ℕ) → pos 0 ≤ℤ s → pos 0 ≤ℤ z → (unsigned_abs s % m + unsigned_abs z) % m ≡ unsigned_abs (s +ℤ z) % m
more_kept s z m h k = mod-add-mod (unsigned_abs s) m (unsigned_abs z) ∙ ap (λ n. n % m) (omega (arith, ints))

-- two sums
both_kept : (s z : ℤ) (m : ℕ) → pos 0 ≤ℤ s → pos 0 ≤ℤ z → (unsigned_abs s % m + unsigned_abs z % m) % m ≡ unsigned_abs (s +ℤ z) % m
both_kept s z m h k = add-mod-mod (unsigned_abs s % m) (unsigned_abs z) m ∙ more_kept s z m h k

-- what one sum has more than another, where that fits
less_kept : (s d : ℤ) → pos 0 ≤ℤ s → pos 0 ≤ℤ d → unsigned_abs d < 2 ^ 32
    → (unsigned_abs (s +ℤ d) % 2 ^ 32 + (2 ^ 32 - unsigned_abs s % 2 ^ 32)) % 2 ^ 32 ≡ unsigned_abs d
less_kept s d h k fits = omega (arith, ints)

less_kept_long : (s d : ℤ) → pos 0 ≤ℤ s → pos 0 ≤ℤ d → unsigned_abs d < 2 ^ 64
    → (unsigned_abs (s +ℤ d) % 2 ^ 64 + (2 ^ 64 - unsigned_abs s % 2 ^ 64)) % 2 ^ 64 ≡ unsigned_abs d
less_kept_long s d h k fits = omega (arith, ints)

-- the sums with one more point
pub next_prefix : (at : ℕ → Point) (k : ℕ) (p r : Prefix) (q : Point) → ((i : ℕ) → IsOnPage (at i)) → p ≡ kept_of (raw_of at k) → q ≡ at k
    → r.x ≡ (p.x + unsigned_abs q.x) % 2 ^ 32 → r.y ≡ (p.y + unsigned_abs q.y) % 2 ^ 32
    → r.xx ≡ (p.xx + unsigned_abs q.x * unsigned_abs q.x) % 2 ^ 64 → r.xy ≡ (p.xy + unsigned_abs q.x * unsigned_abs q.y) % 2 ^ 64
    → r.yy ≡ (p.yy + unsigned_abs q.y * unsigned_abs q.y) % 2 ^ 64
    → r ≡ kept_of (raw_of at (k + 1))
next_prefix at k p r q on_page ep eq x y xx xy yy =
    let s : RawSums = raw_of at k in
    let z : Point = at k in
    let n = raw_natural at k on_page in
    let here = on_page k in
    let long : (t a b : ℤ) → pos 0 ≤ℤ t → pos 0 ≤ℤ a → pos 0 ≤ℤ b → (unsigned_abs t % 2 ^ 64 + unsigned_abs a * unsigned_abs b) % 2 ^ 64 ≡ unsigned_abs (t +ℤ a *ℤ b) % 2 ^ 64 =
    λ t a b h i j. rw (← unsigned_abs-mul a b) (more_kept t (a *ℤ b) (2 ^ 64) h (product_natural a b i j)) in
    rw add-one (prefix_same r (kept_of (raw_of at (suc k)))
    (x ∙ rw (ep, eq) (more_kept s.x z.x (2 ^ 32) n.x here.left))
    (y ∙ rw (ep, eq) (more_kept s.y z.y (2 ^ 32) n.y here.bottom))
    (xx ∙ rw (ep, eq) (long s.xx z.x z.x n.xx here.left here.left))
    (xy ∙ rw (ep, eq) (long s.xy z.x z.y n.xy here.left here.bottom))
    (yy ∙ rw (ep, eq) (long s.yy z.y z.y n.yy here.bottom here.bottom)))

pub sum_same : (f g : ℕ → ℤ) (count : ℕ) → ((k : ℕ) → f k ≡ g k) → sum_of f count ≡ sum_of g count
sum_same f g zero e = refl
sum_same f g (suc count) e = omega (arith, ints, sum_same f g count e, e count)

-- the points of the second lap are those of the first
second_lap : (points : List Point) (k : ℕ) → point_at points (length points + k) ≡ point_at points k
second_lap points k = ap (λ n. slice_index_or points n origin) (add-mod_left (length points) k)

-- the sums over a lap and some points more
lap_and : (points : List Point) (f : Point → ℤ) (k : ℕ)
    → sum_of (λ d. f (point_at points d)) (length points) +ℤ sum_of (λ d. f (point_at points d)) k ≡ sum_of (λ d. f (point_at points d)) (length points + k)
lap_and points f k =
    let e = sum_same (λ d. f (point_at points (length points + d))) (λ d. f (point_at points d)) k (λ d. ap f (second_lap points d)) in
    sym (split (λ d. f (point_at points d)) (length points) k ∙ ap (λ s. sum_of (λ d. f (point_at points d)) (length points) +ℤ s) e)

both_laps : (points : List Point) → AreOnPage points → (k : ℕ)
    → both_of (prefix_of points (length points)) (prefix_of points k) ≡ prefix_of points (length points + k)
both_laps points on_page k =
    let lap = raw_natural (point_at points) (length points) on_page in
    let more = raw_natural (point_at points) k on_page in
    let one : (f : Point → ℤ) (m : ℕ) → pos 0 ≤ℤ sum_of (λ d. f (point_at points d)) (length points) → pos 0 ≤ℤ sum_of (λ d. f (point_at points d)) k
    → (unsigned_abs (sum_of (λ d. f (point_at points d)) (length points)) % m + unsigned_abs (sum_of (λ d. f (point_at points d)) k) % m) % m
    ≡ unsigned_abs (sum_of (λ d. f (point_at points d)) (length points + k)) % m =
    λ f m g h. both_kept _ _ m g h ∙ ap (λ s. unsigned_abs s % m) (lap_and points f k) in
    prefix_same _ _
    (one (λ p. p.x) (2 ^ 32) lap.x more.x)
    (one (λ p. p.y) (2 ^ 32) lap.y more.y)
    (one (λ p. p.x *ℤ p.x) (2 ^ 64) lap.xx more.xx)
    (one (λ p. p.x *ℤ p.y) (2 ^ 64) lap.xy more.xy)
    (one (λ p. p.y *ℤ p.y) (2 ^ 64) lap.yy more.yy)

-- what `plus` gives of the whole lap's row and of one more
pub lap_is : (points : List Point) → AreOnPage points → (lap k : ℕ) (a b m : Prefix) → lap ≡ length points → lap ≤ k
    → a ≡ prefix_of points lap → b ≡ prefix_of points (k - lap) → m ≡ both_of a b → m ≡ prefix_of points k
lap_is points on_page lap k a b m size beyond ea eb em =
    let end : length points + (k - lap) ≡ k = omega arith in
    em ∙ ap (λ v. both_of v b) (ea ∙ ap (λ n. prefix_of points n) size) ∙ ap (λ v. both_of (prefix_of points (length points)) v) eb
    ∙ both_laps points on_page (k - lap) ∙ ap (λ n. prefix_of points n) end

-- the sums themselves, none of which is cut
abbrev pub whole_of : RawSums → Prefix
whole_of r = prefix (unsigned_abs r.x) (unsigned_abs r.y) (unsigned_abs r.xx) (unsigned_abs r.xy) (unsigned_abs r.yy)

-- the sums over a segment, of those up to its end and those before it
segment_kept : (points : List Point) → AreOnPage points → (i count : ℕ) → count ≤ MOST_STEPS + 1
    → less_of (prefix_of points (i + count)) (prefix_of points i) ≡ whole_of (raw_of (λ d. point_at points (i + d)) count)
segment_kept points on_page i count few =
    let before = raw_natural (point_at points) i on_page in
    let here = raw_natural (λ d. point_at points (i + d)) count (λ d. on_page (i + d)) in
    let most = raw_most (λ d. point_at points (i + d)) count (λ d. on_page (i + d)) in
    let at : ℕ → Point = point_at points in
    prefix_same _ _
    (rw (split (λ k. (at k).x) i count) (less_kept _ _ before.x here.x (omega (arith, most.x))))
    (rw (split (λ k. (at k).y) i count) (less_kept _ _ before.y here.y (omega (arith, most.y))))
    (rw (split (λ k. (at k).x *ℤ (at k).x) i count) (less_kept_long _ _ before.xx here.xx (omega (arith, most.xx))))
    (rw (split (λ k. (at k).x *ℤ (at k).y) i count) (less_kept_long _ _ before.xy here.xy (omega (arith, most.xy))))
    (rw (split (λ k. (at k).y *ℤ (at k).y) i count) (less_kept_long _ _ before.yy here.yy (omega (arith, most.yy))))

-- what `minus` gives of two rows
pub segment_is : (points : List Point) → AreOnPage points → (i j : ℕ) (a b m : Prefix) → i < j → j - i + 1 ≤ MOST_STEPS + 1
    → a ≡ prefix_of points (j + 1) → b ≡ prefix_of points i → m ≡ less_of a b
    → m ≡ whole_of (raw_of (λ d. point_at points (i + d)) (j - i + 1))
segment_is points on_page i j a b m h few ea eb em =
    let end : i + (j - i + 1) ≡ j + 1 = omega arith in
    let Q : ℕ → Type 0 = λ n. less_of (prefix_of points n) (prefix_of points i) ≡ whole_of (raw_of (λ d. point_at points (i + d)) (j - i + 1)) in
    em ∙ rw (ea, eb) (subst Q end (segment_kept points on_page i (j - i + 1) few))

natural_back : (z : ℤ) → pos 0 ≤ℤ z → pos (unsigned_abs z) ≡ z
natural_back z h = omega (arith, ints)

-- what `raw` gives of them: they fit
pub whole_back : (points : List Point) → AreOnPage points → (i count : ℕ) (m : Prefix) (r : RawSums) → count ≤ MOST_STEPS + 1
    → m ≡ whole_of (raw_of (λ d. point_at points (i + d)) count)
    → r.x ≡ pos m.x → r.y ≡ pos m.y → (m.xx < 2 ^ 63 → r.xx ≡ pos m.xx) → (m.xy < 2 ^ 63 → r.xy ≡ pos m.xy) → (m.yy < 2 ^ 63 → r.yy ≡ pos m.yy)
    → r ≡ raw_of (λ d. point_at points (i + d)) count
whole_back points on_page i count m r few e x y xx xy yy =
    let n = raw_natural (λ d. point_at points (i + d)) count (λ d. on_page (i + d)) in
    let most = raw_most (λ d. point_at points (i + d)) count (λ d. on_page (i + d)) in
    let is_xx = ap (λ v. v.xx) e in
    let is_xy = ap (λ v. v.xy) e in
    let is_yy = ap (λ v. v.yy) e in
    raw_same _ _
    (x ∙ ap (λ v. pos v.x) e ∙ natural_back _ n.x)
    (y ∙ ap (λ v. pos v.y) e ∙ natural_back _ n.y)
    (xx (omega (arith, is_xx, most.xx)) ∙ ap (λ v. pos v) is_xx ∙ natural_back _ n.xx)
    (xy (omega (arith, is_xy, most.xy)) ∙ ap (λ v. pos v) is_xy ∙ natural_back _ n.xy)
    (yy (omega (arith, is_yy, most.yy)) ∙ ap (λ v. pos v) is_yy ∙ natural_back _ n.yy)

-- a row of no more points than there are is in the table
pub row_within : (size shift m : ℕ) → m * 2 ^ shift ≤ size → m ≤ size / 2 ^ shift
row_within size shift m = le-div m size (2 ^ shift) (pow_pos shift)

-- the points before a row of the table are the path's
pub row_reaches : (size shift m : ℕ) → m ≤ size / 2 ^ shift → m * 2 ^ shift ≤ size
row_reaches size shift m below = (le-div_iff_mul-le (pow_pos shift)).0 below

-- where a row begins, as a shift gives it
pub row_begins : (size shift m : ℕ) → size < 2 ^ 64 → m * 2 ^ shift ≤ size → m * 2 ^ shift % 2 ^ 64 ≡ m * 2 ^ shift
row_begins size shift m short within = mod-eq_of_lt (omega arith)

-- a row that was read from the table
pub row_is : (points : List Point) (shift : ℕ) (rows : List Prefix) → IsTable points shift rows → (m : ℕ) (r : Prefix) → m * 2 ^ shift ≤ length points
    → r ≡ get_or rows m r → r ≡ prefix_of points (m * 2 ^ shift)
row_is points shift rows t m r within e =
    get_or_read rows _ _ (omega (arith, t.lap, row_within (length points) shift m within)) e no_prefix ∙ t.each m within

-- the rows so far and one more
pub push_row : (row : ℕ → Prefix) (rows : List Prefix) (r : Prefix) (k : ℕ) → length rows ≡ k → ((m : ℕ) → m < k → get_or rows m no_prefix ≡ row m)
    → r ≡ row k → (m : ℕ) → m < k + 1 → get_or (rows ++ r ∷ []) m no_prefix ≡ row m
push_row row rows r k len each er m h =
    elim (dec_lt m k) [
      | yes below ↦ get_or-append rows (r ∷ []) no_prefix m (omega arith) ∙ each m below
      | no not_below ↦ (let e : length rows ≡ m = omega arith in
          let P : ℕ → Type 0 = λ n. get_or (rows ++ r ∷ []) n no_prefix ≡ row n in
          let Q : ℕ → Type 0 = λ n. get_or (rows ++ r ∷ []) (length rows) no_prefix ≡ row n in
          subst P e (subst Q (sym len) (get_or-append_seam rows r [] no_prefix ∙ er)))
    ]

-- a point's number in the first lap stands for the same point
pub same_place : (points : List Point) (k m : ℕ) → 0 < length points → m ≡ k % length points → point_at points m ≡ point_at points k
same_place points k m some em =
    let within : m < length points = rw em (mod-lt k some) in
    ap (λ n. slice_index_or points n origin) (mod-eq_of_lt within ∙ em)

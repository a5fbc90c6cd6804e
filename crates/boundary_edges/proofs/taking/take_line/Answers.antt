-- The kind is that of the line, and the greater column and row are where its edge stands.
use Rattle.std.proofs.Common.{◌≡◌, ◌+◌, ◌*◌, ◌^◌, ◌<◌, ℤ, pos, ◌≤ℤ◌, nat_abs, max, w32, to_z, of_z, length, refl, ap, sym, ◌∙◌, arith}
use Rattle.std.proofs.lemmas.Int.{ints}
use Rattle.std.proofs.lemmas.Bool.{eq-eqb, false≢true}
use Rattle.boundary_edges.proofs.EdgeTaken.{spot_inside}
use Rattle.boundary_edges.proofs.LineSpots.{word_back, spot_same, farther_has_spot, spot_is}
use Rattle.boundary_edges.proofs.LinesTaken.{taken_same}
use Rattle.boundary_edges.proofs.taking.take_line.Goals as goal

-- coordinates that aren't below 0 are told by their sizes
same_natural : (a b : ℤ) → pos 0 ≤ℤ a → pos 0 ≤ℤ b → nat_abs a ≡ nat_abs b → a ≡ b
same_natural a b high_a high_b same = omega (arith, ints)

-- the greater of two coordinates, passed as it is
greatest : (a b greater : ℤ) → pos 0 ≤ℤ a → pos 0 ≤ℤ b → nat_abs a + 3 < 2 ^ 16 → nat_abs b + 3 < 2 ^ 16 → pos 0 ≤ℤ greater
    → nat_abs greater ≡ max (nat_abs (to_z w32 (of_z w32 a))) (nat_abs (to_z w32 (of_z w32 b))) → max (nat_abs a) (nat_abs b) + 3 ≡ nat_abs (to_z w32 (of_z w32 greater)) + 3
greatest a b greater high_a high_b low_a low_b natural value =
    let is : nat_abs greater ≡ max (nat_abs a) (nat_abs b) = omega (arith, value, ap nat_abs (word_back a high_a low_a), ap nat_abs (word_back b high_b low_b)) in
    omega (arith, is, ap nat_abs (word_back greater natural (omega (arith, is, low_a, low_b))))

pub spot_at-spot-requires : goal.spot_at-spot-requires
spot_at-spot-requires c =
    let from = c.requires.from in
    let to = c.requires.to in
    farther_has_spot c.args.rows c.args.starts.now c.args.words.now c.args.from c.args.to _ _ c.requires.rows c.requires.blocks from to c.requires.step
    (greatest c.args.from.x c.args.to.x c.greater.result from.right to.right from.column to.column c.greater.ensures.natural c.greater.ensures.value)
    (greatest c.args.from.y c.args.to.y c.greater-2.result from.above to.above from.height to.height c.greater-2.ensures.natural c.greater-2.ensures.value)

pub take_edge-requires : goal.take_edge-requires
take_edge-requires c = spot_inside c.args.rows c.args.starts.now c.args.words.now _ _ c.kind_between.result c.spot_at-spot.result c.requires.blocks c.spot_at-spot.ensures c.kind_between.ensures.few

pub returns : goal.returns
returns c =
    let from = c.args.from in
    let to = c.args.to in
    let hp = c.requires.from in
    let hq = c.requires.to in
    let starts = c.args.starts.now in
    let column = greatest from.x to.x c.greater.result hp.right hq.right hp.column hq.column c.greater.ensures.natural c.greater.ensures.value in
    let row = greatest from.y to.y c.greater-2.result hp.above hq.above hp.height hq.height c.greater-2.ensures.natural c.greater-2.ensures.value in
    let has = farther_has_spot c.args.rows starts c.args.words.now from to _ _ c.requires.rows c.requires.blocks hp hq c.requires.step refl refl in
    let spot = spot_same c.args.rows starts _ _ _ _ c.spot_at-spot.result c.spot_at-spot.ensures (sym column) (sym row) in
    taken_same c.args.rows starts _ _ c.args.words.now c.take_edge.new.words
    (λ k u v. spot_is c.args.rows (16 * length starts) from to c.kind_between.result k u v hp hq c.requires.step
    (λ same. c.kind_between.ensures.upright (same_natural from.x to.x hp.right hq.right same))
    (λ apart. c.kind_between.ensures.level (λ e. absurd (false≢true (sym apart ∙ eq-eqb (nat_abs from.x) (nat_abs to.x) (ap nat_abs e))))))
    (c.take_edge.ensures c.args.rows _ _ starts has spot c.kind_between.ensures.few c.requires.blocks)

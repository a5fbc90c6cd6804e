-- A text begins with at most one pair of numbers, and points and indices are entries of a line.
use Rattle.std.proofs.Common.{◌≡◌, ℕ, ℤ, pos, negsuc, ◌-◌, ◌<◌, ◌^◌, ◌≤ℤ◌, List, [], ◌∷◌, ◌++◌, refl, ap, sym, ◌∙◌, append_assoc, codes, flat_map, arith}
use Rattle.std.proofs.lemmas.Int.{ints}
use Rattle.std.specs.Prelude.{decimal}
use Rattle.std.specs.Fmt.{signed_decimal}
use Rattle.pt_base.specs.PointsText.{point_text}
use Rattle.pt_base.specs.PolygonsText.{index_text}
use Rattle.pt_base.specs.Whole.{IsDigit}
use Rattle.pt_core.specs.declared.point.Point.{Point}
use Rattle.list_reader.specs.Inner.Numerals.{EndsDigits, IsNumeral}
use Rattle.list_reader.proofs.Runs.{one_number}
use Rattle.list_reader.specs.Inner.LineEntries.{IsEntry, IsPair}
use Rattle.list_reader.specs.PagePoints.{IsInPage, IsIndex}
use Rattle.list_reader.specs.Inner.LineTexts.{AreEntries}

-- two lists with the same first byte and the same bytes have the same rest
pub behind : (b : ℕ) (xs ys : List ℕ) → b ∷ xs ≡ b ∷ ys → xs ≡ ys
behind b xs ys same = cc

module _ (separator most_first most_second : ℕ) (no_digit : ¬ IsDigit separator) (first_small : most_first < 2 ^ 64) (second_small : most_second < 2 ^ 64) where
  -- a text that begins with a pair has its first number after the space
  pub first_number : (bytes after : List ℕ) (a b : ℕ) (rest : List ℕ) → bytes ≡ 32 ∷ after → IsPair separator most_first most_second bytes a b rest
      → IsNumeral most_first after a (separator ∷ (decimal b ++ rest))
  first_number bytes after a b rest is pair = record {
    text = behind 32 after (decimal a ++ separator ∷ (decimal b ++ rest)) (sym is ∙ pair.is);
    few = pair.first_few;
    ends = no_digit;
  }

  -- the number that was read is the pair's first one, and the separator follows it
  pub behind_first : (bytes after : List ℕ) (n : ℕ) (here : List ℕ) (a b : ℕ) (rest : List ℕ) → bytes ≡ 32 ∷ after → IsNumeral most_first after n here
      → IsPair separator most_first most_second bytes a b rest → (n ≡ a) × (here ≡ separator ∷ (decimal b ++ rest))
  behind_first bytes after n here a b rest is number pair =
      one_number most_first after n a here (separator ∷ (decimal b ++ rest)) first_small number (first_number bytes after a b rest is pair)

  -- the second number follows the separator
  pub second_number : (bytes after : List ℕ) (n : ℕ) (here there : List ℕ) (a b : ℕ) (rest : List ℕ) → bytes ≡ 32 ∷ after → IsNumeral most_first after n here
      → here ≡ separator ∷ there → IsPair separator most_first most_second bytes a b rest → IsNumeral most_second there b rest
  second_number bytes after n here there a b rest is number next pair = record {
    text = behind separator there (decimal b ++ rest) (sym next ∙ (behind_first bytes after n here a b rest is number pair).1);
    few = pair.second_few;
    ends = pair.ends;
  }

  -- a text begins with at most one pair
  pub one_pair : (bytes : List ℕ) (a b c d : ℕ) (r s : List ℕ) → IsPair separator most_first most_second bytes a b r
      → IsPair separator most_first most_second bytes c d s → (a ≡ c) × (b ≡ d) × (r ≡ s)
  one_pair bytes a b c d r s p q =
      let after = decimal a ++ separator ∷ (decimal b ++ r) in
      let number = first_number bytes after a b r p.is p in
      let first = behind_first bytes after a (separator ∷ (decimal b ++ r)) c d s p.is number q in
      let second = second_number bytes after a (separator ∷ (decimal b ++ r)) (decimal b ++ r) c d s p.is number refl q in
      let both = one_number most_second (decimal b ++ r) b d r s second_small (record { text = refl; few = p.second_few; ends = p.ends }) second in
      (first.0, both.0, both.1)

-- a coordinate that isn't negative is a natural number
pub natural : (z : ℤ) → pos 0 ≤ℤ z → (n : ℕ) × (z ≡ pos n)
natural (pos n) h = (n, refl)
natural (negsuc n) h = absurd (omega (arith, ints))

point_bytes : (a b : ℕ) (rest : List ℕ) → point_text (record { x = pos a; y = pos b }) ++ rest ≡ 32 ∷ (decimal a ++ 44 ∷ (decimal b ++ rest))
point_bytes a b rest = simp append_assoc

index_bytes : (i : ℕ) (rest : List ℕ) → index_text i ++ rest ≡ 32 ∷ (decimal i ++ rest)
index_bytes i rest = simp append_assoc

-- a pair of numbers within the sides is a point of the page
pub point_of_pair : (width height : ℕ) (bytes : List ℕ) (a b : ℕ) (rest : List ℕ) → IsPair 44 width height bytes a b rest
    → IsEntry point_text (IsInPage width height) bytes (record { x = pos a; y = pos b }) rest
point_of_pair width height bytes a b rest pair =
    let a_few = pair.first_few in
    let b_few = pair.second_few in
    record {
      is = pair.is ∙ sym (point_bytes a b rest);
      inside = record { left = omega (arith, ints); right = omega (arith, ints); bottom = omega (arith, ints); top = omega (arith, ints) };
      ends = pair.ends;
    }

pub pair_of_point : (width height : ℕ) (bytes : List ℕ) (p : Point) (rest : List ℕ) → IsEntry point_text (IsInPage width height) bytes p rest
    → (a b : ℕ) × (p ≡ record { x = pos a; y = pos b }) × IsPair 44 width height bytes a b rest
pair_of_point width height bytes p rest entry =
    let inside = entry.inside in
    let (a, x) = natural p.x inside.left in
    let (b, y) = natural p.y inside.bottom in
    let F : ℤ → Point = λ z. record { x = z; y = p.y } in
    let G : ℤ → Point = λ z. record { x = pos a; y = z } in
    let same : p ≡ record { x = pos a; y = pos b } = ap F x ∙ ap G y in (
      a,
      b,
      same,
      record {
        is = entry.is ∙ ap (λ q. point_text q ++ rest) same ∙ point_bytes a b rest;
        first_few = (let h = inside.right in omega (arith, ints));
        second_few = (let h = inside.top in omega (arith, ints));
        ends = entry.ends;
      },
    )

-- a number of 32 bits is an index
pub index_of_number : (bytes after : List ℕ) (i : ℕ) (rest : List ℕ) → bytes ≡ 32 ∷ after → IsNumeral (2 ^ 32 - 1) after i rest
    → IsEntry index_text IsIndex bytes i rest
index_of_number bytes after i rest is number =
    let few = number.few in
    record { is = is ∙ ap (λ l. 32 ∷ l) number.text ∙ sym (index_bytes i rest); inside = omega arith; ends = number.ends }

pub number_of_index : (bytes after : List ℕ) (i : ℕ) (rest : List ℕ) → bytes ≡ 32 ∷ after → IsEntry index_text IsIndex bytes i rest
    → IsNumeral (2 ^ 32 - 1) after i rest
number_of_index bytes after i rest is entry =
    let inside = entry.inside in
    record {
      text = behind 32 after (decimal i ++ rest) (sym is ∙ entry.is ∙ index_bytes i rest);
      few = omega arith;
      ends = entry.ends;
    }

comma_is_no_digit : ¬ IsDigit 44
comma_is_no_digit d = omega arith

-- a point and a line feed don't begin with a digit
pub points_end : (ps : List Point) (rest : List ℕ) → EndsDigits (flat_map point_text ps ++ 10 ∷ rest)
points_end [] rest digit = omega arith
points_end (p ∷ ps) rest digit = omega arith

-- points are entries of a line
pub points_are_entries : (width height : ℕ) → width < 2 ^ 64 → height < 2 ^ 64 → AreEntries Point point_text (IsInPage width height)
points_are_entries width height w h = record {
  spaced = λ p. (decimal_tail p, refl);
  one = λ p q r s p_in q_in r_ends s_ends same.
      let (a, b, p_is, first) = pair_of_point width height (point_text p ++ r) p r (record { is = refl; inside = p_in; ends = r_ends }) in
      let (c, d, q_is, second) = pair_of_point width height (point_text p ++ r) q s (record { is = same; inside = q_in; ends = s_ends }) in
      let both = one_pair 44 width height comma_is_no_digit w h (point_text p ++ r) a b c d r s first second in
      let F : ℕ → Point = λ n. record { x = pos n; y = pos b } in
      let G : ℕ → Point = λ n. record { x = pos c; y = pos n } in
      (p_is ∙ ap F both.0 ∙ ap G both.1 ∙ sym q_is, both.2);
}
  where
    decimal_tail : Point → List ℕ
    decimal_tail p = (signed_decimal p.x ++ codes ",") ++ signed_decimal p.y

pub indices_are_entries : AreEntries ℕ index_text IsIndex
indices_are_entries = record {
  spaced = λ i. (decimal i, refl);
  one = λ i j r s i_in j_in r_ends s_ends same.
      let first = number_of_index (index_text i ++ r) (decimal i ++ r) i r (index_bytes i r) (record { is = refl; inside = i_in; ends = r_ends }) in
      let second = number_of_index (index_text i ++ r) (decimal i ++ r) j s (index_bytes i r) (record { is = same; inside = j_in; ends = s_ends }) in
      one_number (2 ^ 32 - 1) (decimal i ++ r) i j r s (omega arith) first second;
}

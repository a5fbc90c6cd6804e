-- A text begins with at most one first line, and reading it step by step finds it.
use Rattle.std.proofs.Common.{◌≡◌, ℕ, ◌-◌, ◌^◌, List, [], ◌∷◌, ◌++◌, refl, sym, ◌∙◌, codes, arith}
use Rattle.std.specs.Prelude.{decimal}
use Rattle.pt_core.specs.declared.limits.TheConstants.{LONGEST_SIDE}
use Rattle.list_reader.specs.Inner.Numerals.{IsNumeral}
use Rattle.list_reader.proofs.Runs.{one_number}
use Rattle.list_reader.specs.Inner.SidesLines.{IsSidesLine}

-- two texts that begin with the same word and are equal have the same rest
pub cancel : (word xs ys : List ℕ) → word ++ xs ≡ word ++ ys → xs ≡ ys
cancel [] xs ys same = same
cancel (b ∷ word) xs ys same = cancel word xs ys (cc)

-- the bytes begin with a word, and `after` follows it
pub record Behind (word bytes : List ℕ) : Type 0 where
  pub after : List ℕ
  pub is : bytes ≡ word ++ after

-- a number of at most `most` was read, and `after` follows it
pub record ReadNumber (most : ℕ) (bytes : List ℕ) : Type 0 where
  pub value : ℕ
  pub after : List ℕ
  pub is : IsNumeral most bytes value after

-- the first line after its height
abbrev pub behind_height : ℕ → List ℕ → List ℕ
behind_height p rest = decimal p ++ (codes "\n" ++ rest)

abbrev pub behind_width : ℕ → ℕ → List ℕ → List ℕ
behind_width h p rest = decimal h ++ (codes " " ++ behind_height p rest)

-- the numbers that were read, one after another, are those of the first line
module _ (word bytes : List ℕ) (w h p : ℕ) (rest : List ℕ) (head : IsSidesLine word bytes w h p rest) (start : Behind word bytes) where
  pub first : IsNumeral LONGEST_SIDE start.after w (codes " " ++ behind_width h p rest)
  first = record { text = cancel word start.after (decimal w ++ (codes " " ++ behind_width h p rest)) (sym start.is ∙ head.is); few = head.wide; ends = λ d. omega arith }

  module _ (width : ReadNumber LONGEST_SIDE start.after) where
    pub after_first : (width.value ≡ w) × (width.after ≡ codes " " ++ behind_width h p rest)
    after_first = one_number LONGEST_SIDE start.after width.value w width.after (codes " " ++ behind_width h p rest) (omega arith) width.is first

    module _ (gap : Behind (codes " ") width.after) where
      pub second : IsNumeral LONGEST_SIDE gap.after h (codes " " ++ behind_height p rest)
      second = record { text = cancel (codes " ") gap.after (behind_width h p rest) (sym gap.is ∙ after_first.1); few = head.high; ends = λ d. omega arith }

      module _ (height : ReadNumber LONGEST_SIDE gap.after) where
        pub after_second : (height.value ≡ h) × (height.after ≡ codes " " ++ behind_height p rest)
        after_second = one_number LONGEST_SIDE gap.after height.value h height.after (codes " " ++ behind_height p rest) (omega arith) height.is second

        module _ (next : Behind (codes " ") height.after) where
          pub third : IsNumeral (2 ^ 32 - 1) next.after p (codes "\n" ++ rest)
          third = let few = head.few in record { text = cancel (codes " ") next.after (behind_height p rest) (sym next.is ∙ after_second.1); few = omega arith; ends = λ d. omega arith }

          pub after_third : (count : ReadNumber (2 ^ 32 - 1) next.after) → (count.value ≡ p) × (count.after ≡ codes "\n" ++ rest)
          after_third count = one_number (2 ^ 32 - 1) next.after count.value p count.after (codes "\n" ++ rest) (omega arith) count.is third

-- a text begins with at most one first line
pub one_sides : (word bytes : List ℕ) (w h p : ℕ) (r : List ℕ) (w' h' p' : ℕ) (s : List ℕ) → IsSidesLine word bytes w h p r → IsSidesLine word bytes w' h' p' s
    → (w ≡ w') × (h ≡ h') × (p ≡ p') × (r ≡ s)
one_sides word bytes w h p r w' h' p' s a b =
    let start : Behind word bytes = record { after = decimal w ++ (codes " " ++ behind_width h p r); is = a.is } in
    let width : ReadNumber LONGEST_SIDE start.after = record { value = w; after = codes " " ++ behind_width h p r; is = first word bytes w h p r a start } in
    let gap : Behind (codes " ") width.after = record { after = behind_width h p r; is = refl } in
    let height : ReadNumber LONGEST_SIDE gap.after = record { value = h; after = codes " " ++ behind_height p r; is = second word bytes w h p r a start width gap } in
    let next : Behind (codes " ") height.after = record { after = behind_height p r; is = refl } in
    let count : ReadNumber (2 ^ 32 - 1) next.after = record { value = p; after = codes "\n" ++ r; is = third word bytes w h p r a start width gap height next } in
    let one = after_first word bytes w' h' p' s b start width in
    let two = after_second word bytes w' h' p' s b start width gap height in
    let three = after_third word bytes w' h' p' s b start width gap height next count in
    (one.0, two.0, three.0, cancel (codes "\n") r s three.1)

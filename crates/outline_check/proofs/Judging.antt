-- Paths that are read and judged one after another.
use Rattle.std.proofs.Common.{◌≡◌, ℕ, ◌+◌, ◌<◌, ◌≤◌, ◌^◌, ◌%◌, List, [], ◌∷◌, ◌++◌, length, length-append, take, get_or, refl, ap, sym, ◌∙◌, subst, flat_map, Option, None, codes, arith}
use Rattle.std.proofs.lemmas.Int.{ints}
use Rattle.std.proofs.lemmas.List.{append-nil, take-append-le}
use Rattle.std.proofs.lemmas.List.Elements.{All-nil, All-cons, All-append}
use Rattle.std.proofs.Math.ListN.{get_or-append}
use Rattle.std.proofs.Math.Seq.{get_or-append_seam, take-append_seam}
use Rattle.std.specs.List.{All}
use Rattle.std.specs.Prelude.{decimal}
use Rattle.pt_core.specs.OnPage.{AreOnPage}
use Rattle.pt_core.specs.ClosedWalk.{origin}
use Rattle.pt_core.specs.declared.limits.TheConstants.{LONGEST_SIDE}
use Rattle.outline_check.specs.Inner.CertifiedPaths.{IsGroup}
use Rattle.list_reader.specs.Inner.SidesLines.{IsSidesLine}
use Rattle.list_reader.proofs.ListParts.{ArePartsRead, parts_none, parts_more, parts_break, parts_end}
use Rattle.list_reader.proofs.SidesLines.{one_sides}
use Rattle.outline_check.specs.ProofsText.{Certified, certified_text}
use Rattle.outline_check.specs.Texts.{AreInRanges, IsProofs}
use Rattle.outline_check.specs.Verdicts.{IsGood, IsFirstBad, no_certified}
use Rattle.outline_check.specs.Inner.Verdicts.{IsJudged}
use Rattle.outline_check.proofs.GroupReading.{head_of, one_group}

-- one more path behind the first bad one
pub bad_more : (paths : List Certified) (c : Certified) (k : ℕ) → IsFirstBad paths k → IsFirstBad (paths ++ c ∷ []) k
bad_more paths c k first =
    let within = first.within in
    record {
      within = omega (arith, length-append paths (c ∷ []));
      bad = λ good. first.bad (subst IsGood (get_or-append paths (c ∷ []) no_certified k within) good);
      before = subst (All IsGood) (sym (take-append-le k paths (c ∷ []) (omega arith))) first.before;
    }

-- a good one behind good ones
pub good_more : (paths : List Certified) (c : Certified) → All IsGood paths → IsGood c → All IsGood (paths ++ c ∷ [])
good_more paths c good here = All-append IsGood paths (c ∷ []) good (All-cons IsGood c [] here (All-nil IsGood))

-- and the first bad one
pub first_bad : (paths : List Certified) (c : Certified) (k : ℕ) → length paths ≡ k → All IsGood paths → ¬ IsGood c → IsFirstBad (paths ++ c ∷ []) k
first_bad paths c k len good bad =
    let seam : get_or (paths ++ c ∷ []) k no_certified ≡ c = ap (λ n. get_or (paths ++ c ∷ []) n no_certified) (sym len) ∙ get_or-append_seam paths c [] no_certified in
    let front : take k (paths ++ c ∷ []) ≡ paths = ap (λ n. take n (paths ++ c ∷ [])) (sym len) ∙ take-append_seam paths (c ∷ []) in
    record {
      within = omega (arith, length-append paths (c ∷ []));
      bad = λ is. bad (subst IsGood seam is);
      before = subst (All IsGood) (sym front) good;
    }

-- points of a page of these sides are on a page
pub on_page : (width height : ℕ) (c : Certified) → width ≤ LONGEST_SIDE → height ≤ LONGEST_SIDE → AreInRanges width height c → AreOnPage c.points
on_page width height c wide high inside k =
    let some = inside.some_point in
    let here = inside.points (k % length c.points) origin (omega arith) in
    record {
      left = here.left;
      right = (let h = here.right in omega (arith, ints));
      bottom = here.bottom;
      top = (let h = here.top in omega (arith, ints));
    }

-- the first k paths of a text were read and judged, and it goes on here
pub record IsJudging (width height : ℕ) (bytes here : List ℕ) (k : ℕ) (wrong : Option ℕ) : Type 0 where
  pub paths : List Certified
  pub count : length paths ≡ k
  pub read : ArePartsRead Certified certified_text (AreInRanges width height) bytes paths here
  pub judged : IsJudged paths wrong

module _ (width height : ℕ) (wide : width < 2 ^ 64) (high : height < 2 ^ 64) where
  abbrev pub one_here : (bytes : List ℕ) (c d : Certified) (r s : List ℕ) → IsGroup width height bytes c r → IsGroup width height bytes d s → (c ≡ d) × (r ≡ s)
  one_here = one_group width height wide high

  pub judging_none : (bytes : List ℕ) → IsJudging width height bytes bytes 0 None
  judging_none bytes = record {
    paths = [];
    count = refl;
    read = parts_none Certified certified_text (AreInRanges width height) one_here bytes;
    judged = All-nil IsGood;
  }

  pub judging_more : (bytes here next : List ℕ) (k : ℕ) (wrong now : Option ℕ) (c : Certified) → IsJudging width height bytes here k wrong → IsGroup width height here c next
      → ((paths : List Certified) → length paths ≡ k → IsJudged paths wrong → IsJudged (paths ++ c ∷ []) now)
      → IsJudging width height bytes next (k + 1) now
  judging_more bytes here next k wrong now c so_far group judges = record {
    paths = so_far.paths ++ c ∷ [];
    count = omega (arith, length-append so_far.paths (c ∷ []), so_far.count);
    read = parts_more Certified certified_text (AreInRanges width height) one_here bytes here next so_far.paths c so_far.read group;
    judged = judges so_far.paths so_far.count so_far.judged;
  }

  -- the paths of any text that begins with this line
  module _ {text : List ℕ} {count : ℕ} {bytes : List ℕ} (head : IsSidesLine (codes "proofs ") text width height count bytes) where
    paths_of : (w h : ℕ) (paths : List Certified) → IsProofs text w h paths
        → (count ≡ length paths) × (bytes ≡ flat_map certified_text paths ++ []) × All (AreInRanges width height) paths
    paths_of w h paths proofs =
        let one = one_sides (codes "proofs ") text width height count bytes w h (length paths) (flat_map certified_text paths) head (head_of text w h paths proofs) in
        let P : ℕ → Type 0 = λ n. All (AreInRanges n h) paths in
        let Q : ℕ → Type 0 = λ n. All (AreInRanges width n) paths in
        (one.2, one.3 ∙ sym (append-nil (flat_map certified_text paths)), subst Q (sym one.1) (subst P (sym one.0) proofs.in_range))

    module _ {here : List ℕ} {k : ℕ} {wrong : Option ℕ} (so_far : IsJudging width height bytes here k wrong) where
      -- where a path is missing, the text is none
      pub judging_breaks : k < count
          → ((c : Certified) (rest : List ℕ) → IsGroup width height here c rest → ⊥)
          → (w h : ℕ) (paths : List Certified) → IsProofs text w h paths → ⊥
      judging_breaks short none w h paths proofs =
          let (len, same, inside) = paths_of w h paths proofs in
          parts_break Certified certified_text (AreInRanges width height) one_here bytes here so_far.paths so_far.read none paths [] inside same
          (omega (arith, len, so_far.count))

      -- where something follows the last path, the text is none
      pub judging_trails : k ≡ count → 0 < length here
          → (w h : ℕ) (paths : List Certified) → IsProofs text w h paths → ⊥
      judging_trails all some w h paths proofs =
          let (len, same, inside) = paths_of w h paths proofs in
          let none = parts_end Certified certified_text (AreInRanges width height) one_here bytes here so_far.paths so_far.read paths [] inside same
          (omega (arith, len, so_far.count)) in
          omega (arith, ap length none)

      -- the text is these paths
      pub judging_ends : k ≡ count → here ≡ [] → IsProofs text width height so_far.paths
      judging_ends all none =
          let read = so_far.read in
          let texts : bytes ≡ flat_map certified_text so_far.paths = read.is ∙ ap (λ l. flat_map certified_text so_far.paths ++ l) none ∙ append-nil (flat_map certified_text so_far.paths) in
          let len : count ≡ length so_far.paths = omega (arith, so_far.count) in
          record {
            is = head.is
                ∙ ap (λ l. codes "proofs " ++ (decimal width ++ (codes " " ++ (decimal height ++ (codes " " ++ (decimal count ++ (codes "\n" ++ l))))))) texts
                ∙ ap (λ n. codes "proofs " ++ (decimal width ++ (codes " " ++ (decimal height ++ (codes " " ++ (decimal n ++ (codes "\n" ++ flat_map certified_text so_far.paths))))))) len;
            some_width = head.some_width;
            wide = head.wide;
            some_height = head.some_height;
            high = head.high;
            few = (let few = head.few in omega arith);
            in_range = read.all;
          }

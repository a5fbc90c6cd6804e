-- Lists as they are made, and as they are read behind a slice of them.
use Rattle.std.proofs.Common.{◌≡◌, ℕ, ◌≤◌, Bool, false, List, ◌++◌, length, take, sym, ap, ◌∙◌, subst, inl, inr}
use Rattle.std.proofs.Math.ListN.{replicate}
use Rattle.std.proofs.Math.Seq.{take-append_seam}
use Rattle.std.proofs.lemmas.Bool.{cases_lt}
use Rattle.std.proofs.lemmas.List.{get_or_past, get_or-replicate, length-replicate}
use Rattle.least_walk.specs.Inner.MarkedPlaces.{AreUnmarked}

-- what was written through a slice of a whole vector
pub whole : {A : Type 0} (written rest : List A) (len : ℕ) → len ≡ length written → take len (written ++ rest) ≡ written
whole written rest len all = ap (λ n. take n (written ++ rest)) all ∙ take-append_seam written rest

-- at first nothing is marked
pub unmarked : (marks : List Bool) (places : ℕ) → marks ≡ replicate places false → AreUnmarked marks
unmarked marks places is = subst AreUnmarked (sym is) (λ i. elim (cases_lt i places) [
  | inl below ↦ get_or-replicate places i false false below
  | inr past ↦ get_or_past (replicate places false) i false (subst (λ n. n ≤ i) (sym (length-replicate places false)) past)
])

-- The lines of a batch, behind those of the batches before it.
use Rattle.std.proofs.Common.{◌≡◌, ℕ, zero, suc, ◌+◌, List, [], ◌∷◌, ◌++◌, ◌-◌, ◌≤◌, flat_map, refl, sym, ap, ◌∙◌, subst, arith, append_assoc, append-nil}
use Rattle.std.specs.Global.{Vec}
use Rattle.std.specs.List.{AllZip, concat}
use Rattle.std.proofs.lemmas.List.Concat.{flat_map-cons}
use Rattle.bit_image.specs.Page.{Page}
use Rattle.pt_core.specs.declared.settings.Settings.{Settings}
use Rattle.potrace_main.specs.Demo.{IsDemoLine, IsDemoText}
use Rattle.demo_pages.specs.Picture.{pages_from}

-- the lines of some pages, with those of further pages behind
abbrev pub items_before : List (Vec ℕ) → List (List ℕ) → List (List ℕ)
items_before [] lines = lines
items_before (line ∷ batch) lines = line.items ∷ items_before batch lines

pub lines_before : (settings : Settings) (pages more : List Page) (batch : List (Vec ℕ)) (lines : List (List ℕ))
    → AllZip (λ page line. IsDemoLine settings page line.items) pages batch → AllZip (IsDemoLine settings) more lines
    → AllZip (IsDemoLine settings) (pages ++ more) (items_before batch lines)
lines_before settings [] more [] lines p q = q
lines_before settings (page ∷ pages) more (line ∷ batch) lines p q = (p.0, lines_before settings pages more batch lines p.1 q)
lines_before settings [] more (line ∷ batch) lines p q = absurd p
lines_before settings (page ∷ pages) more [] lines p q = absurd p

pub text_before : (batch : List (Vec ℕ)) (lines : List (List ℕ))
    → concat (items_before batch lines) ≡ flat_map (λ line. line.items) batch ++ concat lines
text_before [] lines = refl
text_before (line ∷ batch) lines =
    ap (λ (text : List ℕ). line.items ++ text) (text_before batch lines)
    ∙ sym (append_assoc line.items (flat_map (λ line. line.items) batch) (concat lines))
    ∙ ap (λ (text : List ℕ). text ++ concat lines) (sym (flat_map-cons (λ line. line.items) line batch))

-- with the lines of the pages that are left behind it, the text is that of the demo
abbrev pub IsBegun : Settings → ℕ → ℕ → ℕ → List ℕ → Type 0
IsBegun settings n left s text = (rest : List (List ℕ)) → AllZip (IsDemoLine settings) (pages_from left s) rest → IsDemoText n settings (text ++ concat rest)

-- these are the next pages from one number of the generator on, and their lines
pub record IsBatch (settings : Settings) (count s t : ℕ) (pages : List Page) (lines : List (Vec ℕ)) : Type 0 where
  pub made : (more : ℕ) → pages_from (count + more) s ≡ pages ++ pages_from more t
  pub each : AllZip (λ page line. IsDemoLine settings page line.items) pages lines

-- the lines of a batch are appended
pub one_batch : (settings : Settings) (n left count s t : ℕ) (pages : List Page) (lines : List (Vec ℕ)) (text longer : List ℕ)
    → count ≤ left → IsBatch settings count s t pages lines → longer ≡ text ++ flat_map (λ line. line.items) lines
    → IsBegun settings n left s text → IsBegun settings n (left - count) t longer
one_batch settings n left count s t pages lines text longer few batch is so_far rest are =
    let split : count + (left - count) ≡ left = omega (arith, few) in
    let ahead : pages ++ pages_from (left - count) t ≡ pages_from left s =
    sym (batch.made (left - count)) ∙ ap (λ (k : ℕ). pages_from k s) split in
    let joined : text ++ concat (items_before lines rest) ≡ longer ++ concat rest =
    ap (λ (more : List ℕ). text ++ more) (text_before lines rest)
    ∙ sym (append_assoc text (flat_map (λ line. line.items) lines) (concat rest))
    ∙ ap (λ (more : List ℕ). more ++ concat rest) (sym is) in
    let both = lines_before settings pages (pages_from (left - count) t) lines rest batch.each are in
    subst (λ (whole : List ℕ). IsDemoText n settings whole) joined
    (so_far (items_before lines rest) (subst (λ (all : List Page). AllZip (IsDemoLine settings) all (items_before lines rest)) ahead both))

-- no page is left
pub no_batch : (settings : Settings) (n left s : ℕ) (text : List ℕ) → left ≤ 0 → IsBegun settings n left s text → IsDemoText n settings text
unfolding pages_from
no_batch settings n zero s text none so_far = subst (λ (whole : List ℕ). IsDemoText n settings whole) (append-nil text) (so_far [] tt)
no_batch settings n (suc left) s text none so_far = absurd (omega (arith, none))

-- no page is traced
pub none_traced : (settings : Settings) (n : ℕ) → IsBegun settings n n n []
none_traced settings n rest are = record { lines = rest; each = are; joined = refl }

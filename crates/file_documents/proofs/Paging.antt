-- The pages of a file, found one after another.
use Rattle.std.proofs.Common.{◌≡◌, ℕ, Bool, true, List, [], ◌∷◌, ◌++◌, drop, refl, sym, ◌∙◌, ap, subst}
use Rattle.bitmap_input.specs.Cut.{FileEnd, is_by_end}
use Rattle.bitmap_input.specs.Raw.{Raw}
use Rattle.bitmap_input.specs.Front.{front, page_at}
use Rattle.bitmap_input.specs.Front.Answer.{Page as Gives}
use Rattle.bitmap_input.specs.FilePages.{FilePages, next_begins}
use Rattle.bitmap_input.specs.FilePages.FilePages.{Next}
use Rattle.file_documents.specs.Manner.{Manner, shown_by}
use Rattle.file_documents.specs.Outcome.{BeginsSettled, LeavesBehind, is_later}
use Rattle.file_documents.specs.Inner.Outcome.{BeginsWith}
use Rattle.file_documents.specs.Inner.Progress.{AreConverted, Settles}

is_later-true : (raws : List Raw) → is_later true raws ≡ true
is_later-true [] = refl
is_later-true (raw ∷ raws) = refl

-- one page more
pub BeginsWith-more : (later : Bool) (bytes : List ℕ) (raws : List Raw) (rest : List ℕ) (raw : Raw) (used : ℕ)
    → BeginsWith later bytes raws rest → front (is_later later raws) rest ≡ Gives raw used
    → BeginsWith later bytes (raws ++ raw ∷ []) (drop (next_begins rest raw used) rest)
BeginsWith-more later bytes [] rest raw used b e =
    (used, rw b e, ap (λ bs. drop (next_begins bs raw used) bs) b)
BeginsWith-more later bytes (r ∷ raws) rest raw used (n, f, b) e =
    (n, f, BeginsWith-more true _ raws rest raw used b (rw (is_later-true raws) e))

-- the same of the bytes behind those that the pages take
pub LeavesBehind-more : (later : Bool) (bytes : List ℕ) (raws : List Raw) (rest : List ℕ) (raw : Raw) (used : ℕ)
    → BeginsWith later bytes raws rest → front (is_later later raws) rest ≡ Gives raw used
    → LeavesBehind later bytes (raws ++ raw ∷ []) (drop used rest)
LeavesBehind-more later bytes [] rest raw used b e = (used, rw b e, ap (λ bs. drop used bs) (sym b))
LeavesBehind-more later bytes (r ∷ []) rest raw used (n, f, b) e = (n, f, LeavesBehind-more true _ [] rest raw used b e)
LeavesBehind-more later bytes (r ∷ s ∷ raws) rest raw used (n, f, b) e = (n, f, LeavesBehind-more true _ (s ∷ raws) rest raw used b e)

-- one page more that isn't by the end
pub BeginsSettled-more : (later : Bool) (bytes : List ℕ) (raws : List Raw) (rest : List ℕ) (raw : Raw) (used : ℕ) (left : List ℕ)
    → BeginsSettled later bytes raws rest → Settles (is_later later raws) rest raw used left → BeginsSettled later bytes (raws ++ raw ∷ []) left
BeginsSettled-more later bytes [] rest raw used left b s =
    (used, ap (front later) b ∙ s.is, ap (λ bs. is_by_end (page_at later bs)) b ∙ s.open_end, ap (λ bs. drop (next_begins bs raw used) bs) b ∙ sym s.behind)
BeginsSettled-more later bytes (r ∷ raws) rest raw used left (n, f, o, b) s =
    (n, f, o, BeginsSettled-more true _ raws rest raw used left b (subst (λ l. Settles l rest raw used left) (sym (is_later-true raws)) s))

pub AreConverted-more : (manner : Manner) (raws : List Raw) (texts : List (List ℕ)) (raw : Raw) (text : List ℕ)
    → AreConverted manner raws texts → manner.belongs (shown_by manner raw) text → AreConverted manner (raws ++ raw ∷ []) (texts ++ text ∷ [])
AreConverted-more manner [] [] raw text h p = (p, tt)
AreConverted-more manner (r ∷ raws) (t ∷ texts) raw text h p = (h.0, AreConverted-more manner raws texts raw text h.1 p)
AreConverted-more manner [] (t ∷ texts) raw text h p = absurd h
AreConverted-more manner (r ∷ raws) [] raw text h p = absurd h

-- the pages of a file that begins with these, and goes on with those behind them
pub pages_on : (later : Bool) (bytes : List ℕ) (raws : List Raw) (rest : List ℕ) (more : List Raw) (ending : FileEnd)
    → BeginsWith later bytes raws rest → FilePages (is_later later raws) rest more ending → FilePages later bytes (raws ++ more) ending
pages_on later bytes [] rest more ending b pages = subst (λ bs. FilePages later bs more ending) (sym b) pages
pages_on later bytes (raw ∷ raws) rest more ending (n, f, b) pages =
    Next f (pages_on true _ raws rest more ending b (subst (λ l. FilePages l rest more ending) (sym (is_later-true raws)) pages))

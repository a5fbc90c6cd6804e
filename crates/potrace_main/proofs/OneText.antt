-- A page has one line, and a number of pages has one text.
use Rattle.std.proofs.Common.{◌≡◌, ℕ, List, [], ◌∷◌, length, refl, sym, ◌∙◌, ap}
use Rattle.std.specs.List.{AllZip, concat}
use Rattle.pt_core.specs.declared.settings.Settings.{Settings}
use Rattle.pt_core.specs.declared.trace.Trace.{Trace}
use Rattle.bit_image.specs.Page.{Page}
use Rattle.page_trace.proofs.OneTrace.{one_document, one_trace}
use Rattle.potrace_main.specs.Demo.{IsDemoLine, IsDemoText, demo_line}
use Rattle.demo_pages.specs.Picture.{pages_from}

pub one_line : (settings : Settings) (page : Page) (a b : List ℕ) → IsDemoLine settings page a → IsDemoLine settings page b → a ≡ b
one_line settings page a b p q =
    p.counts
    ∙ ap (λ (t : Trace). demo_line t (length p.document)) (one_trace page settings p.trace q.trace p.traced q.traced)
    ∙ ap (λ (text : List ℕ). demo_line q.trace (length text)) (one_document settings.backend page settings p.document q.document p.written q.written)
    ∙ sym q.counts

one_list : (settings : Settings) (pages : List Page) (these those : List (List ℕ))
    → AllZip (IsDemoLine settings) pages these → AllZip (IsDemoLine settings) pages those → these ≡ those
one_list settings [] [] [] p q = refl
one_list settings (page ∷ pages) (a ∷ these) (b ∷ those) p q =
    ap (λ (line : List ℕ). line ∷ these) (one_line settings page a b p.0 q.0)
    ∙ ap (λ (lines : List (List ℕ)). b ∷ lines) (one_list settings pages these those p.1 q.1)
one_list settings [] [] (b ∷ those) p q = absurd q
one_list settings [] (a ∷ these) those p q = absurd p
one_list settings (page ∷ pages) [] those p q = absurd p
one_list settings (page ∷ pages) (a ∷ these) [] p q = absurd q

pub one_demo : (pages : ℕ) (settings : Settings) (text other : List ℕ) → IsDemoText pages settings text → IsDemoText pages settings other → text ≡ other
one_demo pages settings text other p q =
    p.joined ∙ ap concat (one_list settings (pages_from pages pages) p.lines q.lines p.each q.each) ∙ sym q.joined

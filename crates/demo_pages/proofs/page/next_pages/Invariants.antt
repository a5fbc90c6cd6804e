use Rattle.std.proofs.Common.{◌≡◌, ℕ, ◌+◌, ◌-◌, ◌++◌, length}
use Rattle.demo_pages.specs.Picture.{pages_from}
use Rattle.demo_pages.proofs.page.next_pages.Given as goal

-- the first pages are made
abbrev pub invariant-loop-made : goal.invariant-loop-made
invariant-loop-made l = record {
  count : length l.pages.items ≡ l._made;
  pages : (more : ℕ) → pages_from (l.count + more) l.fn.generator ≡ l.pages.items ++ pages_from (l.count - l._made + more) l.generator;
}

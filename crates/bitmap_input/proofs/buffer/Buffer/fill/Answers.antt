use Rattle.std.proofs.Common.{◌≡◌, ◌<◌, ◌≤◌, ◌∙◌, List, [], ℕ, length, ap, sym, arith, rules}
use Rattle.std.proofs.lemmas.Result.{err_from_is_err_and}
use Rattle.bitmap_input.specs.Reading.{Buffered}
use Rattle.bitmap_input.proofs.FilledBuffer.{read_moves, none_held, some_filled, none_filled, filled_within}
use Rattle.bitmap_input.proofs.buffer.Buffer.fill.Goals as goal

pub returns-in_err-n-clause-fills : goal.returns-in_err-n-clause-fills
returns-in_err-n-clause-fills g c =
    let empty : c.widen.new.self.bytes ≡ [] = rw c.widen.ensures c.requires.none_left in
    let none = rw (← c.self.view_is) at empty in
    let held : List ℕ → Buffered = λ bytes. record { bytes = bytes; ended = c.self.inside.ended } in
    let p = err_from_is_err_and c.from_residual.result c.from_residual.ensures.1 in
    rw (p.1, ← c.widen.ensures, ← c.self.view_is)
    (ap held (none_held c.self.inside.start c.self.inside.end c.self.inside.buf.items _ c.self.invariant.1 none ∙ sym none), search rules)

pub returns-clause-fills : goal.returns-clause-fills
returns-clause-fills g c =
    let whole : length c.read.new.buf ≡ c.self.inside.buf.len = c.read.auto.buf ∙ c.deref_mut.ensures.len in
    let some : 0 < c.self.inside.buf.len = omega (arith, c.self.invariant) in
    let most : c.self.inside.buf.len ≤ 65536 = omega (arith, c.self.invariant) in
    record {
      moves = read_moves (g.I.Inputs.files c.args.inputs.now) (g.I.Inputs.files c.read.new.self) c.in_ok-n.n c.self.inside.buf.len c.read.new.buf c.self.inside.buf.items
          c.in_ok-n.ensures.within whole some c.in_ok-n.ensures.front c.in_ok-n.ensures.taken;
      some = some_filled c.in_ok-n.n c.self.inside.buf.len c.read.new.buf c.self.inside.buf.items c.in_ok-n.ensures.within whole;
      none = none_filled c.in_ok-n.n c.self.inside.buf.len c.read.new.buf c.self.inside.buf.items c.in_ok-n.ensures.within whole;
      within = filled_within c.in_ok-n.n c.self.inside.buf.len c.read.new.buf c.self.inside.buf.items c.in_ok-n.ensures.within whole most;
    }

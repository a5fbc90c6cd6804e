use Rattle.std.proofs.Common.{◌≡◌, ◌∙◌, ap, is_some, sym, true, false}
use Rattle.std.specs.Str.{bytes_eq}
use Rattle.mem_outside.specs.MemInputs.{name_of}
use Rattle.mem_outside.proofs.FirstFiles.{found_here, found_none, found_on, opened_here}
use Rattle.mem_outside.proofs.mem_inputs.place_of.Goals as goal

pub returns-then-eq-clause-some : goal.returns-then-eq-clause-some
returns-then-eq-clause-some c =
    let same : bytes_eq c.args.name.now (name_of c.index-files-i.result) ≡ true =
    ap (bytes_eq c.args.name.now) (sym c.as_str.ensures.value) ∙ sym c.eq.ensures ∙ c.if-eq.true in
    opened_here _ c.args.files.now c.loop-i.i c.args.name.now c.loop-i-test.true c.index-files-i.is same c.loop-i.invariant

pub returns-then-eq-clause-there : goal.returns-then-eq-clause-there
returns-then-eq-clause-there c =
    let same : bytes_eq c.args.name.now (name_of c.index-files-i.result) ≡ true =
    ap (bytes_eq c.args.name.now) (sym c.as_str.ensures.value) ∙ sym c.eq.ensures ∙ c.if-eq.true in
    ap is_some (found_here _ c.args.files.now c.loop-i.i c.args.name.now c.loop-i-test.true c.index-files-i.is same c.loop-i.invariant)

pub loop-i-preserved : goal.loop-i-preserved
loop-i-preserved c =
    let other : bytes_eq c.args.name.now (name_of c.index-files-i.result) ≡ false =
    ap (bytes_eq c.args.name.now) (sym c.as_str.ensures.value) ∙ sym c.eq.ensures ∙ c.if-eq.false in
    found_on _ c.args.files.now c.loop-i.i c.args.name.now c.loop-i-test.true c.index-files-i.is other c.loop-i.invariant

pub returns-clause-none : goal.returns-clause-none
returns-clause-none c = found_none c.args.files.now c.loop-i.i c.args.name.now c.loop-i-test.false c.loop-i.invariant

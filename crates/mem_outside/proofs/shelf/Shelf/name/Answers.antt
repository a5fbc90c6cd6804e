use Rattle.std.proofs.Common.{◌≡◌, ◌-◌, ◌∙◌, ℕ, List, ap, arith, drop, get_or, length, take}
use Rattle.pt_core.specs.Documents.{Document}
use Rattle.mem_outside.specs.declared.shelf.ShelfPlace.{ShelfPlace}
use Rattle.mem_outside.proofs.Places.{IfSome-is, open_place, place_is}
use Rattle.mem_outside.proofs.shelf.Shelf.name.Goals as goal

pub returns : goal.returns
returns c =
    let s = c.self.inside in
    let p = c.place_at-place.result in
    let end : c.len.result ≡ length s.bytes.items = omega (arith, c.len.ensures) in
    let place : p ≡ get_or s.places.items c.args.i (open_place s.start s.middle (length s.bytes.items)) =
    c.place_at-place.ensures ∙ ap (λ xs. get_or xs c.args.i (open_place s.start s.middle c.len.result)) c.deref.ensures.value
    ∙ ap (λ n. get_or s.places.items c.args.i (open_place s.start s.middle n)) end in
    rw (← c.self.view_is)
    (IfSome-is Document (List ℕ) (λ d. d.name) _ _ _ (ap (λ xs. take (p.middle - p.start) (drop p.start xs)) c.deref-2.ensures.value ∙ ap (λ (p : ShelfPlace). take (p.middle - p.start) (drop p.start s.bytes.items)) place)
    (place_is s.is_open s.start s.middle s.bytes.items s.places.items c.args.i))

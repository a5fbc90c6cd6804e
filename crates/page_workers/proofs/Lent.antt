-- Threads may look at one counter together: nothing can be done with its own seat through a `&`.
use denote.Builtin.{unit}
use denote.Param.Send.{IsSync, part_keyless, plain_send, plain_sync, struct_sync, recorded_sync, view_sync, shr_sync, shr_slice_sync}
use denote.RattleType.{RattleType}
use denote.Ref.{NamedLft, ShrRef}
use denote.Slice.{ShrSlice}
use denote.Struct.Struct.{Struct}
use denote.Struct.Tuple.{type_at, TupleAt}
use mir.Syntax.{Sym}
use mathlib.Core.List.{[], ◌∷◌}
use denote.Struct.Declared.{shape}
use Rattle.std.proofs.Common.{rules}
use Rattle.atomic_table.proofs.owned.Table.TheSendSync.{the_field_sync}
use Rattle.atomic_table.proofs.shared.Seat.TheSendSync.{the_send}
use Rattle.atomic_table.specs.contracts.shared.Seat as Seat
use Rattle.atomic_table.specs.contracts.owned.Table as Table
use Rattle.std.proofs.Crossing.{frees}
use Rattle.std.specs.contracts.alloc.Global as Global
use Rattle.std.specs.contracts.impls.GlobalAllocator.TheImpl as GlobalAllocator
use Rattle.page_workers.specs.contracts.hand.Fair as Fair
use Rattle.page_workers.specs.contracts.hand.FairTableRuleUnitHandUnit.TheImpl as FairRule
use Rattle.page_workers.specs.contracts.hand.Hand as Hand
use Rattle.page_workers.specs.contracts.claims.Claims as Claims
use Rattle.page_workers.specs.contracts.claims.Claims.TheInside as TheInside

seat_sync : IsSync (Seat.the_row unit Hand.the_row)
seat_sync = record { shared = λ d b o ν q. part_keyless (Seat.the_row unit Hand.the_row) (the_send unit Hand.the_row (plain_send _ _ _ _ _)) q d b o }

table_sync : IsSync (Table.the_field unit Hand.the_row unit Fair.the_row Global.the_row FairRule.ghosts GlobalAllocator.ghosts).row
table_sync = the_field_sync unit Hand.the_row unit Fair.the_row Global.the_row FairRule.ghosts GlobalAllocator.ghosts (plain_send _ _ _ _ _) (search rules) (search rules) frees

pub claims_sync : IsSync Claims.the_row
claims_sync =
    view_sync TheInside.the_row _ _ _ _ (recorded_sync (TheInside.the_field).row _ _ (TheInside.the_type).to_one
    (struct_sync (shape TheInside.the_type) (plain_sync _ _ _ _ _, (plain_sync _ _ _ _ _, (table_sync, (seat_sync, tt))))))

-- what a closure captured by reference may be shared where each captured value may
pub captured_sync : (name : Sym) (k l m n o : NamedLft) (A B C D E : RattleType) → IsSync A → IsSync B → IsSync C → IsSync D → IsSync E
    → IsSync (TupleAt name (ShrRef k.mir k.lft A ∷ ShrRef l.mir l.lft B ∷ ShrRef m.mir m.lft C ∷ ShrSlice n.mir n.lft D ∷ ShrRef o.mir o.lft E ∷ []))
captured_sync name k l m n o A B C D E a b c d e =
    let T = type_at name (ShrRef k.mir k.lft A ∷ ShrRef l.mir l.lft B ∷ ShrRef m.mir m.lft C ∷ ShrSlice n.mir n.lft D ∷ ShrRef o.mir o.lft E ∷ []) in
    recorded_sync (Struct (shape T)) _ _ T.to_one (struct_sync (shape T) (shr_sync _ _ A a, (shr_sync _ _ B b, (shr_sync _ _ C c, (shr_slice_sync _ _ D d, (shr_sync _ _ E e, tt))))))

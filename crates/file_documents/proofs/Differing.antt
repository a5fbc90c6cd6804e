-- Values that differ, told apart by themselves: among all that is known in a function that takes long.
use Rattle.std.proofs.Common.{◌≡◌, Ok, Err}
use Rattle.bitmap_input.specs.declared.fault.InFault.{InFault}
use Rattle.bitmap_input.specs.declared.fault.InFault.TheVariants as fault
use Rattle.run_output.specs.declared.status.Status.TheVariants as status
use Rattle.file_documents.specs.declared.pages.PagesEnd.TheVariants as why

pub ok_not_err : {A E : Type 0} (a : A) (e : E) → Ok a ≡ Err e → ⊥
ok_not_err a e is = cc

pub done_not_unwritten : status.Done ≡ status.Unwritten → ⊥
done_not_unwritten e = cc

pub out_not_unwritten : status.OutOfMemory ≡ status.Unwritten → ⊥
out_not_unwritten e = cc

pub unread_not_out : status.Unread ≡ status.OutOfMemory → ⊥
unread_not_out e = cc

pub done_not_out : status.Done ≡ status.OutOfMemory → ⊥
done_not_out e = cc

pub refused_not_done : status.Refused ≡ status.Done → ⊥
refused_not_done e = cc

pub refused_not_out : status.Refused ≡ status.OutOfMemory → ⊥
refused_not_out e = cc

pub end_not_read_fault : why.End ≡ why.Fault fault.ReadFault → ⊥
end_not_read_fault e = cc

pub trailing_not_read_fault : why.Trailing ≡ why.Fault fault.ReadFault → ⊥
trailing_not_read_fault e = cc

pub end_not_too_many : why.End ≡ why.TooMany → ⊥
end_not_too_many e = cc

pub trailing_not_too_many : why.Trailing ≡ why.TooMany → ⊥
trailing_not_too_many e = cc

pub fault_not_too_many : (f : InFault) → why.Fault f ≡ why.TooMany → ⊥
fault_not_too_many f e = cc

pub same_fault : (f g : InFault) → why.Fault f ≡ why.Fault g → f ≡ g
same_fault f g e = cc

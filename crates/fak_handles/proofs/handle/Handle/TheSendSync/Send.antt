-- What a handle owns is the same to every thread: its box may go to another, as the desk may.
use mir.Raw.{raw}
use base.Shift.{Keyless}
use denote.Memory.{lone}
use Rattle.fak_handles.proofs.Common.{Ptr, Global, Option, Some, None}
use denote.Struct.Struct.{exits_of}
use denote.Struct.Owning.{shape, fields, to}
use denote.Param.Send.{IsSend, AllSend, owning_send, struct_send, sendable}
use Rattle.std.proofs.Crossing as heap
use Rattle.std_alloc.proofs.SendSync.{quiet, lies}
use Rattle.std_heap.proofs.Global.TheSendSync as handle
use Rattle.fak_handles.specs.Handles.{handle_owns}
use Rattle.fak_handles.specs.contracts.desk.Desk as Desk
use Rattle.fak_handles.proofs.desk.Desk.TheSendSync.{the_send as desk}
use Rattle.fak_handles.specs.contracts.handle.Handle.{the_row, the_type}

owned : (a : Global) (p : Ptr) (k : Option Desk.the_row.Denot) → Keyless (handle_owns a p k)
owned a p None = λ _. tt
owned a p (Some x) = (lies Desk.the_row desk p x, heap.frees.frees a (raw (lone Desk.the_row.mir)) p)

pub send : IsSend the_row
send =
    let all : AllSend (fields the_type) = (search sendable, (handle.the_field_send, tt)) in
    owning_send the_type all (λ d. owned d.alloc d.at d.desk)
    (λ k. quiet (to the_type) (exits_of k (fields the_type)) ((struct_send (shape the_type) all).leaving k))

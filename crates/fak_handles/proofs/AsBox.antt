-- A desk's box, and what takes its place: a handle with a desk owns what a box of the desk owns.
use Rattle.fak_handles.proofs.Common.{impl, tnil, dnil, Slot, plain, Bx}
use mathlib.Core.List.{[]}
use Rattle.std_heap.specs.contracts.Global as Heap
use Rattle.std_heap.specs.contracts.GlobalAllocator.TheImpl.{ghosts, dict}
use Rattle.std_heap.proofs.Global.TheLaws as heap
use Rattle.fak_handles.specs.contracts.desk.Desk as Desk
use Rattle.fak_handles.proofs.desk.Desk.TheLaws as desk
use Rattle.fak_handles.specs.contracts.parts.Parts as Parts
use Rattle.fak_handles.specs.contracts.handle.Handle as Handle

abbrev pub E : Bx
E = record { row = Desk.the_row; laws = desk.the_row_laws; al = record { row = Heap.the_row; laws = heap.the_row_laws; g = ghosts; d = dict; drops = impl [] tnil dnil } }

abbrev pub FromParts : Slot 0
FromParts = plain (λ _. Parts.the_row Desk.the_row Heap.the_row ghosts)

abbrev pub FromHandle : Slot 0
FromHandle = plain (λ _. Handle.the_row)

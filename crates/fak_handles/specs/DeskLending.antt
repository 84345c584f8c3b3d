-- A handle lends its desk, and a padded handle the seat of its desk. Each ends with the last value of what it has lent.
use Rattle.std.specs.Prelude.{Option, Some, None}
use Rattle.std.specs.Borrow.{Fml, LendsIf, MutBor}
use Rattle.fak_handles.specs.declared.desk.Desk.{Desk}
use Rattle.fak_handles.specs.declared.handle.Handle.{Handle}
use Rattle.fak_handles.specs.declared.padded_handle.PaddedHandle.{PaddedHandle}
use Rattle.fak_handles.specs.contracts.desk.Desk as desk
use Rattle.fak_handles.specs.contracts.handle.Handle as handle

abbrev pub with_desk : Handle → Desk → Handle
with_desk h d = record h { desk = Some d }

abbrev pub LendsDesk : MutBor Handle → Option (MutBor Desk) → Fml
LendsDesk h r = LendsIf handle.the_row desk.the_row h r (with_desk h.now) h.now

abbrev pub with_desk_at : PaddedHandle → Desk → PaddedHandle
with_desk_at p d = record p { handle = with_desk p.handle d }

-- the padded handle whose desk has this seat in place of its own; one with no desk stays as it is
abbrev pub with_seat_at : {K : Type 0} → (Desk → K → Desk) → PaddedHandle → Option Desk → K → PaddedHandle
with_seat_at with_seat p None e = p
with_seat_at with_seat p (Some d) e = with_desk_at p (with_seat d e)

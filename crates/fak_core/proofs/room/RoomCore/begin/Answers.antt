use Rattle.fak_core.proofs.Common.{◌≡◌, length, reverse, refl, arith, Ok, subst, CoreSeat, common_steps}
use Rattle.std.proofs.lemmas.Option.{slice_get_read}
use Rattle.fak_core.specs.Room.{RoomState, begin_of, IsBegun, begun}
use Rattle.fak_core.proofs.RoomReached.{begin_is}
use Rattle.fak_core.proofs.RoomCalls.{sound_begun}
use Rattle.fak_core.proofs.room.RoomCore.begin.Goals as goal

abbrev state : goal.After-self-1 → RoomState
state c = record { bound = c.self.inside.bound; count = c.self.inside.count; seats = c.self.inside.seats.items; past = reverse c.self.inside.marks.items }

abbrev seat_now : goal.After-self-1 → CoreSeat
seat_now c = record { held = c.index-at.result.now.held; phase = c.in_ok-phase.phase }

begins : (c : goal.After-self-1) → begin_of (state c) c.args.seat c.args.call ≡ Ok (seat_now c)
begins c = grind (arith, common_steps, length, begin_is, slice_get_read)

pub invariant_of-self : goal.invariant_of-self
invariant_of-self c = sound_begun (state c) c.args.seat c.args.call (seat_now c) c.requires c.self.invariant (begins c)

pub returns-clause-ok : goal.returns-clause-ok
returns-clause-ok c =
    let P : RoomState → Type 0 = λ (s : RoomState). IsBegun s c.args.seat c.args.call (begun (state c) c.args.seat (seat_now c)) in
    subst P c.self.view_is (record { at = seat_now c; is = begins c; leaves = refl })

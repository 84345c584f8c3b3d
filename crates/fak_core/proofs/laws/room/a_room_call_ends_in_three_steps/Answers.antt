use Rattle.fak_core.specs.RoomProgress.{steps_left}
use Rattle.fak_core.proofs.Common.{inl, inr, arith, ap}
use Rattle.fak_core.proofs.RoomProgress.{three_left, call_ends}
use Rattle.fak_core.proofs.laws.room.a_room_call_ends_in_three_steps.Goals as goal

pub returns : goal.returns
returns c = record {
  claim = λ s events i seat at three. call_ends events s i seat at (omega (arith, three_left seat.phase, three));
  release = λ s events i seat d at late one. call_ends events s i seat at (elim late [
    | inl e ↦ omega (arith, ap steps_left e, one)
    | inr e ↦ omega (arith, ap steps_left e, one)
  ]);
}

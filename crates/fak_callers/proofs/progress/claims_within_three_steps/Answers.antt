use Rattle.std.proofs.Common.{inl, inr, arith}
use Rattle.fak_core.specs.Room.{opening}
use Rattle.fak_core.specs.RoomSchedule.{run}
use Rattle.fak_callers.proofs.progress.claims_within_three_steps.Goals as goal

pub returns : goal.returns
returns c = record {
  claim = λ bound seats i schedule events seat at three. c.a_room_call_ends_in_three_steps.ensures.claim (run schedule (opening bound seats)) events i seat at (omega (arith, three));
  release = λ bound seats i d schedule events seat at is one. c.a_room_call_ends_in_three_steps.ensures.release (run schedule (opening bound seats)) events i seat d at (inl is) (omega (arith, one));
  back = λ bound seats i d schedule events seat at is one. c.a_room_call_ends_in_three_steps.ensures.release (run schedule (opening bound seats)) events i seat d at (inr is) (omega (arith, one));
}

use Rattle.fak_queue.proofs.States.{reads_idle, reads_inserting, reads_deleting}
use Rattle.fak_queue.proofs.SeatParts.{seat_is}
use Rattle.fak_queue.proofs.parts.SeatParts.state.Goals as goal

pub returns-in-Idle-clause-read_off_seen : goal.returns-in-Idle-clause-read_off_seen
returns-in-Idle-clause-read_off_seen g c = reads_idle c.self.invariant (seat_is c.self.view_is) c.in-Idle.is

pub returns-in-TurnIn-clause-read_off_seen : goal.returns-in-TurnIn-clause-read_off_seen
returns-in-TurnIn-clause-read_off_seen g c = reads_inserting c.self.invariant (seat_is c.self.view_is) _ _ c.in-TurnIn.is

pub returns-in-TurnOut-clause-read_off_seen : goal.returns-in-TurnOut-clause-read_off_seen
returns-in-TurnOut-clause-read_off_seen g c = reads_deleting c.self.invariant (seat_is c.self.view_is) _ c.in-TurnOut.is

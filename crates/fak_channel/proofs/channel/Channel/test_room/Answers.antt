use Rattle.std.proofs.Common.{subst, Err}
use Rattle.fak_queue.specs.SleeperSeats.{TestsRoom}
use Rattle.fak_queue.specs.declared.found.NoRoom.{NoRoom}
use Rattle.fak_channel.specs.Moves.{sender_sleeps}
use Rattle.fak_channel.proofs.channel.Channel.test_room.Goals as goal

pub returns-in-Err-Full : goal.returns-in-Err-Full
returns-in-Err-Full g c =
    let tests = subst (λ (r : NoRoom). TestsRoom c.args.self.now.queue.size (Err r) c.args.seat.now.queue c.test_room_again.new.self) c.in-Err-Full.field-0-is c.in-Err-Full.ensures in
    sender_sleeps c.in-Err-Full.field-0-0 tests.0 tests.1 c.set_next-in-Err-Full.ensures

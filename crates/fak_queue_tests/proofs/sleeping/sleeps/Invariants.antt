use Rattle.std.specs.Prelude.{◌≡◌}
use Rattle.fak_channel_core.specs.SleeperSides.{Asleep}
use Rattle.fak_queue.specs.declared.role.Role.TheVariants.{Receiver}
use Rattle.fak_queue.specs.Queues.{IsIdleSeat}
use Rattle.fak_queue.specs.Sleepers.{duty_as}
use Rattle.fak_queue.specs.SleeperSeats.{account_of_seat}
use Rattle.fak_queue_tests.proofs.sleeping.sleeps.Given as goal

-- the seat is between two calls on the queue, and sleeps
abbrev pub invariant-loop : goal.invariant-loop
invariant-loop g l = IsIdleSeat l.queue.object l.seat.seat × ((duty_as Receiver (account_of_seat l.seat)).stage ≡ Asleep)

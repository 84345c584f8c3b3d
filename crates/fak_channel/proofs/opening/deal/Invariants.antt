use Rattle.std.proofs.Common.{◌≡◌}
use Rattle.fak_queue.specs.SleeperSeats.{fresh_sleeper, undealt_info}
use Rattle.fak_channel.specs.Undealt.{dealt}
use Rattle.fak_channel.proofs.opening.deal.Given as goal

-- the seats below this name are dealt, and the others are still to come
abbrev pub invariant-loop-name : goal.invariant-loop-name
invariant-loop-name g l = record {
  rest : l.rest ≡ undealt_info l.queue.object l._stint l._name;
  seats : l.seats.items ≡ dealt (fresh_sleeper l.queue.object l._stint) 0 l._name;
}

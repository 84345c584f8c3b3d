use Rattle.std.proofs.Common.{◌≡◌, ◌-◌}
use Rattle.fak_channel.specs.Undealt.{AreUndealt, fresh_channel_seats}
use Rattle.fak_channel.proofs.channel.Channel.seats.Given as goal

-- the seats below this name are dealt, and the others are still to come
abbrev pub invariant-loop-name : goal.invariant-loop-name
invariant-loop-name g l = record {
  rest : AreUndealt l.self l._stint l._name (l.ends - l._name) l.rest;
  seats : l.seats.items ≡ fresh_channel_seats l.self l._stint 0 l._name;
}

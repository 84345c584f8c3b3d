use Rattle.fak_channel.specs.Channels.{StaysAwake}
use Rattle.fak_channel.proofs.Runs.{Continues}
use Rattle.fak_channel.proofs.channel.Channel.finish_try.Given as goal

-- so far the call has gone on, and has set no bit
abbrev pub invariant-loop : goal.invariant-loop
invariant-loop g l = Continues l.self l.initial.seat l.seat × StaysAwake l.initial.seat.queue l.seat.queue

use Rattle.fak_channel.specs.ChannelSteps.{KeepsAwake}
use Rattle.fak_channel.proofs.Runs.{Continues}
use Rattle.fak_channel.proofs.channel.Channel.run.Given as goal

-- so far the call has gone on, and a try has set no bit
abbrev pub invariant-loop : goal.invariant-loop
invariant-loop g l = Continues l.self l.initial.seat l.seat × KeepsAwake l.initial.seat l.seat

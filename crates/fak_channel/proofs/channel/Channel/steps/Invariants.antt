use Rattle.fak_channel.specs.ChannelSteps.{HasGoneOn}
use Rattle.fak_channel.proofs.channel.Channel.steps.Given as goal

-- so far each step went on
abbrev pub invariant-loop-taken : goal.invariant-loop-taken
invariant-loop-taken g l = HasGoneOn l.self l.initial.seat l._taken l.seat

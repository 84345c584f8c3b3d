use Rattle.fak_callers.proofs.channel_ends.take_a_step_of_a_try.Goals as goal

pub returns-clause-awake : goal.returns-clause-awake
returns-clause-awake g c = c.a_try_sets_no_bit.ensures c.args.channel.now c.args.seat.now c.step.new.seat c.step.result c.requires.stands c.step.ensures.moves c.requires.is_try

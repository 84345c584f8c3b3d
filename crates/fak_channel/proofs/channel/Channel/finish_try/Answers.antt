use Rattle.std.proofs.Common.{refl, ◌∙◌}
use Rattle.fak_channel.proofs.Runs.{begins_run, stopped_asleep, stopped_ended, not_given_up, refused_all}
use Rattle.fak_channel.proofs.Trying.{same_notes, stays_on, gave_up_awake}
use Rattle.fak_channel.proofs.channel.Channel.finish_try.Goals as goal

pub loop-init : goal.loop-init
loop-init g c = (begins_run c.args.self.now c.args.seat.now c.requires.stands c.requires.in_call, same_notes c.args.seat.now.queue c.args.seat.now.queue refl)

pub run-requires-clause-stands : goal.run-requires-clause-stands
run-requires-clause-stands g c = c.loop.invariant.0.stands

pub run-requires-clause-in_call : goal.run-requires-clause-in_call
run-requires-clause-in_call g c = c.loop.invariant.0.in_call

pub returns-in-Ends-clause-awake : goal.returns-in-Ends-clause-awake
returns-in-Ends-clause-awake g c = stays_on c.args.seat.now.queue c.loop.seat.queue c.run.new.seat.queue c.loop.invariant.1 (c.run.ensures.awake (c.loop.invariant.0.tries ∙ c.requires.is_try))

pub returns-in-Ends-clause-call : goal.returns-in-Ends-clause-call
returns-in-Ends-clause-call g c = stopped_ended c.args.self.now c.args.seat.now c.loop.seat c.run.new.seat c.loop.invariant.0 c.in-Ends.outcome c.in-Ends.ensures.call

pub returns-in-Some-give_up-clause-awake : goal.returns-in-Some-give_up-clause-awake
returns-in-Some-give_up-clause-awake g c =
    let is_try = c.run.ensures.tries ∙ (c.loop.invariant.0.tries ∙ c.requires.is_try) in
    let ran = stays_on c.args.seat.now.queue c.loop.seat.queue c.run.new.seat.queue c.loop.invariant.1 (c.run.ensures.awake (c.loop.invariant.0.tries ∙ c.requires.is_try)) in
    stays_on c.args.seat.now.queue c.run.new.seat.queue c.give_up.new.seat.queue ran (gave_up_awake c.args.self.now c.run.new.seat c.give_up.new.seat is_try c.run.ensures.stands c.give_up.result c.give_up.ensures.moves)

pub returns-in-Some-give_up-clause-call : goal.returns-in-Some-give_up-clause-call
returns-in-Some-give_up-clause-call g c =
    let k = stopped_asleep c.args.self.now c.args.seat.now c.loop.seat c.run.new.seat c.loop.invariant.0 c.run.ensures.stands c.run.ensures.tries c.in-Sleeps.ensures.call in
    refused_all c.args.self.now c.args.seat.now c.run.new.seat c.give_up.new.seat c.in-Some-give_up.wish k.continues c.requires.is_try c.in-Some-give_up.ensures.call

pub loop-preserved : goal.loop-preserved
loop-preserved g c =
    let is_try = c.run.ensures.tries ∙ (c.loop.invariant.0.tries ∙ c.requires.is_try) in
    let k = stopped_asleep c.args.self.now c.args.seat.now c.loop.seat c.run.new.seat c.loop.invariant.0 c.run.ensures.stands c.run.ensures.tries c.in-Sleeps.ensures.call in
    let ran = stays_on c.args.seat.now.queue c.loop.seat.queue c.run.new.seat.queue c.loop.invariant.1 (c.run.ensures.awake (c.loop.invariant.0.tries ∙ c.requires.is_try)) in (
      not_given_up c.args.self.now c.args.seat.now c.run.new.seat c.give_up.new.seat k.continues c.give_up.ensures.stands c.in_default.ensures.after c.give_up.ensures.tries c.in_default.ensures.call,
      stays_on c.args.seat.now.queue c.run.new.seat.queue c.give_up.new.seat.queue ran (gave_up_awake c.args.self.now c.run.new.seat c.give_up.new.seat is_try c.run.ensures.stands c.give_up.result c.give_up.ensures.moves),
    )

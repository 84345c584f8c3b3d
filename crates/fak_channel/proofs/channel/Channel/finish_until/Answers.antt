use Rattle.fak_channel.proofs.Runs.{begins_run, stopped_asleep, stopped_ended, not_given_up, wakes_none}
use Rattle.fak_channel.proofs.channel.Channel.finish_until.Goals as goal

pub loop-init : goal.loop-init
loop-init g c = begins_run c.args.self.now c.args.seat.now c.requires.stands c.requires.in_call

pub run-requires-clause-stands : goal.run-requires-clause-stands
run-requires-clause-stands g c = c.loop.invariant.stands

pub run-requires-clause-in_call : goal.run-requires-clause-in_call
run-requires-clause-in_call g c = c.loop.invariant.in_call

pub returns-in-Ends-clause-call : goal.returns-in-Ends-clause-call
returns-in-Ends-clause-call g c = stopped_ended c.args.self.now c.args.seat.now c.loop.seat c.run.new.seat c.loop.invariant c.in-Ends.outcome c.in-Ends.ensures.call

pub returns-in-Some-rest_until-clause-call : goal.returns-in-Some-rest_until-clause-call
returns-in-Some-rest_until-clause-call g c =
    let k = stopped_asleep c.args.self.now c.args.seat.now c.loop.seat c.run.new.seat c.loop.invariant c.run.ensures.stands c.run.ensures.tries c.in-Sleeps.ensures.call in
    wakes_none c.args.self.now c.args.seat.now c.run.new.seat c.rest_until.new.seat c.in-Some-rest_until.wish k.continues c.requires.no_try c.in-Some-rest_until.ensures.call

pub loop-preserved : goal.loop-preserved
loop-preserved g c =
    let k = stopped_asleep c.args.self.now c.args.seat.now c.loop.seat c.run.new.seat c.loop.invariant c.run.ensures.stands c.run.ensures.tries c.in-Sleeps.ensures.call in
    not_given_up c.args.self.now c.args.seat.now c.run.new.seat c.rest_until.new.seat k.continues c.rest_until.ensures.stands c.in_default.ensures.after c.rest_until.ensures.tries c.in_default.ensures.call

use Rattle.fak_channel.proofs.Runs.{begins_run, goes_on, waits_on, wakes_on, sleeps_on, ended_idle, ended_stands, ended_tries, ended_all}
use Rattle.fak_channel.proofs.Trying.{begins_awake, moved_on}
use Rattle.fak_channel.specs.declared.standing.ChannelStep.TheVariants.{GoesOn, NotYet, Sleeps, Wakes, Ends}
use Rattle.fak_channel.proofs.channel.Channel.run.Goals as goal

pub loop-init : goal.loop-init
loop-init g c = (begins_run c.args.self.now c.args.seat.now c.requires.stands c.requires.in_call, begins_awake c.args.seat.now)

pub advance-requires-clause-stands : goal.advance-requires-clause-stands
advance-requires-clause-stands g c = c.loop.invariant.0.stands

pub advance-requires-clause-in_call : goal.advance-requires-clause-in_call
advance-requires-clause-in_call g c = c.loop.invariant.0.in_call

pub loop-preserved-in-GoesOn : goal.loop-preserved-in-GoesOn
loop-preserved-in-GoesOn g c = (goes_on c.args.self.now c.args.seat.now c.loop.seat c.advance.new.seat c.loop.invariant.0 c.in-GoesOn.ensures, moved_on c.args.self.now c.args.seat.now c.loop.seat c.advance.new.seat c.loop.invariant.0 c.loop.invariant.1 GoesOn c.in-GoesOn.ensures)

pub loop-preserved-in-NotYet : goal.loop-preserved-in-NotYet
loop-preserved-in-NotYet g c = (waits_on c.args.self.now c.args.seat.now c.loop.seat c.advance.new.seat c.loop.invariant.0 c.in-NotYet.ensures, moved_on c.args.self.now c.args.seat.now c.loop.seat c.advance.new.seat c.loop.invariant.0 c.loop.invariant.1 NotYet c.in-NotYet.ensures)

pub loop-preserved : goal.loop-preserved
loop-preserved g c = (wakes_on c.args.self.now c.args.seat.now c.loop.seat c.advance.new.seat c.loop.invariant.0 c.in-Wakes.wake.number c.in-Wakes.ensures, moved_on c.args.self.now c.args.seat.now c.loop.seat c.advance.new.seat c.loop.invariant.0 c.loop.invariant.1 (Wakes c.in-Wakes.wake.number) c.in-Wakes.ensures)

pub returns-in-Sleeps-clause-stands : goal.returns-in-Sleeps-clause-stands
returns-in-Sleeps-clause-stands g c = (sleeps_on c.args.self.now c.args.seat.now c.loop.seat c.advance.new.seat c.loop.invariant.0 c.in-Sleeps.ensures).continues.stands

pub returns-in-Sleeps-clause-tries : goal.returns-in-Sleeps-clause-tries
returns-in-Sleeps-clause-tries g c = (sleeps_on c.args.self.now c.args.seat.now c.loop.seat c.advance.new.seat c.loop.invariant.0 c.in-Sleeps.ensures).continues.tries

pub returns-in-Sleeps-clause-call : goal.returns-in-Sleeps-clause-call
returns-in-Sleeps-clause-call g c = let p = sleeps_on c.args.self.now c.args.seat.now c.loop.seat c.advance.new.seat c.loop.invariant.0 c.in-Sleeps.ensures in (p.asleep, p.continues.since)

pub returns-then-is_done-clause-stands : goal.returns-then-is_done-clause-stands
returns-then-is_done-clause-stands g c = ended_stands c.args.self.now c.args.seat.now c.loop.seat c.take_outcome.new.seat c.loop.invariant.0 c.take_outcome.result c.take_outcome.ensures

pub returns-then-is_done-clause-tries : goal.returns-then-is_done-clause-tries
returns-then-is_done-clause-tries g c = ended_tries c.args.self.now c.args.seat.now c.loop.seat c.take_outcome.new.seat c.loop.invariant.0 c.take_outcome.result c.take_outcome.ensures

pub returns-then-is_done-clause-call : goal.returns-then-is_done-clause-call
returns-then-is_done-clause-call g c = (ended_idle c.args.self.now c.args.seat.now c.loop.seat c.take_outcome.new.seat c.loop.invariant.0 c.take_outcome.result c.take_outcome.ensures, ended_all c.args.self.now c.args.seat.now c.loop.seat c.take_outcome.new.seat c.loop.invariant.0 c.take_outcome.result c.take_outcome.ensures)

pub returns-in-Sleeps-clause-awake : goal.returns-in-Sleeps-clause-awake
returns-in-Sleeps-clause-awake g c = moved_on c.args.self.now c.args.seat.now c.loop.seat c.advance.new.seat c.loop.invariant.0 c.loop.invariant.1 Sleeps c.in-Sleeps.ensures

pub returns-then-is_done-clause-awake : goal.returns-then-is_done-clause-awake
returns-then-is_done-clause-awake g c = moved_on c.args.self.now c.args.seat.now c.loop.seat c.take_outcome.new.seat c.loop.invariant.0 c.loop.invariant.1 (Ends c.take_outcome.result) c.take_outcome.ensures

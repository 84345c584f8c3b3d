use Rattle.fak_channel.proofs.CallSteps.{moved_since}
use Rattle.fak_channel.proofs.Following.{moved_follows}
use Rattle.fak_channel.proofs.Transitions.{moved_stands}
use Rattle.fak_channel.specs.declared.standing.ChannelStep.TheVariants.{GoesOn, NotYet, Sleeps, Wakes, Ends}
use Rattle.fak_channel.proofs.channel.Channel.step.Goals as goal

pub returns-in-GoesOn-clause-stands : goal.returns-in-GoesOn-clause-stands
returns-in-GoesOn-clause-stands g c = moved_stands c.args.self.now c.args.seat.now c.advance.new.seat c.requires.stands GoesOn c.in-GoesOn.ensures

pub returns-in-GoesOn-clause-after : goal.returns-in-GoesOn-clause-after
returns-in-GoesOn-clause-after g c = (moved_follows c.args.self.now c.args.seat.now c.advance.new.seat GoesOn c.requires.in_call c.in-GoesOn.ensures).after

pub returns-in-GoesOn-clause-call : goal.returns-in-GoesOn-clause-call
returns-in-GoesOn-clause-call g c = moved_since c.args.self.now c.args.seat.now c.advance.new.seat c.requires.stands GoesOn c.in-GoesOn.ensures

pub returns-in-NotYet-clause-stands : goal.returns-in-NotYet-clause-stands
returns-in-NotYet-clause-stands g c = moved_stands c.args.self.now c.args.seat.now c.advance.new.seat c.requires.stands NotYet c.in-NotYet.ensures

pub returns-in-NotYet-clause-after : goal.returns-in-NotYet-clause-after
returns-in-NotYet-clause-after g c = (moved_follows c.args.self.now c.args.seat.now c.advance.new.seat NotYet c.requires.in_call c.in-NotYet.ensures).after

pub returns-in-NotYet-clause-call : goal.returns-in-NotYet-clause-call
returns-in-NotYet-clause-call g c = moved_since c.args.self.now c.args.seat.now c.advance.new.seat c.requires.stands NotYet c.in-NotYet.ensures

pub returns-in-Sleeps-clause-stands : goal.returns-in-Sleeps-clause-stands
returns-in-Sleeps-clause-stands g c = moved_stands c.args.self.now c.args.seat.now c.advance.new.seat c.requires.stands Sleeps c.in-Sleeps.ensures

pub returns-in-Sleeps-clause-after : goal.returns-in-Sleeps-clause-after
returns-in-Sleeps-clause-after g c = (moved_follows c.args.self.now c.args.seat.now c.advance.new.seat Sleeps c.requires.in_call c.in-Sleeps.ensures).after

pub returns-in-Sleeps-clause-call : goal.returns-in-Sleeps-clause-call
returns-in-Sleeps-clause-call g c = moved_since c.args.self.now c.args.seat.now c.advance.new.seat c.requires.stands Sleeps c.in-Sleeps.ensures

pub returns-in-Wakes-clause-stands : goal.returns-in-Wakes-clause-stands
returns-in-Wakes-clause-stands g c = moved_stands c.args.self.now c.args.seat.now c.advance.new.seat c.requires.stands (Wakes c.in-Wakes.field-0.number) c.in-Wakes.ensures

pub returns-in-Wakes-clause-after : goal.returns-in-Wakes-clause-after
returns-in-Wakes-clause-after g c = (moved_follows c.args.self.now c.args.seat.now c.advance.new.seat (Wakes c.in-Wakes.field-0.number) c.requires.in_call c.in-Wakes.ensures).after

pub returns-in-Wakes-clause-call : goal.returns-in-Wakes-clause-call
returns-in-Wakes-clause-call g c = moved_since c.args.self.now c.args.seat.now c.advance.new.seat c.requires.stands (Wakes c.in-Wakes.field-0.number) c.in-Wakes.ensures

pub returns-then-is_done-clause-stands : goal.returns-then-is_done-clause-stands
returns-then-is_done-clause-stands g c = moved_stands c.args.self.now c.args.seat.now c.take_outcome.new.seat c.requires.stands (Ends c.take_outcome.result) c.take_outcome.ensures

pub returns-then-is_done-clause-after : goal.returns-then-is_done-clause-after
returns-then-is_done-clause-after g c = (moved_follows c.args.self.now c.args.seat.now c.take_outcome.new.seat (Ends c.take_outcome.result) c.requires.in_call c.take_outcome.ensures).after

pub returns-then-is_done-clause-call : goal.returns-then-is_done-clause-call
returns-then-is_done-clause-call g c = moved_since c.args.self.now c.args.seat.now c.take_outcome.new.seat c.requires.stands (Ends c.take_outcome.result) c.take_outcome.ensures

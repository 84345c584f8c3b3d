use Rattle.std.proofs.Common.{◌≡◌, arith, subst}
use Rattle.fak_channel.specs.ChannelSteps.{HasGoneOn, none, more, steps_at_once}
use Rattle.fak_channel.proofs.Runs.{gone_on}
use Rattle.fak_channel.proofs.channel.Channel.steps.Goals as goal

pub loop-taken-init : goal.loop-taken-init
loop-taken-init g c = none

pub step-requires-clause-stands : goal.step-requires-clause-stands
step-requires-clause-stands g c = (gone_on c.args.self.now c.args.seat.now c.loop-taken._taken c.loop-taken.seat c.requires.stands c.requires.in_call c.loop-taken.invariant).stands

pub step-requires-clause-in_call : goal.step-requires-clause-in_call
step-requires-clause-in_call g c = (gone_on c.args.self.now c.args.seat.now c.loop-taken._taken c.loop-taken.seat c.requires.stands c.requires.in_call c.loop-taken.invariant).in_call

pub loop-taken-preserved : goal.loop-taken-preserved
loop-taken-preserved g c = more c.loop-taken._taken c.loop-taken.seat c.step.new.seat c.loop-taken.invariant c.in-GoesOn.ensures.moves

pub returns-clause-stands : goal.returns-clause-stands
returns-clause-stands g c = (gone_on c.args.self.now c.args.seat.now c.loop-taken._taken c.loop-taken.seat c.requires.stands c.requires.in_call c.loop-taken.invariant).stands

pub returns-clause-after : goal.returns-clause-after
returns-clause-after g c = (gone_on c.args.self.now c.args.seat.now c.loop-taken._taken c.loop-taken.seat c.requires.stands c.requires.in_call c.loop-taken.invariant).in_call

pub returns-clause-call : goal.returns-clause-call
returns-clause-call g c = (gone_on c.args.self.now c.args.seat.now c.loop-taken._taken c.loop-taken.seat c.requires.stands c.requires.in_call c.loop-taken.invariant).since

pub returns-clause-runs : goal.returns-clause-runs
returns-clause-runs g c =
    let end = c.loop-taken.auto._taken-end in
    let last = c.loop-taken-test.false in
    let all : c.loop-taken._taken ≡ steps_at_once = omega (arith, end, last) in
    subst (λ n. HasGoneOn c.args.self.now c.args.seat.now n c.loop-taken.seat) all c.loop-taken.invariant

pub returns-in-NotYet-clause-call : goal.returns-in-NotYet-clause-call
returns-in-NotYet-clause-call g c = λ asked began since. c.in-NotYet.ensures.call asked began ((gone_on c.args.self.now c.args.seat.now c.loop-taken._taken c.loop-taken.seat c.requires.stands c.requires.in_call c.loop-taken.invariant).since asked began since)

pub returns-in-NotYet-clause-runs : goal.returns-in-NotYet-clause-runs
returns-in-NotYet-clause-runs g c = record { taken = c.loop-taken._taken; few = c.loop-taken-test.true; before = c.loop-taken.seat; steps = c.loop-taken.invariant; last = c.in-NotYet.ensures.moves }

pub returns-in-Sleeps-clause-call : goal.returns-in-Sleeps-clause-call
returns-in-Sleeps-clause-call g c = λ asked began since. c.in-Sleeps.ensures.call asked began ((gone_on c.args.self.now c.args.seat.now c.loop-taken._taken c.loop-taken.seat c.requires.stands c.requires.in_call c.loop-taken.invariant).since asked began since)

pub returns-in-Sleeps-clause-runs : goal.returns-in-Sleeps-clause-runs
returns-in-Sleeps-clause-runs g c = record { taken = c.loop-taken._taken; few = c.loop-taken-test.true; before = c.loop-taken.seat; steps = c.loop-taken.invariant; last = c.in-Sleeps.ensures.moves }

pub returns-in-Wakes-clause-call : goal.returns-in-Wakes-clause-call
returns-in-Wakes-clause-call g c = λ asked began since. c.in-Wakes.ensures.call asked began ((gone_on c.args.self.now c.args.seat.now c.loop-taken._taken c.loop-taken.seat c.requires.stands c.requires.in_call c.loop-taken.invariant).since asked began since)

pub returns-in-Wakes-clause-runs : goal.returns-in-Wakes-clause-runs
returns-in-Wakes-clause-runs g c = record { taken = c.loop-taken._taken; few = c.loop-taken-test.true; before = c.loop-taken.seat; steps = c.loop-taken.invariant; last = c.in-Wakes.ensures.moves }

pub returns-in-Ends-clause-call : goal.returns-in-Ends-clause-call
returns-in-Ends-clause-call g c = λ asked began since. c.in-Ends.ensures.call asked began ((gone_on c.args.self.now c.args.seat.now c.loop-taken._taken c.loop-taken.seat c.requires.stands c.requires.in_call c.loop-taken.invariant).since asked began since)

pub returns-in-Ends-clause-runs : goal.returns-in-Ends-clause-runs
returns-in-Ends-clause-runs g c = record { taken = c.loop-taken._taken; few = c.loop-taken-test.true; before = c.loop-taken.seat; steps = c.loop-taken.invariant; last = c.in-Ends.ensures.moves }

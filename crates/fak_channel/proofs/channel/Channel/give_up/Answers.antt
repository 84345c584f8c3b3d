use Rattle.std.proofs.Common.{rules, ◌≡◌, subst, sym}
use Rattle.fak_channel.specs.declared.standing.Next.{Next}
use Rattle.fak_channel.specs.declared.standing.Next.TheVariants.{Sleeping}
use Rattle.fak_channel.specs.Moves.{GivesUpAt}
use Rattle.fak_channel.proofs.GivingUp.{gave_up_sleep, sleep_at}
use Rattle.fak_channel.proofs.channel.Channel.give_up.Goals as goal

pub returns-in-Sleeping-clause-stands : goal.returns-in-Sleeping-clause-stands
returns-in-Sleeping-clause-stands g c =
    let is : c.args.seat.now.standing.next ≡ Sleeping c.in-Sleeping.wish = search rules in
    let gives = sleep_at c.args.self.now c.args.seat.now c.give_up_sleep.new.seat c.requires.stands c.in-Sleeping.wish is c.give_up_sleep.result c.give_up_sleep.ensures in
    (gave_up_sleep c.args.self.now c.args.seat.now c.give_up_sleep.new.seat c.requires.stands c.in-Sleeping.wish c.give_up_sleep.result is gives).stands

pub returns-in-Sleeping-clause-after : goal.returns-in-Sleeping-clause-after
returns-in-Sleeping-clause-after g c =
    let is : c.args.seat.now.standing.next ≡ Sleeping c.in-Sleeping.wish = search rules in
    let gives = sleep_at c.args.self.now c.args.seat.now c.give_up_sleep.new.seat c.requires.stands c.in-Sleeping.wish is c.give_up_sleep.result c.give_up_sleep.ensures in
    (gave_up_sleep c.args.self.now c.args.seat.now c.give_up_sleep.new.seat c.requires.stands c.in-Sleeping.wish c.give_up_sleep.result is gives).after

pub returns-in-Sleeping-clause-tries : goal.returns-in-Sleeping-clause-tries
returns-in-Sleeping-clause-tries g c =
    let is : c.args.seat.now.standing.next ≡ Sleeping c.in-Sleeping.wish = search rules in
    let gives = sleep_at c.args.self.now c.args.seat.now c.give_up_sleep.new.seat c.requires.stands c.in-Sleeping.wish is c.give_up_sleep.result c.give_up_sleep.ensures in
    (gave_up_sleep c.args.self.now c.args.seat.now c.give_up_sleep.new.seat c.requires.stands c.in-Sleeping.wish c.give_up_sleep.result is gives).tries

pub returns-in-Sleeping-clause-moves : goal.returns-in-Sleeping-clause-moves
returns-in-Sleeping-clause-moves g c =
    let is : c.args.seat.now.standing.next ≡ Sleeping c.in-Sleeping.wish = search rules in
    let gives = sleep_at c.args.self.now c.args.seat.now c.give_up_sleep.new.seat c.requires.stands c.in-Sleeping.wish is c.give_up_sleep.result c.give_up_sleep.ensures in
    subst (λ (x : Next g.row.T.Denot). GivesUpAt c.args.self.now c.args.seat.now c.give_up_sleep.new.seat x c.give_up_sleep.result) (sym is) gives

pub returns-in-Sleeping-clause-call : goal.returns-in-Sleeping-clause-call
returns-in-Sleeping-clause-call g c =
    let is : c.args.seat.now.standing.next ≡ Sleeping c.in-Sleeping.wish = search rules in
    let gives = sleep_at c.args.self.now c.args.seat.now c.give_up_sleep.new.seat c.requires.stands c.in-Sleeping.wish is c.give_up_sleep.result c.give_up_sleep.ensures in
    (gave_up_sleep c.args.self.now c.args.seat.now c.give_up_sleep.new.seat c.requires.stands c.in-Sleeping.wish c.give_up_sleep.result is gives).call

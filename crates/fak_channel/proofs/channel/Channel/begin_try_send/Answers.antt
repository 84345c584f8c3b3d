use Rattle.std.proofs.Common.{ap, sym, ◌∙◌, subst, refl, true}
use Rattle.fak_channel.specs.declared.standing.CallStanding.{CallStanding}
use Rattle.fak_channel.specs.declared.standing.Wish.TheVariants.{Send}
use Rattle.fak_channel.specs.Standings.{IsStepSeatOf, call_state}
use Rattle.fak_channel.proofs.Begun.{claim_begins, looked_ticket, try_sends}
use Rattle.fak_channel.proofs.channel.Channel.begin_try_send.Goals as goal

pub returns-clause-stands : goal.returns-clause-stands
returns-clause-stands g c =
    let looked = c.look_up-in_use.new.seat in
    let looks = c.look_up-in_use.ensures.looks in
    let idle = ap (λ (t : CallStanding g.row.T.Denot). call_state t.next) looks.same_call ∙ c.requires.idle in
    let ticket = looked_ticket c.args.self.now.queue.size c.args.seat.now looked looked looks c.left.result c.left.ensures c.if-left-eq0.false c.look_up-in_use.ensures.left in
    subst (λ (t : CallStanding g.row.T.Denot). IsStepSeatOf c.args.self.now (record { queue = looked.queue; standing = t })) (sym c.set_next.ensures) (claim_begins c.args.self.now looked.queue looked.standing c.look_up-in_use.ensures.stands idle true (Send c.args.item) ticket)

pub returns-clause-call : goal.returns-clause-call
returns-clause-call g c = try_sends c.args.self.now.queue.size c.args.seat.now c.look_up-in_use.new.seat _ c.look_up-in_use.ensures.looks c.args.item refl c.set_next.ensures

use Rattle.std.proofs.Common.{ap, sym, ◌∙◌}
use Rattle.fak_channel.specs.declared.standing.Next.TheVariants.{Claiming, Testing}
use Rattle.fak_channel.specs.declared.standing.Wish.TheVariants.{Send, Receive}
use Rattle.fak_channel.specs.Moves.{step_of}
use Rattle.fak_channel.proofs.Pieces.{next_at}
use Rattle.fak_channel.proofs.channel.Channel.go_on.Goals as goal

pub returns-in-Claiming-Send : goal.returns-in-Claiming-Send
returns-in-Claiming-Send g c =
    next_at c.args.self.now c.args.seat.now c.claim_room.new.seat (Claiming (Send c.in-Claiming-Send.item)) (step_of c.claim_room.result)
    (sym c.replace.ensures.value ∙ (c.in-Claiming-Send.is ∙ ap Claiming c.in-Claiming-Send.field-0-is)) c.claim_room.ensures

pub returns-in-Claiming-Receive : goal.returns-in-Claiming-Receive
returns-in-Claiming-Receive g c =
    next_at c.args.self.now c.args.seat.now c.claim_item.new.seat (Claiming Receive) (step_of c.claim_item.result)
    (sym c.replace.ensures.value ∙ (c.in-Claiming-Receive.is ∙ ap Claiming c.in-Claiming-Receive.field-0-is)) c.claim_item.ensures

pub returns-in-Testing-Send : goal.returns-in-Testing-Send
returns-in-Testing-Send g c =
    next_at c.args.self.now c.args.seat.now c.test_room.new.seat (Testing (Send c.in-Testing-Send.item)) (step_of c.test_room.result)
    (sym c.replace.ensures.value ∙ (c.in-Testing-Send.is ∙ ap Testing c.in-Testing-Send.field-0-is)) c.test_room.ensures

pub returns-in-Testing-Receive : goal.returns-in-Testing-Receive
returns-in-Testing-Receive g c =
    next_at c.args.self.now c.args.seat.now c.test_item.new.seat (Testing Receive) (step_of c.test_item.result)
    (sym c.replace.ensures.value ∙ (c.in-Testing-Receive.is ∙ ap Testing c.in-Testing-Receive.field-0-is)) c.test_item.ensures

use Rattle.std.proofs.Common.{subst}
use Rattle.fak_queue.specs.Refusals.{RefusesDeletion, RefusesDeletionBy}
use Rattle.fak_channel.specs.declared.standing.Next.TheVariants.{Checking, Claiming}
use Rattle.fak_channel.specs.declared.standing.Wish.TheVariants.{Receive}
use Rattle.fak_channel.specs.Moves.{item_granted, found_empty}
use Rattle.fak_channel.proofs.Pieces.{emptied_standing}
use Rattle.fak_channel.proofs.channel.Channel.claim_item.Goals as goal

pub returns-in-Ok : goal.returns-in-Ok
returns-in-Ok g c = item_granted c.in-Ok.field-0 (record { object = c.in-Ok.ensures.object; notes = c.in-Ok.ensures.notes }) c.in-Ok.ensures.state c.in-Ok.ensures.call c.set_next.ensures

pub returns-in-Err-Empty : goal.returns-in-Err-Empty
returns-in-Err-Empty g c =
    let refused = subst (RefusesDeletion c.args.self.now.queue.size c.args.seat.now.queue.seat c.claim_delete_noting.new.self.seat) c.in-Err-Empty.field-0-is c.in-Err-Empty.ensures.call in
    found_empty c.in-Err-Empty.field-0-0 c.claim_delete_noting.new.withdraws
    (record { calls = record { object = c.in-Err-Empty.ensures.object; notes = c.in-Err-Empty.ensures.notes }; idle = c.in-Err-Empty.ensures.state; within = refused.0; drawn = c.in-Err-Empty.ensures.left }) refused.1
    (subst (RefusesDeletionBy c.claim_delete_noting.new.withdraws c.args.self.now.queue.size c.args.seat.now.queue.seat c.claim_delete_noting.new.self.seat) c.in-Err-Empty.field-0-is c.in-Err-Empty.ensures.withdraws)
    (emptied_standing c.claim_delete_noting.new.withdraws c.args.self.now.ends c.args.seat.now.standing c.owe_for_item_if.new.self c.set_next-in-Err-Empty.new.self (Claiming Receive) Checking c.set_next-in-Err-Empty.ensures c.owe_for_item_if.ensures)

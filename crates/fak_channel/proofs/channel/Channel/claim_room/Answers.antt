use Rattle.std.proofs.Common.{subst}
use Rattle.fak_queue.specs.Refusals.{RefusesInsertion, RefusesInsertionBy}
use Rattle.fak_channel.specs.declared.standing.Next.TheVariants.{Claiming}
use Rattle.fak_channel.specs.declared.standing.Wish.TheVariants.{Send}
use Rattle.fak_channel.specs.Moves.{room_granted, found_full}
use Rattle.fak_channel.proofs.Pieces.{refused_standing}
use Rattle.fak_channel.proofs.channel.Channel.claim_room.Goals as goal

pub returns-in-Ok : goal.returns-in-Ok
returns-in-Ok g c = room_granted c.in-Ok.field-0 (record { object = c.in-Ok.ensures.object; notes = c.in-Ok.ensures.notes }) c.in-Ok.ensures.state c.in-Ok.ensures.call c.set_next.ensures

pub returns-in-Err-Full : goal.returns-in-Err-Full
returns-in-Err-Full g c =
    let refused = subst (RefusesInsertion c.args.self.now.queue.size c.args.item c.args.seat.now.queue.seat c.claim_insert_noting.new.self.seat) c.in-Err-Full.field-0-is c.in-Err-Full.ensures.call in
    found_full c.in-Err-Full.field-0-0 c.claim_insert_noting.new.withdraws
    (record { calls = record { object = c.in-Err-Full.ensures.object; notes = c.in-Err-Full.ensures.notes }; idle = c.in-Err-Full.ensures.state; within = refused.1; drawn = c.in-Err-Full.ensures.left }) refused.2
    (subst (RefusesInsertionBy c.claim_insert_noting.new.withdraws c.args.self.now.queue.size c.args.seat.now.queue.seat c.claim_insert_noting.new.self.seat) c.in-Err-Full.field-0-is c.in-Err-Full.ensures.withdraws)
    (refused_standing c.claim_insert_noting.new.withdraws c.args.self.now.ends c.args.seat.now.standing c.owe_for_room_if.new.self c.set_next-in-Err-Full.new.self (Claiming (Send c.args.item)) c.refused-next.result c.args.item c.in-Err-Full.item c.set_next-in-Err-Full.ensures c.refused-next.ensures c.owe_for_room_if.ensures refused.0)

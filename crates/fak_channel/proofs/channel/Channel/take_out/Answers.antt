use Rattle.std.proofs.Common.{ap, ◌∙◌}
use Rattle.fak_queue.specs.Queues.{state_of}
use Rattle.fak_channel.specs.declared.standing.Next.TheVariants.{Ending}
use Rattle.fak_channel.specs.declared.standing.Outcome.TheVariants.{Received}
use Rattle.fak_channel.specs.Moves.{with_next}
use Rattle.fak_channel.specs.Standings.{ticket_in}
use Rattle.fak_channel.proofs.channel.Channel.take_out.Goals as goal

pub returns-in-Some : goal.returns-in-Some
returns-in-Some g c = record {
  item = c.in-Some.item;
  calls = record { object = c.in-Some.ensures.object; notes = c.in-Some.ensures.notes };
  idle = c.in-Some.ensures.state;
  takes = (c.in-Some.ensures.call (ticket_in (state_of c.args.seat.now.queue.seat)) c.requires.deleting).1;
  stands = c.set_next-in-Some.ensures ∙ ap (with_next (Ending (Received c.in-Some.item))) c.owe_for_room.ensures;
}

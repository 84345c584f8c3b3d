use Rattle.std.proofs.Common.{ap, ◌∙◌}
use Rattle.fak_queue.specs.Queues.{state_of}
use Rattle.fak_channel.specs.declared.standing.Next.TheVariants.{Ending}
use Rattle.fak_channel.specs.declared.standing.Outcome.TheVariants.{Sent}
use Rattle.fak_channel.specs.Moves.{with_next}
use Rattle.fak_channel.specs.Standings.{ticket_in}
use Rattle.fak_channel.proofs.channel.Channel.fill.Goals as goal

pub returns-in-None : goal.returns-in-None
returns-in-None g c = record {
  calls = record { object = c.in-None.ensures.object; notes = c.in-None.ensures.notes };
  same = c.in-None.ensures.state;
  waits = c.in-None.ensures.call (ticket_in (state_of c.args.seat.now.queue.seat)) c.requires.inserting;
  stands = c.set_next.ensures;
}

pub returns-in-Some : goal.returns-in-Some
returns-in-Some g c = record {
  calls = record { object = c.in-Some.ensures.object; notes = c.in-Some.ensures.notes };
  idle = c.in-Some.ensures.state;
  fills = (c.in-Some.ensures.call (ticket_in (state_of c.args.seat.now.queue.seat)) c.requires.inserting).1;
  stands = c.set_next-in-Some.ensures ∙ ap (with_next (Ending Sent)) c.owe_for_item.ensures;
}

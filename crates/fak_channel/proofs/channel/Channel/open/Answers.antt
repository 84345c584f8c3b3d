use Rattle.fak_channel.proofs.Deals.{dealt_are_of}
use Rattle.fak_channel.proofs.channel.Channel.open.Goals as goal

pub returns-in-Ok-seats : goal.returns-in-Ok-seats
returns-in-Ok-seats g c =
    let opened = c.in-Ok.ensures in
    (opened.0, opened.1, opened.2, c.in-Ok-seats.ensures, dealt_are_of c.in-Ok.opened.0 opened.3.fresh c.args.stint c.args.ends c.in-Ok-seats.seats.items c.in-Ok-seats.ensures)

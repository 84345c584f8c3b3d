use Rattle.fak_channel.specs.Moves.{no_item_yet}
use Rattle.fak_channel.proofs.channel.Channel.test_item.Goals as goal

pub returns-in-Err : goal.returns-in-Err
returns-in-Err g c = no_item_yet c.in-Err.field-0 c.in-Err.ensures.0 c.in-Err.ensures.1 c.set_next-in-Err.ensures

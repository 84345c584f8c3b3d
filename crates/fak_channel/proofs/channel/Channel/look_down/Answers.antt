use Rattle.std.proofs.Common.{refl}
use Rattle.fak_channel.proofs.Marking.{made_first}
use Rattle.fak_channel.proofs.Observed.{looked_stands}
use Rattle.fak_channel.proofs.channel.Channel.look_down.Goals as goal

pub returns-clause-stands : goal.returns-clause-stands
returns-clause-stands g c = looked_stands c.args.self.now c.args.seat.now.standing c.args.seat.now.queue c.items_ready.new.self c.requires c.items_ready.ensures.object c.items_ready.ensures.notes c.items_ready.ensures.state c.items_ready.ensures.left c.items_ready.ensures.makes

pub returns-clause-looks : goal.returns-clause-looks
returns-clause-looks g c = record { looks = made_first c.items_ready.ensures.makes; same_notes = c.items_ready.ensures.notes.notes; same_call = refl }

use Rattle.std.proofs.Common.{refl}
use Rattle.fak_channel.proofs.Marking.{made_first}
use Rattle.fak_channel.proofs.Observed.{looked_stands}
use Rattle.fak_channel.proofs.channel.Channel.look_up.Goals as goal

pub returns-clause-stands : goal.returns-clause-stands
returns-clause-stands g c = looked_stands c.args.self.now c.args.seat.now.standing c.args.seat.now.queue c.cells_in_use.new.self c.requires c.cells_in_use.ensures.object c.cells_in_use.ensures.notes c.cells_in_use.ensures.state c.cells_in_use.ensures.left c.cells_in_use.ensures.makes

pub returns-clause-looks : goal.returns-clause-looks
returns-clause-looks g c = record { looks = made_first c.cells_in_use.ensures.makes; same_notes = c.cells_in_use.ensures.notes.notes; same_call = refl }

use Rattle.fak_channel.proofs.Borrowing.{still}
use Rattle.fak_channel.proofs.shelves.Shelves.take_idle.Goals as goal

pub invariant_of-self : goal.invariant_of-self
invariant_of-self g c = record { nobody_waits_beside_an_idle_end = still c.args.self.now.idle c.take_off.new.shelves c.take_off.ensures.still_none c.args.self.now.nobody_waits_beside_an_idle_end }

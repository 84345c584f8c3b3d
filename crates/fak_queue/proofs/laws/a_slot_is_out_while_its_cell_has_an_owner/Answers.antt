use Rattle.fak_queue.proofs.Slots.{out_exactly}
use Rattle.fak_queue.proofs.laws.a_slot_is_out_while_its_cell_has_an_owner.Goals as goal

pub returns : goal.returns
returns g c = λ key s shown cell low. out_exactly key.size shown.core s.homes cell (shown.encoded.slots_are cell low)

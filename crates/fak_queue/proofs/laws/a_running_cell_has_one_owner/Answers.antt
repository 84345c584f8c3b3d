use Rattle.fak_queue.proofs.Common.{alone, kept}
use Rattle.fak_queue.proofs.laws.a_running_cell_has_one_owner.Goals as goal

pub returns : goal.returns
returns g c = λ key s shown a b cell. alone key.size shown.core a b cell shown.encoded.some_cell (kept key.size shown.core shown.reached.reached shown.encoded.some_cell)

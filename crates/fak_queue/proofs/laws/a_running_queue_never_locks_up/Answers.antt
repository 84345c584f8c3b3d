use Rattle.fak_core.proofs.QueueProgress.{some_moves, some_holder_moves, ticketless_unblocked, unblocked_moves}
use Rattle.fak_queue.proofs.Common.{kept}
use Rattle.fak_queue.proofs.laws.a_running_queue_never_locks_up.Goals as goal

pub returns : goal.returns
returns g c = record {
  call = λ key s shown a n.
      let z = shown.encoded.some_cell in
      some_moves key.size key.seats shown.core a z (kept key.size shown.core shown.reached.reached z) shown.reached.beyond n;
  cell = λ key s shown a k h.
      let z = shown.encoded.some_cell in
      some_holder_moves key.size key.seats shown.core a k z (kept key.size shown.core shown.reached.reached z) shown.reached.beyond h;
  ticketless = λ key s shown a n un.
      let z = shown.encoded.some_cell in
      unblocked_moves key.size shown.core a z (kept key.size shown.core shown.reached.reached z) (ticketless_unblocked key.size shown.core.past (shown.core.phase a) n un);
}

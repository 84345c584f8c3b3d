use Rattle.fak_core.proofs.Common.{reached}
use Rattle.fak_core.proofs.QueueReached.{kept_reached}
use Rattle.fak_core.proofs.QueueProgress.{someone_unblocked, unblocked_at, unblocked_moves, ticketless_unblocked, some_moves, some_holder_moves}
use Rattle.fak_core.proofs.laws.progress.a_queue_never_locks_up.Goals as goal

pub returns : goal.returns
returns g c = record {
  call = λ size schedule s z n.
      let st = reached size schedule in
      let K = kept_reached size schedule z in
      let t = someone_unblocked size st s z K n in
      (t.0, unblocked_moves size st t.0 z K t.1);
  cell = λ size schedule s k z h.
      let st = reached size schedule in
      let K = kept_reached size schedule z in
      let t = unblocked_at size st s k z K h in
      (t.0, t.2, unblocked_moves size st t.0 z K t.1);
  ticketless = λ size schedule s z n un.
      let st = reached size schedule in
      unblocked_moves size st s z (kept_reached size schedule z) (ticketless_unblocked size st.past (st.phase s) n un);
  among = λ size seats schedule s z idle n. some_moves size seats (reached size schedule) s z (kept_reached size schedule z) idle n;
  holders = λ size seats schedule s c z idle h. some_holder_moves size seats (reached size schedule) s c z (kept_reached size schedule z) idle h;
}

use Rattle.fak_callers.proofs.progress.never_all_wait.Goals as goal

pub returns : goal.returns
returns g c = record {
  call = λ size schedule s z is_open stuck. let moves = c.a_queue_never_locks_up.ensures.call size schedule s z is_open in moves.1 (stuck moves.0);
  cell = λ size schedule s k z holds stuck. let moves = c.a_queue_never_locks_up.ensures.cell size schedule s k z holds in moves.2 (stuck moves.0 moves.1);
  own = λ size schedule s z is_open stuck none. c.a_queue_never_locks_up.ensures.ticketless size schedule s z is_open none stuck;
}

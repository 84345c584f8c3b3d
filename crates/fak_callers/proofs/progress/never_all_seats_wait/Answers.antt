use Rattle.fak_callers.proofs.progress.never_all_seats_wait.Goals as goal

pub returns : goal.returns
returns g c = record {
  call = λ size seats schedule s z idle is_open stuck. let moves = c.a_queue_never_locks_up.ensures.among size seats schedule s z idle is_open in moves.2 (stuck moves.0 moves.1);
  cell = λ size seats schedule s k z idle holds stuck. let moves = c.a_queue_never_locks_up.ensures.holders size seats schedule s k z idle holds in moves.3 (stuck moves.0 moves.1 moves.2);
}

use Rattle.fak_callers.proofs.cells.never_all_stuck.Goals as goal

pub returns : goal.returns
returns g c = record {
  call = λ key s shown a is_open stuck.
      let moves = c.a_running_queue_never_locks_up.ensures.call key s shown a is_open in
      moves.2 (stuck moves.0 moves.1);
  cell = λ key s shown a cell holds stuck.
      let moves = c.a_running_queue_never_locks_up.ensures.cell key s shown a cell holds in
      moves.3 (stuck moves.0 moves.1 moves.2);
  own = λ key s shown a is_open stuck none. c.a_running_queue_never_locks_up.ensures.ticketless key s shown a is_open none stuck;
}

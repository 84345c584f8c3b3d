use Rattle.std.specs.Prelude.{Some, None}
use Rattle.fak_queue.proofs.admission.admit_insertion.Given as goal

-- the steps of this call on this queue
abbrev pub ghosts-test_up : goal.ghosts-test_up
ghosts-test_up g a = record { seats = a.words.now.key.seats; item = Some a._item.now }

abbrev pub ghosts-add_up : goal.ghosts-add_up
ghosts-add_up g a = record { seats = a.words.now.key.seats; item = None }

abbrev pub ghosts-back_up : goal.ghosts-back_up
ghosts-back_up g a = record { seats = a.words.now.key.seats; item = None }

abbrev pub ghosts-ticket_in : goal.ghosts-ticket_in
ghosts-ticket_in g a = record { seats = a.words.now.key.seats; item = None }

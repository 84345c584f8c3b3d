use Rattle.std.specs.Prelude.{None}
use Rattle.fak_queue.proofs.admission.admit_deletion.Given as goal

-- the steps of this call on this queue
abbrev pub ghosts-test_low : goal.ghosts-test_low
ghosts-test_low g a = record { seats = a.words.now.key.seats; item = None }

abbrev pub ghosts-sub_low : goal.ghosts-sub_low
ghosts-sub_low g a = record { seats = a.words.now.key.seats; item = None }

abbrev pub ghosts-back_low : goal.ghosts-back_low
ghosts-back_low g a = record { seats = a.words.now.key.seats; item = None }

abbrev pub ghosts-ticket_out : goal.ghosts-ticket_out
ghosts-ticket_out g a = record { seats = a.words.now.key.seats; item = None }

use Rattle.fak_queue.specs.Bursts.{tickets_of}
use Rattle.fak_queue.proofs.bursts.emptying.end_taken.Given as goal

-- these names with their tickets
abbrev pub ghosts-end_out_burst : goal.ghosts-end_out_burst
ghosts-end_out_burst g a = record { seats = a.words.now.key.seats; items = tickets_of a.names.now a._first; rests = a._rests }

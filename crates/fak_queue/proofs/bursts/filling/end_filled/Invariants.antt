use Rattle.fak_queue.specs.Bursts.{tickets_of}
use Rattle.fak_queue.proofs.bursts.filling.end_filled.Given as goal

-- these names with their tickets
abbrev pub ghosts-end_burst : goal.ghosts-end_burst
ghosts-end_burst g a = record { seats = a.words.now.key.seats; items = tickets_of a.names.now a._first; rests = a._rests }

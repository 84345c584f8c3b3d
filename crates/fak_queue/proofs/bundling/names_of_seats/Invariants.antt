use Rattle.std.specs.Prelude.{take}
use Rattle.fak_queue.specs.Bundling.{name_of}
use Rattle.fak_queue.proofs.Common.{◌≡◌, map}
use Rattle.fak_queue.proofs.bundling.names_of_seats.Given as goal

-- the names of the seats before this one
abbrev pub invariant-loop-seat : goal.invariant-loop-seat
invariant-loop-seat g l = l.names.items ≡ map name_of (take l.seat-index l.seats)

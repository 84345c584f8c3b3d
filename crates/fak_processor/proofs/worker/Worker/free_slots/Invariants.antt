use Rattle.fak_processor.proofs.Common.{numbers_from, GoesTo, Begins, empty_lists, []}
use Rattle.fak_processor.proofs.worker.Worker.free_slots.Given as goal

-- the slots below this one are free
abbrev pub invariant-loop-number : goal.invariant-loop-number
invariant-loop-number g l =
    Begins g.K.Run.script [] [] (numbers_from 0 l.number) [] l.initial.self l.self
    × (GoesTo g.K.Run.script l.initial.self (empty_lists g.K.Run.script) → GoesTo g.K.Run.script l.self (record (empty_lists g.K.Run.script) { free_slots = numbers_from 0 l.number }))

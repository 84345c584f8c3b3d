use Rattle.fak_processor.proofs.Common.{begun_from, numbers_from, begun_names, GoesTo, Begins, empty_lists, ◌≡◌, ◌≤◌, ◌-◌, [], length, take}
use Rattle.fak_processor.proofs.worker.Worker.start_processes.Given as goal

-- the processes so far are started
abbrev pub invariant-loop-program : goal.invariant-loop-program
invariant-loop-program g l =
    (l.number ≡ l.program-index)
    × (l.program-index ≤ length l.program-items)
    × Begins g.K.Run.script [] [] [] (begun_names 0 (take l.program-index l.program-items)) l.initial.self l.self
    × (GoesTo g.K.Run.script l.initial.self (record (empty_lists g.K.Run.script) { free_slots = numbers_from 0 g.K.Run.script.slots })
    → GoesTo g.K.Run.script l.self (record (empty_lists g.K.Run.script) { ready = begun_from 0 (take l.program-index l.program-items); free_slots = numbers_from l.number (g.K.Run.script.slots - l.number) }))

use Rattle.fak_processor.proofs.Common.{GoesTo, IsAlone, lists_of, FindsNoSlot}
use Rattle.fak_processor.proofs.worker.Worker.take_first_slot.Given as goal

-- so far no slot was free
abbrev pub invariant-loop : goal.invariant-loop
invariant-loop g l =
    ((goal.iterator-loop g).can_next l.iterator' × (goal.iterator-loop g).is_finite l.iterator')
    × FindsNoSlot g.K.Run.script l.initial.self l.self
    × (IsAlone g.K.Run.script l.initial.self → GoesTo g.K.Run.script l.self (lists_of g.K.Run.script l.initial.self))

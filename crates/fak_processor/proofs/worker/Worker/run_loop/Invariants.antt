use Rattle.fak_processor.proofs.Common.{◌≡◌, turn_over, IsReached, lists_of, [], Moves, hand_of}
use Rattle.fak_processor.specs.Asking.{AreAsked, looks_of}
use Rattle.fak_processor.proofs.worker.Worker.run_loop.Given as goal

abbrev pub invariant-loop : goal.invariant-loop
invariant-loop g l =
    ((goal.iterator-loop g).can_next l.iterator' × (goal.iterator-loop g).is_finite l.iterator')
    × Moves g.K.Run.script [] (hand_of l.running) l.initial.self l.self
    × (IsReached g.K.Run.script l.initial.self (turn_over (lists_of g.K.Run.script l.initial.self)) → IsReached g.K.Run.script l.self (record { running = l.running; lists = lists_of g.K.Run.script l.self }))
    × (l.looks.processor ≡ g.P.Station.number)
    × AreAsked (g.G.Gate.answers l.gate g.P.Station.number) (looks_of l.initial.self.ready) l.self.ready l.looks.made

use Rattle.std.specs.Prelude.{◌≡◌, ◌++◌, length}
use Rattle.fak_handles.proofs.bundle.opening.next_seats.Given as goal

-- these seats were taken off the front
abbrev pub invariant-loop : goal.invariant-loop
invariant-loop l = (length l.own.items ≡ l.counter) × (l.fn.rest.rest.items ≡ l.own.items ++ l.rest.rest.items)

use Rattle.std.specs.Prelude.{pos, ◌≤ℤ◌}
use Rattle.std.proofs.Common.{sym, subst}
use Rattle.fak_handles.proofs.Observed.{cells_least}
use Rattle.fak_handles.proofs.queue.seat.QueueDesk.cells_in_use.Goals as goal

pub returns-clause-least : goal.returns-clause-least
returns-clause-least c =
    let some = cells_least c.deref.result.now.size c.cells_in_use.new.seat.seen c.cells_in_use.ensures.makes.lawful in
    subst (λ n. pos 0 ≤ℤ n) (sym c.cells_in_use.ensures.count) some

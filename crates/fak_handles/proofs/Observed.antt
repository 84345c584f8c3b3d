-- The number of cells in use is at least 0.
use Rattle.std.specs.Prelude.{ℕ, List, pos, ◌≤ℤ◌, reverse}
use Rattle.std.proofs.Common.{arith}
use Rattle.std.proofs.lemmas.Int.{ints}
use Rattle.fak_model.specs.declared.queue.Mark.{Mark}
use Rattle.fak_model.specs.Queue.{IsQueueHistory, upper_count, upper_raise, upper_drop}
use Rattle.fak_model.proofs.QueueBackwards.{count_reverse}
use Rattle.fak_model.proofs.QueueCounts.{seat_bound, seats_bounded, upper_range}
use Rattle.fak_model.proofs.QueueLiteral.{to_past}

pub cells_least : {T : Type 0} (size : ℕ) (h : List (Mark T)) → IsQueueHistory size h → pos 0 ≤ℤ upper_count h
cells_least size h law =
    let past = reverse h in
    let range = upper_range size (seat_bound past) past (to_past size h law) (seats_bounded past) in
    let raised = count_reverse upper_raise h in
    let dropped = count_reverse upper_drop h in
    omega (arith, ints)

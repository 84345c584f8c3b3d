use Rattle.std.proofs.Common.{◌≡◌, ◌+◌, length}
use Rattle.std.specs.List.{sum_by}
use Rattle.std.specs.Vec.Iter.{into_iter_items}
use Rattle.fak_queue.specs.Queues.{IsIdleSeat}
use Rattle.fak_queue.specs.Sums.{put_by, got_by}
use Rattle.example_lines.specs.Lines.{one, bytes}
use Rattle.example_lines.proofs.send.Given as goal

-- what was put in and what is to come are all lines
abbrev pub invariant-loop-line : goal.invariant-loop-line
invariant-loop-line g l =
    let to_come = into_iter_items l.line-iterator in
    IsIdleSeat l.queue.object l.seat
    × (put_by one l.seat + length to_come ≡ length l.fn.lines.items)
    × (put_by bytes l.seat + sum_by bytes to_come ≡ sum_by bytes l.fn.lines.items)
    × (got_by one l.seat ≡ 0)
    × (got_by bytes l.seat ≡ 0)

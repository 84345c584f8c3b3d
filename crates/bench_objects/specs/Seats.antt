-- Seats that were just dealt.
use Rattle.std.specs.Prelude.{List}
use Rattle.std.specs.List.{All}
use Rattle.fak_model.specs.declared.queue.Mark.{Mark}
use Rattle.fak_model.specs.Calls.{ObjectId, SeatInfo}
use Rattle.fak_queue.specs.Queues.{IsIdleSeat}
use Rattle.fak_files.specs.Calls.{FileSeatInfo, IsFreeSeatOf}

-- each seat belongs to the queue, and is between two calls
abbrev pub AreIdleSeats : {T : Type 0} → ObjectId → List (SeatInfo (Mark T)) → Type 0
AreIdleSeats object seats = All (IsIdleSeat object) seats

-- each seat belongs to the file table, and holds nothing
abbrev pub AreFree : ObjectId → List FileSeatInfo → Type 0
AreFree object seats = All (IsFreeSeatOf object) seats

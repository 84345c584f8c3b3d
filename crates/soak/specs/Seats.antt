-- Seats that are dealt to threads and come back.
use Rattle.std.specs.Prelude.{◌≡◌, List}
use Rattle.std.specs.List.{All}
use Rattle.fak_model.specs.declared.queue.Mark.{Mark}
use Rattle.fak_model.specs.Calls.{ObjectId, SeatInfo}
use Rattle.fak_count.specs.Seats.{IsSeatOf}
use Rattle.fak_queue.specs.Queues.{IsIdleSeat}
use Rattle.fak_sem.specs.Semaphores.{SemId, SemSeatInfo}
use Rattle.fak_files.specs.Calls.{FileSeatInfo, IsFreeSeatOf}

-- each seat belongs to the queue, and is between two calls
abbrev pub AreIdleSeats : {T : Type 0} → ObjectId → List (SeatInfo (Mark T)) → Type 0
AreIdleSeats object seats = All (IsIdleSeat object) seats

-- each seat belongs to the semaphore
abbrev pub AreSeatsOf : {T : Type 0} → SemId → List (SemSeatInfo T) → Type 0
AreSeatsOf {T} object seats = All (λ (s : SemSeatInfo T). s.object ≡ object) seats

-- each seat belongs to the room, or to the credit
abbrev pub AreCountsOf : {M : Type 0} → ObjectId → List (SeatInfo M) → Type 0
AreCountsOf object seats = All (IsSeatOf object) seats

-- each seat belongs to the file table, and holds nothing
abbrev pub AreFree : ObjectId → List FileSeatInfo → Type 0
AreFree object seats = All (IsFreeSeatOf object) seats

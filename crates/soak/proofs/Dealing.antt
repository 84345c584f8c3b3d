-- Seats that were just dealt belong to their object, and no call of them is open.
use Rattle.std.proofs.Common.{◌≡◌, ℕ, zero, suc, List, [], refl, subst, sym}
use Rattle.std.proofs.lemmas.List.Elements.{All-nil, All-cons}
use Rattle.fak_model.specs.declared.queue.Mark.{Mark}
use Rattle.fak_model.specs.Calls.{ObjectId, SeatInfo, seat_info, fresh_seats}
use Rattle.fak_count.specs.Seats.{IsSeatOf}
use Rattle.fak_queue.specs.Queues.{IsIdleSeat}
use Rattle.fak_sem.specs.Semaphores.{SemId, SemSeatInfo, fresh_sem_seats}
use Rattle.fak_files.specs.Calls.{FileSeatInfo, IsFreeSeatOf, file_seat, idle_seats}
use Rattle.fak_files.specs.declared.phase.Hold.TheVariants.{Nothing}
use Rattle.soak.specs.Seats.{AreIdleSeats, AreSeatsOf, AreCountsOf, AreFree}

fresh_are_idle : {T : Type 0} (object : ObjectId) (stint name n : ℕ) → AreIdleSeats {T = T} object (fresh_seats object stint name n)
fresh_are_idle object stint name zero = All-nil (IsIdleSeat object)
fresh_are_idle object stint name (suc n) = All-cons (IsIdleSeat object) (seat_info object name stint []) (fresh_seats object stint (suc name) n) (refl, refl) (fresh_are_idle object stint (suc name) n)

pub dealt_are_idle : {T : Type 0} (object : ObjectId) (stint n : ℕ) (seats : List (SeatInfo (Mark T))) → seats ≡ fresh_seats object stint 0 n → AreIdleSeats object seats
dealt_are_idle object stint n seats is = subst (AreIdleSeats object) (sym is) (fresh_are_idle object stint 0 n)

fresh_are_counts : {M : Type 0} (object : ObjectId) (stint name n : ℕ) → AreCountsOf {M = M} object (fresh_seats object stint name n)
fresh_are_counts object stint name zero = All-nil (IsSeatOf object)
fresh_are_counts object stint name (suc n) = All-cons (IsSeatOf object) (seat_info object name stint []) (fresh_seats object stint (suc name) n) refl (fresh_are_counts object stint (suc name) n)

pub dealt_are_counts : {M : Type 0} (object : ObjectId) (stint n : ℕ) (seats : List (SeatInfo M)) → seats ≡ fresh_seats object stint 0 n → AreCountsOf object seats
dealt_are_counts object stint n seats is = subst (AreCountsOf object) (sym is) (fresh_are_counts object stint 0 n)

fresh_are_seats : {T : Type 0} (object : SemId) (stint name n : ℕ) → AreSeatsOf {T = T} object (fresh_sem_seats object stint name n)
fresh_are_seats {T} object stint name zero = All-nil (λ (s : SemSeatInfo T). s.object ≡ object)
fresh_are_seats {T} object stint name (suc n) = All-cons (λ (s : SemSeatInfo T). s.object ≡ object) _ (fresh_sem_seats object stint (suc name) n) refl (fresh_are_seats object stint (suc name) n)

pub dealt_are_seats : {T : Type 0} (object : SemId) (stint n : ℕ) (seats : List (SemSeatInfo T)) → seats ≡ fresh_sem_seats object stint 0 n → AreSeatsOf object seats
dealt_are_seats object stint n seats is = subst (AreSeatsOf object) (sym is) (fresh_are_seats object stint 0 n)

fresh_are_free : (object : ObjectId) (stint name n : ℕ) → AreFree object (idle_seats (fresh_seats object stint name n))
fresh_are_free object stint name zero = All-nil (IsFreeSeatOf object)
fresh_are_free object stint name (suc n) = All-cons (IsFreeSeatOf object) (file_seat (seat_info object name stint []) Nothing) (idle_seats (fresh_seats object stint (suc name) n)) (refl, refl) (fresh_are_free object stint (suc name) n)

pub dealt_are_free : (object : ObjectId) (stint n : ℕ) (seats : List FileSeatInfo) → seats ≡ idle_seats (fresh_seats object stint 0 n) → AreFree object seats
dealt_are_free object stint n seats is = subst (AreFree object) (sym is) (fresh_are_free object stint 0 n)

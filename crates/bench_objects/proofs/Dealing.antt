-- Seats that were just dealt are idle, or free, and so is each that is taken from a list of such.
use Rattle.std.proofs.Common.{◌≡◌, ℕ, zero, suc, List, [], refl, subst, sym}
use Rattle.std.proofs.lemmas.List.Elements.{All-nil, All-cons}
use Rattle.fak_model.specs.declared.queue.Mark.{Mark}
use Rattle.fak_model.specs.Calls.{ObjectId, SeatInfo, seat_info, fresh_seats}
use Rattle.fak_queue.specs.Queues.{IsIdleSeat}
use Rattle.fak_files.specs.Calls.{FileSeatInfo, IsFreeSeatOf, file_seat, idle_seats}
use Rattle.fak_files.specs.declared.phase.Hold.TheVariants.{Nothing}
use Rattle.bench_objects.specs.Seats.{AreIdleSeats, AreFree}

fresh_are_idle : {T : Type 0} (object : ObjectId) (stint name n : ℕ) → AreIdleSeats {T = T} object (fresh_seats object stint name n)
fresh_are_idle object stint name zero = All-nil (IsIdleSeat object)
fresh_are_idle object stint name (suc n) = All-cons (IsIdleSeat object) (seat_info object name stint []) (fresh_seats object stint (suc name) n) (refl, refl) (fresh_are_idle object stint (suc name) n)

pub dealt_are_idle : {T : Type 0} (object : ObjectId) (stint n : ℕ) (seats : List (SeatInfo (Mark T))) → seats ≡ fresh_seats object stint 0 n → AreIdleSeats object seats
dealt_are_idle object stint n seats is = subst (AreIdleSeats object) (sym is) (fresh_are_idle object stint 0 n)

fresh_are_free : (object : ObjectId) (stint name n : ℕ) → AreFree object (idle_seats (fresh_seats object stint name n))
fresh_are_free object stint name zero = All-nil (IsFreeSeatOf object)
fresh_are_free object stint name (suc n) = All-cons (IsFreeSeatOf object) (file_seat (seat_info object name stint []) Nothing) (idle_seats (fresh_seats object stint (suc name) n)) (refl, refl) (fresh_are_free object stint (suc name) n)

pub dealt_are_free : (object : ObjectId) (stint n : ℕ) (seats : List FileSeatInfo) → seats ≡ idle_seats (fresh_seats object stint 0 n) → AreFree object seats
dealt_are_free object stint n seats is = subst (AreFree object) (sym is) (fresh_are_free object stint 0 n)

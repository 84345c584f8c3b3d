-- The seats of a semaphore when it is opened.
use Rattle.fak_sem.proofs.Common.{◌≡◌, ℕ, zero, suc, ◌+◌, [], ◌∷◌, ◌++◌, ap, ◌∙◌, arith, CreditMark, Mark, ObjectId, SeatInfo, seat_info, SemId, SemSeatInfo, IsSemSeat, sem_seat, fresh_sem_seats, common_steps}

pub fresh_sem_seat : {T : Type 0} (start : ℕ) {credit_id queue_id : ObjectId} {name stint : ℕ} {credit : SeatInfo CreditMark} {queue : SeatInfo (Mark T)} → queue_id.seats ≡ credit_id.seats
    → credit ≡ seat_info credit_id name stint [] → queue ≡ seat_info queue_id name stint [] → IsSemSeat start credit queue
fresh_sem_seat {T} start {credit_id} {queue_id} {name} {stint} seats credit_is queue_is = grind (arith, common_steps)

pub fresh_paired : {T : Type 0} {start : ℕ} {object : SemId} {name stint : ℕ} {credit : SeatInfo CreditMark} {queue : SeatInfo (Mark T)} → object.start ≡ start
    → credit ≡ seat_info object.credit name stint [] → queue ≡ seat_info object.queue name stint [] → sem_seat start credit queue ≡ record { object = object; name = 0 + name; stint = stint; credit_seen = []; queue_seen = [] }
fresh_paired {T} {start} {object} {name} {stint} same credit_is queue_is = grind (arith, common_steps, sem_seat)

-- one more seat after those from the name a on
pub fresh_sem_next : {T : Type 0} (object : SemId) (stint a n : ℕ) (x : SemSeatInfo T) → x ≡ record { object = object; name = a + n; stint = stint; credit_seen = []; queue_seen = [] }
    → fresh_sem_seats {T = T} object stint a n ++ x ∷ [] ≡ fresh_sem_seats object stint a (n + 1)
fresh_sem_next {T} object stint a zero x is = grind (arith, common_steps)
fresh_sem_next {T} object stint a (suc n) x is =
    let up : suc (n + 1) ≡ suc n + 1 = omega arith in
    let same : a + suc n ≡ suc a + n = omega arith in
    let rest = fresh_sem_next {T = T} object stint (suc a) n x (is ∙ (λ i. record { object = object; name = same i; stint = stint; credit_seen = []; queue_seen = [] })) in
    ap (λ l. record { object = object; name = a; stint = stint; credit_seen = []; queue_seen = [] } ∷ l) rest ∙ ap (λ k. fresh_sem_seats {T = T} object stint a k) up

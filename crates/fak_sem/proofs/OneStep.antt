-- What one step of a down or an up does in the wait queue, in terms of what the semaphore and its seat show.
use Rattle.fak_sem.proofs.Common.{◌≡◌, ℕ, refl, ap, sym, ◌∙◌, subst, CreditMark, Mark, SeatInfo, QueueInfo, CreditInfo, state_of, Fills, WaitsToFill, Takes, WaitsToTake, SemInfo, sem_seat, sem_info, queue_part, StepSeatInfo, step_seat, IsStepSeat, ClaimsRoom, ClaimsItem, Standing, Bool, true, false, Option, Some, None}
use Rattle.fak_queue.specs.declared.state.SeatState.TheVariants as state
use Rattle.fak_sem.specs.declared.standing.Standing.TheVariants.{Parking, Inserting, Waking, Deleting}
use Rattle.fak_sem.specs.Steps.{ClaimsRoomOnce, ClaimsItemOnce, StepsToPark, StepsToParkFrom, StepsToWake, StepsToWakeFrom}
use Rattle.fak_sem.proofs.StepCalls.{part_is}

module _ {T : Type 0} {start : ℕ} {credit : SeatInfo CreditMark} {queue : SeatInfo (Mark T)} {standing : Standing T} {count_info : CreditInfo} {queue_info : QueueInfo} {sem : SemInfo} {seat : StepSeatInfo T}
    (s : IsStepSeat start credit queue standing) (sem_is : sem_info count_info queue_info ≡ sem) (seat_is : step_seat start credit queue standing ≡ seat) where
  -- what is true of the queue and its seat, before and after, is true of what is shown of them
  as_shown : (P : ℕ → SeatInfo (Mark T) → SeatInfo (Mark T) → Type 0) {credit' : SeatInfo CreditMark} {queue' : SeatInfo (Mark T)} {mid : Standing T} → IsStepSeat start credit' queue' mid
      → P queue_info.size queue queue' → P sem.size (queue_part seat.seat) (queue_part (sem_seat start credit' queue'))
  as_shown P {credit'} {queue'} s' p =
      let size : queue_info.size ≡ sem.size = ap (λ (m : SemInfo). m.size) sem_is in
      let old : queue ≡ queue_part seat.seat = sym (part_is s) ∙ ap (λ (x : StepSeatInfo T). queue_part x.seat) seat_is in
      let new : queue' ≡ queue_part (sem_seat start credit' queue') = sym (part_is s') in
      subst (λ (x : ℕ × SeatInfo (Mark T) × SeatInfo (Mark T)). P x.0 x.1 x.2) (λ i. (size i, old i, new i)) p

  -- the state of the seat before the step
  stood : {so : Standing T} → standing ≡ so → so ≡ seat.standing
  stood e = sym e ∙ ap (λ (x : StepSeatInfo T). x.standing) seat_is

  -- ---- downs

  pub room_claimed : (x : T) {credit' : SeatInfo CreditMark} {queue' : SeatInfo (Mark T)} (now : Standing T) → IsStepSeat start credit' queue' now → ClaimsRoom queue_info.size x queue queue' now
      → ClaimsRoomOnce sem x seat (step_seat start credit' queue' now) None
  room_claimed x now s' claim = as_shown (λ n old new. ClaimsRoom n x old new now) s' claim

  parks : (so now : Standing T) (done : Bool) {queue' : SeatInfo (Mark T)} {mid : Standing T} → standing ≡ so → IsStepSeat start credit queue' mid
      → StepsToParkFrom queue_info.size so now done queue queue' → StepsToPark sem seat (step_seat start credit queue' now) done
  parks so now done {queue'} e s' p =
      subst (λ (x : Standing T). StepsToParkFrom sem.size x now done (queue_part seat.seat) (queue_part (sem_seat start credit queue'))) (stood e) (as_shown (λ n old new. StepsToParkFrom n so now done old new) s' p)

  pub park_claims : (x : T) {queue' : SeatInfo (Mark T)} (now : Standing T) → standing ≡ Parking x → IsStepSeat start credit queue' now → ClaimsRoom queue_info.size x queue queue' now
      → StepsToPark sem seat (step_seat start credit queue' now) false
  park_claims x now e s' claim = parks (Parking x) now false e s' claim

  pub park_fills : (k : ℕ) {queue' : SeatInfo (Mark T)} {mid : Standing T} (now : Standing T) → standing ≡ Inserting → IsStepSeat start credit queue' mid → state_of queue ≡ state.Inserting k → Fills queue_info.size k queue queue'
      → StepsToPark sem seat (step_seat start credit queue' now) true
  park_fills k now e s' at fills = parks Inserting now true e s' (k, at, fills)

  pub park_looks : (k : ℕ) {queue' : SeatInfo (Mark T)} → standing ≡ Inserting → IsStepSeat start credit queue' Inserting → state_of queue ≡ state.Inserting k → WaitsToFill queue_info.size k queue queue'
      → StepsToPark sem seat (step_seat start credit queue' Inserting) false
  park_looks k e s' at waits = parks Inserting Inserting false e s' (k, at, refl, waits)

  -- ---- ups

  pub item_claimed : {credit' : SeatInfo CreditMark} {queue' : SeatInfo (Mark T)} (now : Standing T) → IsStepSeat start credit' queue' now → ClaimsItem queue_info.size queue queue' now
      → ClaimsItemOnce sem seat (step_seat start credit' queue' now) true
  item_claimed now s' claim = as_shown (λ n old new. ClaimsItem n old new now) s' claim

  wakes : (so now : Standing T) (woken : Option T) {queue' : SeatInfo (Mark T)} {mid : Standing T} → standing ≡ so → IsStepSeat start credit queue' mid
      → StepsToWakeFrom queue_info.size so now woken queue queue' → StepsToWake sem seat (step_seat start credit queue' now) woken
  wakes so now woken {queue'} e s' p =
      subst (λ (x : Standing T). StepsToWakeFrom sem.size x now woken (queue_part seat.seat) (queue_part (sem_seat start credit queue'))) (stood e) (as_shown (λ n old new. StepsToWakeFrom n so now woken old new) s' p)

  pub wake_claims : {queue' : SeatInfo (Mark T)} (now : Standing T) → standing ≡ Waking → IsStepSeat start credit queue' now → ClaimsItem queue_info.size queue queue' now
      → StepsToWake sem seat (step_seat start credit queue' now) None
  wake_claims now e s' claim = wakes Waking now None e s' claim

  pub wake_takes : (k : ℕ) (x : T) {queue' : SeatInfo (Mark T)} {mid : Standing T} (now : Standing T) → standing ≡ Deleting → IsStepSeat start credit queue' mid → state_of queue ≡ state.Deleting k → Takes queue_info.size k x queue queue'
      → StepsToWake sem seat (step_seat start credit queue' now) (Some x)
  wake_takes k x now e s' at takes = wakes Deleting now (Some x) e s' (k, at, takes)

  pub wake_looks : (k : ℕ) {queue' : SeatInfo (Mark T)} → standing ≡ Deleting → IsStepSeat start credit queue' Deleting → state_of queue ≡ state.Deleting k → WaitsToTake queue_info.size k queue queue'
      → StepsToWake sem seat (step_seat start credit queue' Deleting) None
  wake_looks k e s' at waits = wakes Deleting Deleting None e s' (k, at, refl, waits)

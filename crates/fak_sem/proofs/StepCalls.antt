-- How the steps of downs and ups keep the invariant of a seat, and what they promise.
use Rattle.fak_sem.proofs.Common.{◌≡◌, ℕ, ◌+◌, ◌<◌, List, [], ◌∷◌, length, refl, ap, sym, ◌∙◌, subst, arith, ℤ, pos, CreditKind, CreditMark, Mark, SeatInfo, seat_info, QueueInfo, Makes, made_by, seat_of, drawn_by, state_of, kinds_not_in, kinds_not_out, weight_from, of_name, passes, parks, wakes, SemId, SemInfo, SemSeatInfo, sem_seat, sem_info, InsertsAtLast, DeletesAtLast, common_steps, length-append, Some, None, Bool, ◌<ℤ◌, mine_of, Debit, Credit, Kind, count, puts, gots, marks_of, count_append, Fills, WaitsToFill, Takes, WaitsToTake, none_in, none_out, Standing, queue_part, Downs, Ups, StepSeatInfo, step_seat, IsStepSeat, ClaimsRoom, ClaimsItem, ParkedSoFar, WokenSoFar, ParksSince, WakesSince, CountsAsBegun, one_if}
use Rattle.fak_model.specs.declared.queue.Kind.TheVariants as made
use Rattle.fak_count.specs.Credits.{CreditInfo, MakesCall, calls_made, seat_of as credit_name}
use Rattle.fak_queue.specs.declared.state.SeatState.TheVariants as state
use Rattle.fak_sem.specs.declared.standing.Standing.TheVariants.{Idle, Parking, Inserting, Waking, Deleting}
use Rattle.fak_sem.specs.Standings.{StandsWith, unput, ungot}
use Rattle.fak_sem.proofs.SoFar.{parked_first, parked_claim, parked_looks, parked_whole, woken_first, woken_claim, woken_looks, woken_whole}
use Rattle.fak_sem.proofs.Weights.{weight-call, weights-calls}

-- ---- a seat and its semaphore

pub same_start : {T : Type 0} {start : ℕ} {credit : SeatInfo CreditMark} (queue : SeatInfo (Mark T)) {standing : Standing T} {seat : StepSeatInfo T} {count_info : CreditInfo} (queue_info : QueueInfo) {sem : SemInfo}
    → step_seat start credit queue standing ≡ seat → sem_info count_info queue_info ≡ sem → seat.seat.object ≡ sem.object → count_info.start ≡ start
same_start {T} queue queue_info seat_is sem_is fits = ap (λ (x : SemInfo). x.object.start) sem_is ∙ (ap (λ (o : SemId). o.start) (sym fits) ∙ ap (λ (x : StepSeatInfo T). x.seat.object.start) (sym seat_is))

-- the state of a seat is the state that it shows
pub stands_so : {T : Type 0} {start : ℕ} {credit : SeatInfo CreditMark} (queue : SeatInfo (Mark T)) {standing so : Standing T} {seat : StepSeatInfo T} → step_seat start credit queue standing ≡ seat → seat.standing ≡ so → standing ≡ so
stands_so {T} queue seat_is so = ap (λ (x : StepSeatInfo T). x.standing) seat_is ∙ so

-- a seat that is in this state
pub at_standing : {T : Type 0} {start : ℕ} {credit : SeatInfo CreditMark} {queue : SeatInfo (Mark T)} {was so : Standing T} → was ≡ so → IsStepSeat start credit queue was → IsStepSeat start credit queue so
at_standing {T} {start} {credit} {queue} e s = subst (λ (x : Standing T). IsStepSeat start credit queue x) e s

-- ---- the invariant

module _ {T : Type 0} {start : ℕ} {credit : SeatInfo CreditMark} {queue : SeatInfo (Mark T)} {standing : Standing T} (s : IsStepSeat start credit queue standing) where
  -- the wait queue's part of what is shown is the seat of the wait queue
  pub part_is : queue_part (sem_seat start credit queue) ≡ queue
  part_is = λ i. seat_info queue.object (sym s.name i) (sym s.stint i) queue.seen

  -- tickets are left for a call whose ticket is not yet drawn
  pub tickets_left : unput standing + ungot standing ≡ 1 → drawn_by queue < queue.stint
  tickets_left one = grind (arith, common_steps, count, puts, marks_of, seat_of, gots, weights-calls)

  -- a call on the credit, which does not touch the wait queue
  pub seat_credited : {credit' : SeatInfo CreditMark} {info : CreditInfo} {kind : CreditKind} {found : ℤ} → info.start ≡ start → MakesCall kind info credit credit' found
      → (now : Standing T) → StandsWith now (state_of queue) → unput now ≡ unput standing + parks kind found → ungot now ≡ ungot standing + wakes kind found → IsStepSeat start credit' queue now
  seat_credited {credit'} {info} {kind} {found} at c now stands put got =
      let name : credit'.name ≡ credit.name = ap (λ (x : SeatInfo CreditMark). x.name) c.appends.same_seat in
      let stint : credit'.stint ≡ credit.stint = ap (λ (x : SeatInfo CreditMark). x.stint) c.appends.same_seat in
      let seats : credit'.object.seats ≡ credit.object.seats = ap (λ (x : SeatInfo CreditMark). x.object.seats) c.appends.same_seat in
      let more : calls_made credit' ≡ calls_made credit + 1 = ap length c.appends.mine ∙ length-append (mine_of credit_name credit) (record { seat = credit.name; kind = kind } ∷ []) in
      let within = c.within in
      let weighs : (weight : CreditKind → ℤ → ℕ) → weight_from (of_name credit'.name weight) start [] credit'.seen ≡ weight_from (of_name credit.name weight) start [] credit.seen + weight kind found =
      (λ weight. subst (λ (x : ℕ × ℕ). weight_from (of_name x.0 weight) x.1 [] credit'.seen ≡ weight_from (of_name credit.name weight) x.1 [] credit.seen + weight kind found) (λ i. (sym name i, at i)) (weight-call weight c)) in
      record {
        seats = s.seats ∙ sym seats;
        name = s.name ∙ sym name;
        stint = s.stint ∙ sym stint;
        credit_named = c.appends.named;
        queue_named = s.queue_named;
        within = omega (arith, more, within, stint);
        stands = stands;
        parked = (let e = ap (λ (n : ℕ). count puts (marks_of seat_of n queue.seen)) name in let was = s.parked in let w = weighs parks in omega (arith, e, was, w, put));
        woken = (let e = ap (λ (n : ℕ). count gots (marks_of seat_of n queue.seen)) name in let was = s.woken in let w = weighs wakes in omega (arith, e, was, w, got));
      }

  -- a step in the wait queue, which does not touch the credit
  pub seat_stepped : {size : ℕ} (kinds : List (Kind T)) {queue' : SeatInfo (Mark T)} → Makes size kinds queue queue' → (now : Standing T) → StandsWith now (state_of queue')
      → count puts (made_by queue.name kinds) + unput now ≡ unput standing → count gots (made_by queue.name kinds) + ungot now ≡ ungot standing → IsStepSeat start credit queue' now
  seat_stepped kinds {queue'} makes now stands put got =
      let name' : queue'.name ≡ queue.name = ap (λ (x : SeatInfo (Mark T)). x.name) makes.same_seat in
      let to_name : credit.name ≡ queue'.name = sym s.name ∙ sym name' in
      let grown : (w : Kind T → ℕ) → count w (marks_of seat_of credit.name queue'.seen) ≡ count w (marks_of seat_of credit.name queue.seen) + count w (made_by queue.name kinds) =
      (λ w. ap (λ (n : ℕ). count w (marks_of seat_of n queue'.seen)) to_name ∙ (ap (count w) makes.mine ∙ (count_append w (marks_of seat_of queue.name queue.seen) (made_by queue.name kinds)
      ∙ ap (λ (n : ℕ). count w (marks_of seat_of n queue.seen) + count w (made_by queue.name kinds)) s.name))) in
      record {
        seats = ap (λ (x : SeatInfo (Mark T)). x.object.seats) makes.same_seat ∙ s.seats;
        name = name' ∙ s.name;
        stint = ap (λ (x : SeatInfo (Mark T)). x.stint) makes.same_seat ∙ s.stint;
        credit_named = s.credit_named;
        queue_named = makes.named;
        within = s.within;
        stands = stands;
        parked = (let g = grown puts in let was = s.parked in omega (arith, g, was, put));
        woken = (let g = grown gots in let was = s.woken in omega (arith, g, was, got));
      }

-- a claim of room
pub seat_claimed_in : {T : Type 0} {start : ℕ} (size : ℕ) {credit : SeatInfo CreditMark} {queue : SeatInfo (Mark T)} (queue' : SeatInfo (Mark T)) {x : T} → IsStepSeat start credit queue (Parking x) → (now : Standing T) → ClaimsRoom size x queue queue' now → IsStepSeat start credit queue' now
seat_claimed_in size queue' s Idle c = absurd c
seat_claimed_in {T} size {queue = queue} queue' s (Parking y) c =
    let p = none_in {A = T} puts refl queue.name c.2.0 in
    let g = none_in {A = T} gots refl queue.name c.2.0 in
    seat_stepped s (kinds_not_in c.2.0) c.2.1 (Parking y) c.1 (omega (arith, p)) (omega (arith, g))
seat_claimed_in size queue' {x} s Inserting c = seat_stepped s (made.ClaimIn ∷ made.Put x ∷ []) c.1 Inserting c.0 (omega arith) (omega arith)
seat_claimed_in size queue' s Waking c = absurd c
seat_claimed_in size queue' s Deleting c = absurd c

-- a claim of an item
pub seat_claimed_out : {T : Type 0} {start : ℕ} (size : ℕ) {credit : SeatInfo CreditMark} {queue : SeatInfo (Mark T)} (queue' : SeatInfo (Mark T)) → IsStepSeat start credit queue Waking → (now : Standing T) → ClaimsItem size queue queue' now → IsStepSeat start credit queue' now
seat_claimed_out size queue' s Idle c = absurd c
seat_claimed_out size queue' s (Parking y) c = absurd c
seat_claimed_out size queue' s Inserting c = absurd c
seat_claimed_out {T} size {queue = queue} queue' s Waking c =
    let p = none_out {A = T} puts refl queue.name c.1.0 in
    let g = none_out {A = T} gots refl queue.name c.1.0 in
    seat_stepped s (kinds_not_out c.1.0) c.1.1 Waking c.0 (omega (arith, p)) (omega (arith, g))
seat_claimed_out size queue' s Deleting c = seat_stepped s (made.ClaimOut ∷ made.Got c.item ∷ []) c.makes Deleting (c.ticket, c.state) (omega arith) (omega arith)

module _ {T : Type 0} {start size : ℕ} {credit : SeatInfo CreditMark} {queue queue' : SeatInfo (Mark T)} where
  pub seat_filled : (k : ℕ) → IsStepSeat start credit queue Inserting → Fills size k queue queue' → state_of queue' ≡ state.Idle → IsStepSeat start credit queue' Idle
  seat_filled k s f idle = seat_stepped s (made.Fill k ∷ made.EndIn ∷ []) f Idle idle (omega arith) (omega arith)

  pub seat_waits_in : {k : ℕ} → IsStepSeat start credit queue Inserting → state_of queue ≡ state.Inserting k → WaitsToFill size k queue queue' → state_of queue' ≡ state_of queue → IsStepSeat start credit queue' Inserting
  seat_waits_in {k} s at w same = seat_stepped s [] w.makes Inserting (k, same ∙ at) (omega arith) (omega arith)

  pub seat_taken : {k : ℕ} {x : T} → IsStepSeat start credit queue Deleting → Takes size k x queue queue' → state_of queue' ≡ state.Idle → IsStepSeat start credit queue' Idle
  seat_taken {k} s t idle = seat_stepped s (made.Take k ∷ made.EndOut ∷ []) t.makes Idle idle (omega arith) (omega arith)

  pub seat_waits_out : {k : ℕ} → IsStepSeat start credit queue Deleting → state_of queue ≡ state.Deleting k → WaitsToTake size k queue queue' → state_of queue' ≡ state_of queue → IsStepSeat start credit queue' Deleting
  seat_waits_out {k} s at w same = seat_stepped s [] w.makes Deleting (k, same ∙ at) (omega arith) (omega arith)

-- ---- what the steps promise

module _ {T : Type 0} {start : ℕ} {credit : SeatInfo CreditMark} {queue : SeatInfo (Mark T)} {standing : Standing T} {count_info : CreditInfo} {queue_info : QueueInfo} {sem : SemInfo} {seat : StepSeatInfo T}
    (s : IsStepSeat start credit queue standing) (sem_is : sem_info count_info queue_info ≡ sem) (seat_is : step_seat start credit queue standing ≡ seat) where
  -- ---- downs

  pub begins_down : {who : T} {found : ℤ} {credit' : SeatInfo CreditMark} {queue' : SeatInfo (Mark T)} {now : Standing T} → IsStepSeat start credit' queue' now → MakesCall Debit count_info credit credit' found → found <ℤ pos 1
      → ClaimsRoom queue_info.size who queue queue' now → ParksSince sem who seat.seat (step_seat start credit' queue' now)
  begins_down {who} {found} {credit'} {queue'} {now} s' c short claim = grind (arith, common_steps, sem_info, sem_seat, step_seat, part_is, parked_first)

  -- what holds of the seat as it is shown holds of its parts
  down_now : {so : Standing T} → standing ≡ so → {who : T} {began : SemSeatInfo T} → ParksSince sem who began seat → ParksSince (sem_info count_info queue_info) who began (step_seat start credit queue so)
  down_now {so} e {who} {began} p = subst (λ (x : SemInfo × StepSeatInfo T). ParksSince x.0 who began x.1) (λ i. (sym sem_is i, (sym seat_is ∙ (λ j. step_seat start credit queue (e j))) i)) p

  pub parks_claim : {x : T} {queue' : SeatInfo (Mark T)} {now : Standing T} → standing ≡ Parking x → IsStepSeat start credit queue' now → ClaimsRoom queue_info.size x queue queue' now
      → (began : SemSeatInfo T) (who : T) → ParksSince sem who began seat → ParksSince sem who began (step_seat start credit queue' now)
  parks_claim {x} {queue'} {now} e s' claim began who p = grind (arith, common_steps, down_now, queue_part, part_is, sem_info, step_seat, parked_claim)

  pub parks_look : {k : ℕ} {queue' : SeatInfo (Mark T)} → standing ≡ Inserting → IsStepSeat start credit queue' Inserting → WaitsToFill queue_info.size k queue queue'
      → (began : SemSeatInfo T) (who : T) → ParksSince sem who began seat → ParksSince sem who began (step_seat start credit queue' Inserting)
  parks_look {k} {queue'} e s' w began who p = grind (arith, common_steps, down_now, queue_part, part_is, sem_info, step_seat, parked_looks)

  pub parks_whole : {k : ℕ} {queue' : SeatInfo (Mark T)} → standing ≡ Inserting → IsStepSeat start credit queue' Idle → Fills queue_info.size k queue queue'
      → (began : SemSeatInfo T) (who : T) → ParksSince sem who began seat → Downs sem who began (sem_seat start credit queue') None
  parks_whole {k} {queue'} e s' f began who p =
      let q = down_now e p in
      let was : ParkedSoFar queue_info.size who Inserting (queue_part began) queue = subst (λ (y : SeatInfo (Mark T)). ParkedSoFar queue_info.size who Inserting (queue_part began) y) (part_is s) q.so_far in
      let r : Downs (sem_info count_info queue_info) who began (sem_seat start credit queue') None = record {
        found = q.found;
        debits = q.debits;
        passes = record { short = q.short; inserts = subst (λ (y : SeatInfo (Mark T)). InsertsAtLast queue_info.size who (queue_part began) y) (sym (part_is s')) (parked_whole queue_info.size who (queue_part began) k queue queue' was f) };
      } in
      subst (λ (m : SemInfo). Downs m who began (sem_seat start credit queue') None) sem_is r

  -- ---- ups

  pub begins_up : {found : ℤ} {credit' : SeatInfo CreditMark} {queue' : SeatInfo (Mark T)} {now : Standing T} → IsStepSeat start credit' queue' now → MakesCall Credit count_info credit credit' found → found <ℤ pos 0
      → ClaimsItem queue_info.size queue queue' now → WakesSince sem seat.seat (step_seat start credit' queue' now)
  begins_up {found} {credit'} {queue'} {now} s' c owes claim = grind (arith, common_steps, sem_info, sem_seat, step_seat, part_is, woken_first)

  up_now : {so : Standing T} → standing ≡ so → {began : SemSeatInfo T} → WakesSince sem began seat → WakesSince (sem_info count_info queue_info) began (step_seat start credit queue so)
  up_now {so} e {began} p = subst (λ (x : SemInfo × StepSeatInfo T). WakesSince x.0 began x.1) (λ i. (sym sem_is i, (sym seat_is ∙ (λ j. step_seat start credit queue (e j))) i)) p

  pub wakes_claim : {queue' : SeatInfo (Mark T)} {now : Standing T} → standing ≡ Waking → IsStepSeat start credit queue' now → ClaimsItem queue_info.size queue queue' now
      → (began : SemSeatInfo T) → WakesSince sem began seat → WakesSince sem began (step_seat start credit queue' now)
  wakes_claim {queue'} {now} e s' claim began p = grind (arith, common_steps, up_now, queue_part, part_is, sem_info, step_seat, woken_claim)

  pub wakes_look : {queue' : SeatInfo (Mark T)} → standing ≡ Deleting → IsStepSeat start credit queue' Deleting → state_of queue' ≡ state_of queue → ((k : ℕ) → state_of queue ≡ state.Deleting k → WaitsToTake queue_info.size k queue queue')
      → (began : SemSeatInfo T) → WakesSince sem began seat → WakesSince sem began (step_seat start credit queue' Deleting)
  wakes_look {queue'} e s' same w began p =
      let q = up_now e p in
      let was : WokenSoFar queue_info.size Deleting (queue_part began) queue = subst (λ (y : SeatInfo (Mark T)). WokenSoFar queue_info.size Deleting (queue_part began) y) (part_is s) q.so_far in
      let r : WakesSince (sem_info count_info queue_info) began (step_seat start credit queue' Deleting) = record {
        found = q.found;
        credits = q.credits;
        owes = q.owes;
        so_far = subst (λ (y : SeatInfo (Mark T)). WokenSoFar queue_info.size Deleting (queue_part began) y) (sym (part_is s')) (woken_looks queue_info.size (queue_part began) queue queue' was same w);
      } in
      subst (λ (m : SemInfo). WakesSince m began (step_seat start credit queue' Deleting)) sem_is r

  pub wakes_whole : {j : ℕ} {x : T} {queue' : SeatInfo (Mark T)} → standing ≡ Deleting → IsStepSeat start credit queue' Idle → ((k : ℕ) → state_of queue ≡ state.Deleting k → (j ≡ k) × Takes queue_info.size k x queue queue')
      → (began : SemSeatInfo T) → WakesSince sem began seat → Ups sem began (sem_seat start credit queue') (Some x)
  wakes_whole {j} {x} {queue'} e s' t began p =
      let q = up_now e p in
      let was : WokenSoFar queue_info.size Deleting (queue_part began) queue = subst (λ (y : SeatInfo (Mark T)). WokenSoFar queue_info.size Deleting (queue_part began) y) (part_is s) q.so_far in
      let r : Ups (sem_info count_info queue_info) began (sem_seat start credit queue') (Some x) = record {
        found = q.found;
        credits = q.credits;
        wakes = record { owes = q.owes; deletes = subst (λ (y : SeatInfo (Mark T)). DeletesAtLast queue_info.size x (queue_part began) y) (sym (part_is s')) (woken_whole queue_info.size (queue_part began) j x queue queue' was t) };
      } in
      subst (λ (m : SemInfo). Ups m began (sem_seat start credit queue') (Some x)) sem_is r

-- ---- counts

pub counts_as_begun : {T : Type 0} {start : ℕ} {credit credit' : SeatInfo CreditMark} {info : CreditInfo} {found : ℤ} (queue queue' : SeatInfo (Mark T)) {standing : Standing T} {seat : StepSeatInfo T} → info.start ≡ start → MakesCall Credit info credit credit' found
    → step_seat start credit queue standing ≡ seat → (owes : Bool) → wakes Credit found ≡ one_if owes → CountsAsBegun seat.seat (sem_seat start credit' queue') owes
counts_as_begun {T} {start} {credit} {credit'} {info} {found} queue queue' {standing} {seat} at c seat_is owes woken = grind (arith, common_steps, weight_from, of_name, weight-call, sem_seat, passes, parks, wakes)

-- How downs and ups keep the invariant of a seat.
use Rattle.fak_sem.proofs.Common.{◌≡◌, ℕ, ◌+◌, ◌<◌, true, false, List, [], refl, ap, sym, ◌∙◌, subst, arith, ℤ, pos, int_lt, Option, CreditKind, CreditMark, Mark, QueueInfo, Makes, made_by, seat_of, drawn_by, state_of, kinds_not_in, kinds_not_out, kinds_in, kinds_out, InsertsAtLast, DeletesAtLast, weight_from, of_name, passes, parks, wakes, SemId, SemInfo, SemSeatInfo, IsSemSeat, sem_seat, sem_info, one_if_some, one_if_none, CountsDown, CountsUp, common_steps, Debit, Credit, Kind, count_append, CreditInfo, MakesCall, Idle, none_in, none_out, count_at_last}
use Rattle.fak_model.proofs.Common.{count, puts, gots, marks_of, SeatInfo}
use Rattle.fak_sem.proofs.Weights.{weight-call, weights-calls}

-- ---- a seat and its semaphore

pub same_start : {T : Type 0} {start : ℕ} {credit : SeatInfo CreditMark} (queue : SeatInfo (Mark T)) {seat : SemSeatInfo T} {count_info : CreditInfo} (queue_info : QueueInfo) {sem : SemInfo}
    → sem_seat start credit queue ≡ seat → sem_info count_info queue_info ≡ sem → seat.object ≡ sem.object → count_info.start ≡ start
same_start {T} queue queue_info seat_is sem_is fits = ap (λ (x : SemInfo). x.object.start) sem_is ∙ (ap (λ (o : SemId). o.start) (sym fits) ∙ ap (λ (x : SemSeatInfo T). x.object.start) (sym seat_is))

-- ---- a seat whose credit part performs a call

module _ {T : Type 0} {start : ℕ} {credit credit' : SeatInfo CreditMark} {queue : SeatInfo (Mark T)} {info : CreditInfo} {kind : CreditKind} {found : ℤ}
    (s : IsSemSeat start credit queue) (at : info.start ≡ start) (c : MakesCall kind info credit credit' found) where
  same_name : credit'.name ≡ credit.name
  same_name = ap (λ (x : SeatInfo CreditMark). x.name) c.appends.same_seat

  same_stint : credit'.stint ≡ credit.stint
  same_stint = ap (λ (x : SeatInfo CreditMark). x.stint) c.appends.same_seat

  same_seats : credit'.object.seats ≡ credit.object.seats
  same_seats = ap (λ (x : SeatInfo CreditMark). x.object.seats) c.appends.same_seat

  weighs : (weight : CreditKind → ℤ → ℕ) → weight_from (of_name credit'.name weight) start [] credit'.seen ≡ weight_from (of_name credit.name weight) start [] credit.seen + weight kind found
  weighs weight = subst (λ (x : ℕ × ℕ). weight_from (of_name x.0 weight) x.1 [] credit'.seen ≡ weight_from (of_name credit.name weight) x.1 [] credit.seen + weight kind found) (λ i. (sym same_name i, at i)) (weight-call weight c)

  -- the seat's queue part has tickets left
  pub tickets_left : drawn_by queue < queue.stint
  tickets_left = grind (arith, common_steps, count, puts, marks_of, seat_of, gots, weights-calls)

  -- a call that does not touch the wait queue
  pub seat_unqueued : parks kind found ≡ 0 → wakes kind found ≡ 0 → IsSemSeat start credit' queue
  seat_unqueued none_parked none_woken = grind (arith, common_steps, same_seats, same_name, same_stint, count, puts, marks_of, seat_of, weighs, parks, gots)

  -- a call that left marks of these kinds in the wait queue
  seat_queued : {size : ℕ} (kinds : List (Kind T)) {queue' : SeatInfo (Mark T)} → Makes size kinds queue queue' → state_of queue' ≡ Idle
      → count puts (made_by queue.name kinds) ≡ parks kind found → count gots (made_by queue.name kinds) ≡ wakes kind found → IsSemSeat start credit' queue'
  seat_queued kinds {queue'} makes idle put got =
      let name' : queue'.name ≡ queue.name = ap (λ (x : SeatInfo (Mark T)). x.name) makes.same_seat in
      let to_name : credit'.name ≡ queue'.name = same_name ∙ (sym s.name ∙ sym name') in
      let grown : (w : Kind T → ℕ) → count w (marks_of seat_of credit'.name queue'.seen) ≡ count w (marks_of seat_of credit.name queue.seen) + count w (made_by queue.name kinds) =
      (λ w. ap (λ (n : ℕ). count w (marks_of seat_of n queue'.seen)) to_name ∙ (ap (count w) makes.mine ∙ (count_append w (marks_of seat_of queue.name queue.seen) (made_by queue.name kinds)
      ∙ ap (λ (n : ℕ). count w (marks_of seat_of n queue.seen) + count w (made_by queue.name kinds)) s.name))) in
      record {
        seats = ap (λ (x : SeatInfo (Mark T)). x.object.seats) makes.same_seat ∙ (s.seats ∙ sym same_seats);
        name = name' ∙ (s.name ∙ sym same_name);
        stint = ap (λ (x : SeatInfo (Mark T)). x.stint) makes.same_seat ∙ (s.stint ∙ sym same_stint);
        idle = idle;
        credit_named = c.appends.named;
        queue_named = makes.named;
        matched = record {
          parked = (let g = grown puts in let was = s.matched.parked in let w = weighs parks in omega (arith, g, was, w, put));
          woken = (let g = grown gots in let was = s.matched.woken in let w = weighs wakes in omega (arith, g, was, w, got));
        };
      }

  -- a call that inserted an item into the wait queue
  pub seat_parked : {size : ℕ} {who : T} {queue' : SeatInfo (Mark T)} → InsertsAtLast size who queue queue' → state_of queue' ≡ Idle → parks kind found ≡ 1 → wakes kind found ≡ 0 → IsSemSeat start credit' queue'
  seat_parked {size} {who} made idle one none = grind (arith, common_steps, seat_queued, count_at_last, puts, kinds_not_in, none_in, kinds_in, gots)

  -- a call that deleted an item from the wait queue
  pub seat_woken : {size : ℕ} {who : T} {queue' : SeatInfo (Mark T)} → DeletesAtLast size who queue queue' → state_of queue' ≡ Idle → parks kind found ≡ 0 → wakes kind found ≡ 1 → IsSemSeat start credit' queue'
  seat_woken {size} {who} made idle none one = grind (arith, common_steps, seat_queued, count_at_last, puts, kinds_not_out, none_out, kinds_out, gots)

-- ---- the tests of downs and ups

pub parks_not : {found word : ℤ} → word ≡ found → int_lt (pos 0) word ≡ true → parks Debit found ≡ 0
parks_not {found} is t = let u : int_lt (pos 0) found ≡ true = ap (int_lt (pos 0)) (sym is) ∙ t in rw u refl

pub parks_one : {found word : ℤ} → word ≡ found → int_lt (pos 0) word ≡ false → parks Debit found ≡ 1
parks_one {found} is t = let u : int_lt (pos 0) found ≡ false = ap (int_lt (pos 0)) (sym is) ∙ t in rw u refl

pub wakes_not : {found word : ℤ} → word ≡ found → int_lt word (pos 0) ≡ false → wakes Credit found ≡ 0
wakes_not {found} is t = let u : int_lt found (pos 0) ≡ false = ap (λ z. int_lt z (pos 0)) (sym is) ∙ t in rw u refl

pub wakes_one : {found word : ℤ} → word ≡ found → int_lt word (pos 0) ≡ true → wakes Credit found ≡ 1
wakes_one {found} is t = let u : int_lt found (pos 0) ≡ true = ap (λ z. int_lt z (pos 0)) (sym is) ∙ t in rw u refl

pub passes_one : {found word : ℤ} → word ≡ found → int_lt (pos 0) word ≡ true → passes Debit found ≡ 1
passes_one {found} is t = let u : int_lt (pos 0) found ≡ true = ap (int_lt (pos 0)) (sym is) ∙ t in rw u refl

pub passes_not : {found word : ℤ} → word ≡ found → int_lt (pos 0) word ≡ false → passes Debit found ≡ 0
passes_not {found} is t = let u : int_lt (pos 0) found ≡ false = ap (int_lt (pos 0)) (sym is) ∙ t in rw u refl

-- ---- how many of a seat's downs passed and parked, and how many of its ups woke

module _ {start : ℕ} {credit credit' : SeatInfo CreditMark} {info : CreditInfo} {kind : CreditKind} {found : ℤ} (at : info.start ≡ start) (c : MakesCall kind info credit credit' found) where
  grown : (weight : CreditKind → ℤ → ℕ) → weight_from (of_name credit'.name weight) start [] credit'.seen ≡ weight_from (of_name credit.name weight) start [] credit.seen + weight kind found
  grown weight = grind (arith, common_steps, weight_from, of_name, weight-call)

  pub counts_down : {T : Type 0} (queue queue' : SeatInfo (Mark T)) {old : SemSeatInfo T} {answer : Option T} → sem_seat start credit queue ≡ old → passes kind found ≡ one_if_some answer → parks kind found ≡ one_if_none answer → wakes kind found ≡ 0 → CountsDown old (sem_seat start credit' queue') answer
  counts_down {T} queue queue' {old} {answer} is passed parked woken = grind (arith, common_steps, sem_seat, grown, passes, parks, wakes)

  pub counts_up : {T : Type 0} (queue queue' : SeatInfo (Mark T)) {old : SemSeatInfo T} {answer : Option T} → sem_seat start credit queue ≡ old → passes kind found ≡ 0 → parks kind found ≡ 0 → wakes kind found ≡ one_if_some answer → CountsUp old (sem_seat start credit' queue') answer
  counts_up {T} queue queue' {old} {answer} is passed parked woken = grind (arith, common_steps, sem_seat, grown, passes, parks, wakes)

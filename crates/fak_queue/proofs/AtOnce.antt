-- A claim and the rest of its call, with no call of the seat between them.
use Rattle.fak_model.specs.Calls.{object_id, SeatInfo}
use Rattle.fak_queue.proofs.Common.{QueueLimits, Idle, QueueHolder, QueueInfo, queue_info, drawn_by, state_of, IsQueue, queue_seat, IsQueueSeat, Inserts, Deletes, ClaimedIn, Filled, ClaimedOut, Taken, ◌≡◌, ℕ, ◌+◌, ◌-◌, ◌<◌, refl, sym, ap, ◌∙◌, subst, arith, TableId, Mark, Phase, TurnIn, TurnOut}
use Rattle.fak_queue.proofs.PartSteps.{noted_then}
use Rattle.fak_queue.proofs.SeatCalls.{idle_now, seat_after, state_after, drawn_after, left_less, left_same, claims_in, claims_out, fills, takes}
use Rattle.fak_queue.proofs.WholeCalls.{inserted, deleted}

module _ {T : Type 0} (key : QueueLimits) {size seats name left : ℕ} {p : Phase T} {table mine : TableId} {m : QueueHolder T} {old : SeatInfo (Mark T)} {queue : QueueInfo}
    (f : IsQueueSeat mine.slots seats name p left m) (q : IsQueue size table) (seat_is : queue_seat (object_id mine seats) name left m ≡ old) (queue_is : queue_info (object_id table key.seats) ≡ queue) (fits : old.object ≡ queue.object)
    {between now : TableId} (stays : between ≡ mine) (stays_then : now ≡ between) (mid after : QueueHolder T) where
  abbrev Mid : SeatInfo (Mark T)
  Mid = queue_seat (object_id between seats) name (left - 1) mid

  abbrev New : SeatInfo (Mark T)
  New = queue_seat (object_id now seats) name (left - 1) after

  mid_fits : object_id between seats ≡ queue.object
  mid_fits = ap (λ (t : TableId). object_id t seats) stays ∙ (ap (λ (s : SeatInfo (Mark T)). s.object) seat_is ∙ fits)

  module _ {k : ℕ} {x : T} (claim : ClaimedIn table.slots key.seats name x k m mid) (fill : Filled table.slots key.seats name k mid after) where
    seat_claimed_in : IsQueueSeat between.slots seats name (TurnIn k x) (left - 1) mid
    seat_claimed_in = seat_after key f q seat_is queue_is fits claim.part (left_less key f q seat_is queue_is fits) stays

    kept_in : mid.0.left ≡ left - 1
    kept_in = left_same key seat_claimed_in q refl queue_is mid_fits

    pub seat_inserted : state_of old ≡ Idle → IsQueueSeat now.slots seats name p (left - 1) after
    seat_inserted e = subst (λ z. IsQueueSeat now.slots seats name z (left - 1) after) (sym (idle_now key f q seat_is queue_is fits e)) (seat_after key seat_claimed_in q refl queue_is mid_fits fill kept_in stays_then)

    pub state_inserted : state_of New ≡ Idle
    state_inserted = state_after key seat_claimed_in q refl queue_is mid_fits fill kept_in stays_then

    pub drawn_inserted : drawn_by New ≡ drawn_by old + 1
    drawn_inserted =
        let claimed : drawn_by Mid ≡ drawn_by old + 1 = drawn_after key f q seat_is queue_is fits claim.part (left_less key f q seat_is queue_is fits) stays in
        let filled : drawn_by New ≡ drawn_by Mid + 0 = drawn_after key seat_claimed_in q refl queue_is mid_fits fill kept_in stays_then in
        omega (arith, claimed, filled)

    pub noted_inserted : after.0.noted ≡ m.0.noted
    noted_inserted = noted_then fill ∙ noted_then claim.part

    pub inserts : 0 < left → Inserts queue.size k x old New
    inserts some_left = inserted queue.size old Mid New k x (claims_in key f q seat_is queue_is fits stays mid some_left claim) (fills key seat_claimed_in q refl queue_is mid_fits stays_then after fill)

  module _ {k : ℕ} {x : T} (claim : ClaimedOut table.slots key.seats name k m mid) (take : Taken table.slots key.seats name k x mid after) where
    seat_claimed_out : IsQueueSeat between.slots seats name (TurnOut k) (left - 1) mid
    seat_claimed_out = seat_after key f q seat_is queue_is fits claim.part (left_less key f q seat_is queue_is fits) stays

    kept_out : mid.0.left ≡ left - 1
    kept_out = left_same key seat_claimed_out q refl queue_is mid_fits

    pub seat_deleted : state_of old ≡ Idle → IsQueueSeat now.slots seats name p (left - 1) after
    seat_deleted e = subst (λ z. IsQueueSeat now.slots seats name z (left - 1) after) (sym (idle_now key f q seat_is queue_is fits e)) (seat_after key seat_claimed_out q refl queue_is mid_fits take.part kept_out stays_then)

    pub state_deleted : state_of New ≡ Idle
    state_deleted = state_after key seat_claimed_out q refl queue_is mid_fits take.part kept_out stays_then

    pub drawn_deleted : drawn_by New ≡ drawn_by old + 1
    drawn_deleted =
        let claimed : drawn_by Mid ≡ drawn_by old + 1 = drawn_after key f q seat_is queue_is fits claim.part (left_less key f q seat_is queue_is fits) stays in
        let taken : drawn_by New ≡ drawn_by Mid + 0 = drawn_after key seat_claimed_out q refl queue_is mid_fits take.part kept_out stays_then in
        omega (arith, claimed, taken)

    pub noted_deleted : after.0.noted ≡ m.0.noted
    noted_deleted = noted_then take.part ∙ noted_then claim.part

    pub deletes : 0 < left → Deletes queue.size k x old New
    deletes some_left = deleted queue.size old Mid New k x (claims_out key f q seat_is queue_is fits stays mid some_left claim) (takes key seat_claimed_out q refl queue_is mid_fits stays_then after take)

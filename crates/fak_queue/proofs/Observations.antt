-- What a load of a count tells an observer.
use Rattle.std.specs.Prelude.{IsTrue}
use Rattle.fak_model.specs.Views.{Foreign}
use Rattle.fak_queue.specs.declared.in_use.InUse.{InUse}
use Rattle.fak_queue.specs.Steps.{ObservedUp, ObservedLow}
use Rattle.fak_queue.specs.Words.{IsInUse}
use Rattle.fak_model.proofs.RunningSteps.{observes}
use Rattle.fak_queue.proofs.Common.{Alike, ◌≡◌, ◌↔◌, ℕ, ◌+◌, ◌<◌, List, [], ◌∷◌, ◌++◌, Bool, true, false, ℤ, pos, ◌+ℤ◌, refl, sym, ap, ◌∙◌, subst, inl, arith, ints, common_steps, reverse, Some, some, get_elem?, slice_index, bias, In, Has, Close, has_reverse, has_back, stage, stage_else, upper_count, lower_count, keeps, Mark, Phase, QueueHolder, QueueLimits, queue_object, IsShownQueue, Leaves, sight, kept, shut_part, shut_bit, TellsNothing, IsPart, TellsOfNeither, RestsAt, TableId, object_id, SeatInfo, QueueInfo, queue_info, queue_seat, IsQueue, IsQueueSeat, Makes, state_of, drawn_by, token_names, token_slots}
use Rattle.fak_queue.proofs.Shutting.{shut_exactly}
use Rattle.fak_queue.proofs.WordWrites.{open_below}
use Rattle.fak_queue.proofs.Stepping.{QueueTable, queue_law, Permits, lower_most, lower_bounds, lower_past, upper_past}
use Rattle.fak_queue.proofs.PartSteps.{part_none, seen_is}
use Rattle.fak_queue.proofs.SeatCalls.{left_same, seat_after, state_after, state_now, drawn_after, makes}

-- ---- what a word says

-- a word says one count
pub one_count : (b c : Bool) (w : ℕ) (u v : ℤ) → b ≡ c → pos w ≡ pos (shut_part b + bias) +ℤ u → pos w ≡ pos (shut_part c + bias) +ℤ v → u ≡ v
one_count b c w u v same e f = let g = subst (λ z. pos w ≡ pos (shut_part z + bias) +ℤ u) same e in omega (arith, ints, g, f)

low_count : (w : ℕ) (u v : ℤ) → pos w ≡ pos bias +ℤ u → pos w ≡ pos bias +ℤ v → u ≡ v
low_count w u v e f = omega (arith, ints, e, f)

pub is_flag : {A : Type 0} (b c : Bool) → IsTrue b ↔ A → (c ≡ true → A) → (c ≡ false → A → ⊥) → b ≡ c
is_flag b c e t f = grind (arith, common_steps)

module _ {T : Type 0} (key : QueueLimits) (s : QueueTable T) (r : IsShownQueue key s) (id n : ℕ) (m : QueueHolder T) (at : get_elem? s.views id ≡ some m.0) (one : m.0.names ≡ n ∷ []) where
  tells_up : (u : InUse) → IsInUse (slice_index s.words 16) u → (u.count ≡ upper_count (reverse r.core.past)) × (IsTrue u.is_shut ↔ Has Close (reverse r.core.past))
  tells_up u is =
      let k = kept key.size r.core r.reached.reached r.encoded.some_cell in
      let exact = shut_exactly key s r in
      let same : u.is_shut ≡ r.core.shut = is_flag u.is_shut r.core.shut is.shut (λ e. exact.1 (k.closed.0 e)) (λ e high. k.closed.1 e (exact.0 high)) in (
        one_count u.is_shut r.core.shut (slice_index s.words 16) u.count r.core.upper same is.count r.encoded.words_are.upper_is ∙ upper_past key s r id n m at one,
        ((λ t. has_reverse Close r.core.past (exact.0 (is.shut.0 t))), (λ h. is.shut.1 (exact.1 (has_back Close r.core.past h)))),
      )

  pub observes_up : (p : Phase T) → m.0.phase ≡ Some (Alike p) → Permits key s r id n m at one 16 (λ w. w) (λ found after. (u : InUse) → IsInUse found u → ObservedUp key.size key.seats p u m after)
  observes_up p e =
      let o = queue_object key.size key.seats in
      let law = queue_law key.size key.seats r.encoded.some_cell in
      let quiet : (tells : List (Mark T) → Type 0) → tells r.core.past → _ = λ tells told. observes o s r id n m at one law (Alike p) e 16 tells told in
      (sight m.0.names m.0.noted r.core.past p m.0.left, keeps, tt, (quiet TellsNothing tt).0, λ u is. (quiet (λ past. (u.count ≡ upper_count (reverse past)) × (IsTrue u.is_shut ↔ Has Close (reverse past))) (tells_up u is)).1)

  pub few_low : slice_index s.words 32 < shut_bit
  few_low = let b = lower_bounds key s r id n m at one in open_below (slice_index s.words 32) 1024 (lower_most key s r id n m at one) r.core.lower r.encoded.words_are.lower_is b.0 b.1

  pub observes_low : (p : Phase T) → m.0.phase ≡ Some (Alike p) → Permits key s r id n m at one 32 (λ w. w) (λ found after. (k : ℤ) → pos found ≡ pos bias +ℤ k → ObservedLow key.size key.seats p k m after)
  observes_low p e =
      let o = queue_object key.size key.seats in
      let law = queue_law key.size key.seats r.encoded.some_cell in
      let quiet : (tells : List (Mark T) → Type 0) → tells r.core.past → _ = λ tells told. observes o s r id n m at one law (Alike p) e 32 tells told in (
        sight m.0.names m.0.noted r.core.past p m.0.left,
        keeps,
        tt,
        (quiet TellsNothing tt).0,
        λ k is. (quiet (λ past. k ≡ lower_count (reverse past)) (low_count (slice_index s.words 32) k r.core.lower is r.encoded.words_are.lower_is ∙ lower_past key s r id n m at one)).1,
      )

-- ---- what a call promises

stage_foreign : {T : Type 0} (names : List ℕ) (n : ℕ) (between h : List (Mark T)) → In n names → Foreign (λ (w : Mark T). w.seat) names between → stage (between ++ h) n ≡ stage h n
stage_foreign names n [] h i f = refl
stage_foreign names n (m ∷ between) h i f = stage_else m (between ++ h) n (λ e. f.0 (subst (λ k. In k names) e i)) ∙ stage_foreign names n between h i f.1

module _ {T : Type 0} (key : QueueLimits) {size seats name left : ℕ} {p : Phase T} {table mine : TableId} {m : QueueHolder T} {old : SeatInfo (Mark T)} {queue : QueueInfo}
    (f : IsQueueSeat mine.slots seats name p left m) (q : IsQueue size table) (seat_is : queue_seat (object_id mine seats) name left m ≡ old) (queue_is : queue_info (object_id table key.seats) ≡ queue) (fits : old.object ≡ queue.object)
    {now : TableId} (stays : now ≡ mine) (after : QueueHolder T) {tells : List (Mark T) → Type 0} (l : Leaves (queue_object table.slots key.seats) m [] p m.0.left m.1 tells after) where
  abbrev New : SeatInfo (Mark T)
  New = queue_seat (object_id now seats) name left after

  part : IsPart table.slots key.seats name [] p m.0.left TellsOfNeither m after
  part =
      let among = subst (λ names. In name names) (sym (token_names f.token)) (inl refl) in
      let still : stage after.0.seen name ≡ stage m.0.seen name = ap (λ h. stage h name) (seen_is l ∙ l.sees.is) ∙ stage_foreign m.0.names name l.sees.between m.0.seen among l.sees.foreign in
      part_none name l (token_names f.token) (token_slots f.token) m.0.left refl (subst (RestsAt p) (sym still) f.rests)

  same_left : m.0.left ≡ left
  same_left = left_same key f q seat_is queue_is fits

  pub seat_observed : IsQueueSeat now.slots seats name p left after
  seat_observed = seat_after key f q seat_is queue_is fits part same_left stays

  pub state_observed : state_of New ≡ state_of old
  state_observed = state_after key f q seat_is queue_is fits part same_left stays ∙ sym (state_now key f q seat_is queue_is fits)

  pub drawn_observed : drawn_by New ≡ drawn_by old
  drawn_observed = drawn_after key f q seat_is queue_is fits part same_left stays ∙ omega arith

  pub makes_observed : Makes queue.size [] old New
  makes_observed = makes key f q seat_is queue_is fits part same_left stays (omega arith)

  pub told_observed : tells after.0.seen
  told_observed = subst tells (sym (seen_is l)) l.told

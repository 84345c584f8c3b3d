-- Schedules of a channel whose sleepers are bits, and the states that they reach.
use Rattle.std.specs.Prelude.{ℕ, ◌≡◌, ◌⊎◌, ◌<◌, true, false, ◌&&◌, if◌then◌else◌, nat_lt, List, [], ◌∷◌}
use Rattle.fak_model.specs.declared.queue.Mark.{Mark}
use Rattle.fak_core.specs.declared.queue.phase.Phase.TheVariants as queue
use Rattle.fak_core.specs.QueueProgress.{seat_of}
use Rattle.fak_core.specs.QueueSchedule.{QueueEvent}
use Rattle.fak_model.specs.declared.note.Sign.{Sign}
use Rattle.fak_channel_core.specs.SleeperSides.{Awake, Asleep}
use Rattle.fak_model.specs.declared.note.NoteKind.TheVariants.{Checks}
use Rattle.fak_channel_core.specs.SleeperMoves.{Deed, Marks, Logged, SleeperState, sleeper_opening, sender_side, receiver_side, with_deed, queue_event, is_void, sender_may, receiver_may, is_idle, sender_signs, receiver_signs, Notes}

-- an event of a schedule: one of the queue; a sign of an end, as a sender or as a receiver; or an end's check whether the
-- channel is drained, by a load of the upper count
pub data SleeperEvent (A : Type 0) : Type 0 where
  OfQueue : (v : QueueEvent A) → SleeperEvent A
  SenderSigns : (e : ℕ) → (v : Sign) → SleeperEvent A
  ReceiverSigns : (e : ℕ) → (v : Sign) → SleeperEvent A
  ChecksUpper : (e : ℕ) → SleeperEvent A

-- the end of an event
abbrev pub end_of : {A : Type 0} → SleeperEvent A → ℕ
end_of (OfQueue v) = seat_of v
end_of (SenderSigns e v) = e
end_of (ReceiverSigns e v) = e
end_of (ChecksUpper e) = e

-- the state after an event. A sign that is not true of the state changes nothing; nor does a step on the bits during a
-- call on the queue
abbrev pub sleeper_event : {A : Type 0} → ℕ → ℕ → SleeperState A → SleeperEvent A → SleeperState A
sleeper_event n size s (OfQueue v) = queue_event n size s v
sleeper_event n size s (SenderSigns e v) = if is_idle (s.queue.phase e) && sender_may size s.queue (sender_side s) e v then sender_signs n s e v else s
sleeper_event n size s (ReceiverSigns e v) = if is_idle (s.queue.phase e) && receiver_may s.queue (receiver_side s) e v then receiver_signs n s e v else s
sleeper_event n size s (ChecksUpper e) = if is_idle (s.queue.phase e) then with_deed n s e (Notes (Checks (s.queue.shut && is_void s.queue))) else s

-- only the first n ends have events
abbrev pub sleeper_happens : {A : Type 0} → ℕ → ℕ → SleeperState A → SleeperEvent A → SleeperState A
sleeper_happens n size s v = if nat_lt (end_of v) n then sleeper_event n size s v else s

-- the state after a schedule
abbrev pub sleeper_run : {A : Type 0} → ℕ → ℕ → List (SleeperEvent A) → SleeperState A → SleeperState A
sleeper_run n size [] s = s
sleeper_run n size (v ∷ vs) s = sleeper_run n size vs (sleeper_happens n size s v)

-- the state after this schedule, with n ends and this many cells
abbrev pub sleeper_reached : {A : Type 0} → ℕ → ℕ → List (SleeperEvent A) → SleeperState A
sleeper_reached n size vs = sleeper_run n size vs sleeper_opening

-- the events of the queue among these, of the first n ends
abbrev pub queue_events : {A : Type 0} → ℕ → List (SleeperEvent A) → List (QueueEvent A)
queue_events n [] = []
queue_events n (OfQueue v ∷ vs) = if nat_lt (seat_of v) n then v ∷ queue_events n vs else queue_events n vs
queue_events n (SenderSigns e v ∷ vs) = queue_events n vs
queue_events n (ReceiverSigns e v ∷ vs) = queue_events n vs
queue_events n (ChecksUpper e ∷ vs) = queue_events n vs

-- ---- rest

-- the end sleeps as a sender, or as a receiver, and nobody has woken it
pub record SenderSleeps {A : Type 0} (s : SleeperState A) (e : ℕ) : Type 0 where
  pub asleep : (s.accounts e).sender.stage ≡ Asleep
  pub bit : s.senders e ≡ true

pub record ReceiverSleeps {A : Type 0} (s : SleeperState A) (e : ℕ) : Type 0 where
  pub asleep : (s.accounts e).receiver.stage ≡ Asleep
  pub bit : s.receivers e ≡ true

-- the end has no open call on the queue, owes nothing, and is awake or sleeps
pub record IsResting {A : Type 0} (s : SleeperState A) (e : ℕ) : Type 0 where
  pub idle : s.queue.phase e ≡ queue.Idle
  pub for_senders : (s.accounts e).sender.looks ≡ 0
  pub for_receivers : (s.accounts e).receiver.looks ≡ 0
  pub checks : (s.accounts e).checks ≡ false
  pub sender : ((s.accounts e).sender.stage ≡ Awake) ⊎ SenderSleeps s e
  pub receiver : ((s.accounts e).receiver.stage ≡ Awake) ⊎ ReceiverSleeps s e

-- all n ends rest
abbrev pub AllEndsRest : {A : Type 0} → ℕ → SleeperState A → Type 0
AllEndsRest n s = (e : ℕ) → e < n → IsResting s e

-- ---- the marks of a log

abbrev pub with_marks : {A : Type 0} → ℕ → Deed A → List (Mark A) → List (Mark A)
with_marks e (Marks κ) past = record { seat = e; kind = κ } ∷ past
with_marks e _ past = past

abbrev pub marks_in : {A : Type 0} → List (Logged A) → List (Mark A)
marks_in [] = []
marks_in (l ∷ log) = with_marks l.by l.deed (marks_in log)

-- A bounded channel whose sleepers are bits, as plain data: its states, and the atomic steps of its ends. It is one queue
-- core and two sets of bits, one of the senders that sleep and one of the receivers. Any end may take any step of the
-- queue at any time. The mark of that step tells which looks for sleepers the end owes afterwards, so no step of the queue
-- needs to know of them.
use Rattle.std.specs.Prelude.{ℕ, ◌==◌, pos, Bool, true, false, not, ◌&&◌, ◌||◌, if◌then◌else◌, int_lt, Option, None, Some, List, [], ◌∷◌}
use Rattle.fak_model.specs.declared.note.NoteKind.{NoteKind}
use Rattle.fak_model.specs.declared.note.NoteKind.TheVariants.{AsSender, AsReceiver, Checks}
use Rattle.fak_model.specs.declared.queue.Kind.{Kind}
use Rattle.fak_model.specs.declared.queue.Kind.TheVariants as mark
use Rattle.fak_core.specs.declared.queue.phase.Phase.{Phase}
use Rattle.fak_core.specs.declared.queue.phase.Phase.TheVariants as queue
use Rattle.fak_core.specs.declared.queue.step.QueueMove.{QueueMove}
use Rattle.fak_core.specs.QueueMoves.{QueueState, next_move, moved, with_at}
use Rattle.fak_core.specs.QueueSchedule.{QueueEvent, Inserts, Deletes, Shuts, Advances, begun, opening as empty_queue}
use Rattle.fak_model.specs.declared.note.Sign.{Sign}
use Rattle.fak_model.specs.declared.note.Sign.TheVariants.{FindsNoItem, FallsAsleep}
use Rattle.fak_channel_core.specs.SleeperSides.{Awake, Duty, Side, owes_look, tried, after_sign, bits_after, may_sign, is_registered, is_past_lower}

-- ---- what an end owes

-- the account of an end: its duty as a sender and as a receiver, and whether it is to check whether the channel is
-- drained
pub record Account : Type 0 where
  pub sender : Duty
  pub receiver : Duty
  pub checks : Bool

-- what an end has done: it has left a mark of the queue, or noted a step as a sender or as a receiver, or a check whether
-- the channel is drained
pub data Deed (A : Type 0) : Type 0 where
  Marks : (κ : Kind A) → Deed A
  Notes : (k : NoteKind) → Deed A

-- a deed and its end
pub record Logged (A : Type 0) : Type 0 where
  pub by : ℕ
  pub deed : Deed A

-- an end that has lowered the upper count or has shut the queue owes a look for a sender. So does one that was refused as
-- closed, which passes the news on. The first mark of an insertion tells that a woken end has tried again
abbrev pub sender_after : {A : Type 0} → Kind A → Duty → Duty
sender_after mark.NoRoom g = tried g
sender_after mark.Closed g = owes_look (tried g)
sender_after mark.ClaimIn g = tried g
sender_after mark.OverIn g = tried g
sender_after mark.LateIn g = tried g
sender_after mark.BackIn g = owes_look g
sender_after mark.EndOut g = owes_look g
sender_after mark.Close g = owes_look g
sender_after _ g = g

-- an end that has raised the lower count owes a look for a receiver
abbrev pub receiver_after : {A : Type 0} → Kind A → Duty → Duty
receiver_after mark.NoItem g = tried g
receiver_after mark.ClaimOut g = tried g
receiver_after mark.OverOut g = tried g
receiver_after mark.EndIn g = owes_look g
receiver_after mark.BackOut g = owes_look g
receiver_after _ g = g

-- after these marks the channel may be drained
abbrev pub checks_after : {A : Type 0} → Kind A → Bool → Bool
checks_after mark.NoItem c = true
checks_after mark.BackIn c = true
checks_after mark.EndOut c = true
checks_after mark.Close c = true
checks_after _ c = c

-- the account of an end after a note, among n ends
abbrev pub after_note : ℕ → NoteKind → Account → Account
after_note n (AsSender v) g = record g { sender = after_sign n v g.sender }
after_note n (AsReceiver v) g = record g { receiver = after_sign n v g.receiver }
after_note n (Checks drained) g = record g { receiver = if drained then owes_look g.receiver else g.receiver; checks = false }

-- the account of an end after its deed, among n ends: nothing else changes it
abbrev pub after_deed : {A : Type 0} → ℕ → Deed A → Account → Account
after_deed n (Marks κ) g = record { sender = sender_after κ g.sender; receiver = receiver_after κ g.receiver; checks = checks_after κ g.checks }
after_deed n (Notes k) g = after_note n k g

abbrev pub free_duty : Duty
free_duty = record { stage = Awake; looks = 0; passed = λ w. false }

abbrev pub free_account : Account
free_account = record { sender = free_duty; receiver = free_duty; checks = false }

-- the account of end e by the deeds so far, newest first
abbrev pub account_by : {A : Type 0} → ℕ → ℕ → List (Logged A) → Account
account_by n e [] = free_account
account_by n e (l ∷ log) = if e == l.by then after_deed n l.deed (account_by n e log) else account_by n e log

-- ---- states

-- the queue, the account of each end, the bits of the senders and of the receivers, and the deeds so far, newest first
pub record SleeperState (A : Type 0) : Type 0 where
  pub queue : QueueState A
  pub accounts : ℕ → Account
  pub senders : ℕ → Bool
  pub receivers : ℕ → Bool
  pub log : List (Logged A)

-- the queue is empty, no call has begun, and no bit is set
abbrev pub sleeper_opening : {A : Type 0} → SleeperState A
sleeper_opening = record { queue = empty_queue; accounts = λ e. free_account; senders = λ e. false; receivers = λ e. false; log = [] }

abbrev pub sender_side : {A : Type 0} → SleeperState A → Side
sender_side s = record { duty = λ e. (s.accounts e).sender; bit = s.senders }

abbrev pub receiver_side : {A : Type 0} → SleeperState A → Side
receiver_side s = record { duty = λ e. (s.accounts e).receiver; bit = s.receivers }

-- ---- steps

-- the state with this deed of end e
abbrev pub with_deed : {A : Type 0} → ℕ → SleeperState A → ℕ → Deed A → SleeperState A
with_deed n s e x = record s { accounts = with_at s.accounts e (after_deed n x (s.accounts e)); log = record { by = e; deed = x } ∷ s.log }

abbrev pub after_mark : {A : Type 0} → ℕ → Option (Kind A) → Account → Account
after_mark n None g = g
after_mark n (Some κ) g = after_deed n (Marks κ) g

abbrev pub with_mark : {A : Type 0} → ℕ → Option (Kind A) → List (Logged A) → List (Logged A)
with_mark e None log = log
with_mark e (Some κ) log = record { by = e; deed = Marks κ } ∷ log

-- a step of end e on the queue, which leaves a mark or none
abbrev pub queue_step : {A : Type 0} → ℕ → SleeperState A → ℕ → Option (QueueMove A) → SleeperState A
queue_step n s e None = s
queue_step n s e (Some m) = record s { queue = moved s.queue e m; accounts = with_at s.accounts e (after_mark n m.mark (s.accounts e)); log = with_mark e m.mark s.log }

-- an event of the queue: a call begins, which touches nothing shared, or an end takes the next step of its call
abbrev pub queue_event : {A : Type 0} → ℕ → ℕ → SleeperState A → QueueEvent A → SleeperState A
queue_event n size s (Inserts e x) = record s { queue = begun s.queue e (queue.TestUp x) (s.queue.phase e) }
queue_event n size s (Deletes e) = record s { queue = begun s.queue e queue.TestLow (s.queue.phase e) }
queue_event n size s (Shuts e) = record s { queue = begun s.queue e queue.SetShut (s.queue.phase e) }
queue_event n size s (Advances e) = queue_step n s e (next_move size s.queue (s.queue.phase e))

-- the upper count is at most 0
abbrev pub is_void : {A : Type 0} → QueueState A → Bool
is_void q = not (int_lt (pos 0) q.upper)

-- a sender tests again the upper count and its shut bit, by one load
abbrev pub sender_may : {A : Type 0} → ℕ → QueueState A → Side → ℕ → Sign → Bool
sender_may size q d e FallsAsleep = is_registered (d.duty e).stage && not (q.shut || int_lt q.upper (pos size))
sender_may size q d e v = may_sign d e v

-- a receiver tests again the lower count, and then whether the channel is drained
abbrev pub receiver_may : {A : Type 0} → QueueState A → Side → ℕ → Sign → Bool
receiver_may q d e FindsNoItem = is_registered (d.duty e).stage && not (int_lt (pos 0) q.lower)
receiver_may q d e FallsAsleep = is_past_lower (d.duty e).stage && not (q.shut && is_void q)
receiver_may q d e v = may_sign d e v

-- no call of the end on the queue is open
abbrev pub is_idle : {A : Type 0} → Phase A → Bool
is_idle queue.Idle = true
is_idle _ = false

abbrev pub sender_signs : {A : Type 0} → ℕ → SleeperState A → ℕ → Sign → SleeperState A
sender_signs n s e v = record (with_deed n s e (Notes (AsSender v))) { senders = bits_after v e s.senders }

abbrev pub receiver_signs : {A : Type 0} → ℕ → SleeperState A → ℕ → Sign → SleeperState A
receiver_signs n s e v = record (with_deed n s e (Notes (AsReceiver v))) { receivers = bits_after v e s.receivers }

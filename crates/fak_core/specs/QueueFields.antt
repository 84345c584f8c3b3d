-- The queue core over items that are numbers: its fields, and what its calls ensure.
use Rattle.std.specs.Prelude.{◌≡◌, ℕ, ◌+◌, ◌≤◌, ◌<◌, ℤ, pos, Bool, true, false, ◌≤ℤ◌, ◌+ℤ◌, Option, None, Some, IsSome, Result, Ok, Err, List, [], ◌∷◌, length, replicate, reverse, get_or, slice_get, slice_set}
use Rattle.fak_model.specs.declared.queue.Kind.{Kind}
use Rattle.fak_model.specs.declared.queue.Kind.TheVariants.{Put, Got}
use Rattle.fak_model.specs.declared.queue.Mark.{Mark}
use Rattle.fak_model.specs.Queue.{Drew, gots, item_at, items_put}
use Rattle.fak_model.specs.QueuePast.{SeatsBelow}
use Rattle.fak_core.specs.declared.call.QueueCall.{QueueCall}
use Rattle.fak_core.specs.declared.call.QueueCall.TheVariants.{Insert, Delete, Shut}
use Rattle.fak_core.specs.declared.fault.CoreFault.{CoreFault}
use Rattle.fak_core.specs.declared.fault.CoreFault.TheVariants.{NoSuchSeat, MidCall, IdleSeat}
use Rattle.fak_core.specs.declared.line.LineMark.{LineMark}
use Rattle.fak_core.specs.declared.line.LineMark.TheVariants as line_marks
use Rattle.fak_core.specs.declared.line.Line.{Line}
use Rattle.fak_core.specs.declared.queue.phase.Phase.{Phase}
use Rattle.fak_core.specs.declared.queue.phase.Phase.TheVariants.{Idle, TestUp, TestLow, SetShut, TurnIn, SetFull, TurnOut, SetFree}
use Rattle.fak_core.specs.declared.queue.step.Found.{Found}
use Rattle.fak_core.specs.declared.queue.step.Found.TheVariants.{Count, Word, Item}
use Rattle.fak_core.specs.declared.queue.step.Write.{Write}
use Rattle.fak_core.specs.declared.queue.step.Write.TheVariants as write
use Rattle.fak_core.specs.declared.queue.step.QueueMove.{QueueMove}
use Rattle.fak_core.specs.QueueMoves.{QueueState, next_move, past_after, moved}
use Rattle.fak_core.specs.QueueSchedule.{IsReached}

-- ---- fields

-- the counts and the ticket counters; whether the queue is shut; a turn and a content for each cell; the phase of each
-- seat; the marks so far, newest first
pub record QueueFields : Type 0 where
  pub size : ℕ
  pub upper : ℤ
  pub lower : ℤ
  pub draws_in : ℕ
  pub draws_out : ℕ
  pub shut : Bool
  pub turns : List ℕ
  pub cells : List (Option ℕ)
  pub phases : List (Phase ℕ)
  pub past : List (Mark ℕ)

-- the state that the fields show
abbrev pub queue_state : QueueFields → QueueState ℕ
queue_state f = record {
  upper = f.upper;
  lower = f.lower;
  draws_in = f.draws_in;
  draws_out = f.draws_out;
  turn = λ c. get_or f.turns c 0;
  cell = λ c. get_or f.cells c None;
  phase = λ s. get_or f.phases s Idle;
  past = f.past;
  shut = f.shut;
}

-- the marks so far, oldest first
abbrev pub history_of : QueueFields → List (Mark ℕ)
history_of f = reverse f.past

-- the fields of a queue in which no call has begun
abbrev pub opening_fields : ℕ → ℕ → QueueFields
opening_fields size seats = record {
  size = size;
  upper = pos 0;
  lower = pos 0;
  draws_in = 0;
  draws_out = 0;
  shut = false;
  turns = replicate size 0;
  cells = replicate size None;
  phases = replicate seats Idle;
  past = [];
}

-- ---- steps

abbrev pub written_fields : QueueFields → Write ℕ → QueueFields
written_fields f write.Nothing = f
written_fields f (write.Upper n) = record f { upper = n }
written_fields f (write.Lower n) = record f { lower = n }
written_fields f (write.DrawsIn n) = record f { draws_in = n }
written_fields f (write.DrawsOut n) = record f { draws_out = n }
written_fields f (write.Turn c n) = record f { turns = slice_set f.turns c n }
written_fields f (write.Cell c x) = record f { cells = slice_set f.cells c (Some x) }
written_fields f write.Shut = record f { shut = true }

-- the item that a step puts
abbrev pub item_left : Option (Kind ℕ) → List ℕ
item_left (Some (Put x)) = x ∷ []
item_left _ = []

-- the fields after a step
abbrev pub moved_fields : QueueFields → ℕ → QueueMove ℕ → QueueFields
moved_fields f seat m = record (written_fields f m.write) { phases = slice_set f.phases seat m.phase; past = past_after seat m.mark f.past }

-- what a step found, as the number that its line shows
abbrev pub number_found : Found ℕ → ℤ
number_found (Count n) = n
number_found (Word n) = pos n
number_found (Item None) = pos 0
number_found (Item (Some x)) = pos x

abbrev pub line_mark : Option (Kind ℕ) → Option LineMark
line_mark None = None
line_mark (Some κ) = Some (line_marks.Queue κ)

-- the line that records a step
abbrev pub line_of : ℕ → QueueMove ℕ → Line
line_of seat m = record { seat = seat; step = m.step; found = number_found m.found; mark = line_mark m.mark }

abbrev pub or_idle : Option (QueueMove ℕ) → Result (QueueMove ℕ) CoreFault
or_idle None = Err IdleSeat
or_idle (Some m) = Ok m

abbrev pub phase_step : QueueFields → Option (Phase ℕ) → Result (QueueMove ℕ) CoreFault
phase_step f None = Err NoSuchSeat
phase_step f (Some p) = or_idle (next_move f.size (queue_state f) p)

-- the step that a seat takes next, or why it takes none
abbrev pub step_of : QueueFields → ℕ → Result (QueueMove ℕ) CoreFault
step_of f seat = phase_step f (slice_get f.phases seat)

-- ---- beginning a call

-- the phase in which a call begins
abbrev pub first_phase : QueueCall → Phase ℕ
first_phase (Insert x) = TestUp x
first_phase Delete = TestLow
first_phase Shut = SetShut

abbrev pub phase_begin : Option (Phase ℕ) → QueueCall → Result (Phase ℕ) CoreFault
phase_begin None call = Err NoSuchSeat
phase_begin (Some Idle) call = Ok (first_phase call)
phase_begin (Some _) call = Err MidCall

-- the phase of a seat when its call begins, or why the call does not begin
abbrev pub begin_of : QueueFields → ℕ → QueueCall → Result (Phase ℕ) CoreFault
begin_of f seat call = phase_begin (slice_get f.phases seat) call

-- ---- what the calls of a core ensure

-- a reached state of a queue of 1 to 4,096 cells with at most 64 seats
pub record IsSound (f : QueueFields) : Type 0 where
  pub reached : IsReached f.size (queue_state f)
  pub seats : SeatsBelow (length f.phases) f.past
  pub least : 1 ≤ f.size
  pub most : f.size ≤ 4096
  pub few : length f.phases ≤ 64
  pub turns : length f.turns ≡ f.size
  pub cells : length f.cells ≡ f.size

-- the fields are sound, and these are the items put, in the order of their tickets
pub record IsSoundWith (f : QueueFields) (items : List ℕ) : Type 0 where
  pub sound : IsSound f
  pub put : items ≡ items_put (history_of f)

-- the seat takes its step: this is its line, and this is the state after it
pub record IsStep (old : QueueFields) (seat : ℕ) (line : Line) (new : QueueFields) : Type 0 where
  pub step : QueueMove ℕ
  pub is : step_of old seat ≡ Ok step
  pub says : line ≡ line_of seat step
  pub leaves : new ≡ moved_fields old seat step
  pub state : queue_state new ≡ moved (queue_state old) seat step

-- the seat's last mark is a Got, and `found` is the item of the Put with its ticket
pub record LoadsPut (f : QueueFields) (seat : ℕ) (found : ℤ) : Type 0 where
  pub item : ℕ
  pub ticket : ℕ
  pub drew : Drew (history_of f) seat (Got item) gots ticket
  pub put : item_at (items_put (history_of f)) ticket ≡ Some item
  pub loaded : found ≡ pos item

-- the call begins
pub record IsBegun (old : QueueFields) (seat : ℕ) (call : QueueCall) (new : QueueFields) : Type 0 where
  pub at : Phase ℕ
  pub is : begin_of old seat call ≡ Ok at
  pub leaves : new ≡ record old { phases = slice_set old.phases seat at }

-- the step leaves a mark
abbrev pub LeavesMark : Result (QueueMove ℕ) CoreFault → Type 0
LeavesMark r = (m : QueueMove ℕ) × (r ≡ Ok m) × IsSome m.mark

-- ---- ranges

-- a count that is far from the limits of its type
abbrev pub IsSmall : ℤ → Type 0
IsSmall n = (pos 0 ≤ℤ (n +ℤ pos 10000)) × (n ≤ℤ pos 10000)

-- a phase whose step computes with its ticket has a ticket with a successor below n
abbrev pub HasTicketBelow : ℕ → Phase ℕ → Type 0
HasTicketBelow n (TurnIn k x) = (k + 1) < n
HasTicketBelow n (SetFull k x) = (k + 1) < n
HasTicketBelow n (TurnOut k) = (k + 1) < n
HasTicketBelow n (SetFree k) = (k + 1) < n
HasTicketBelow n _ = Unit {0}

-- the cell that a step writes is one of the queue
abbrev pub IsWithin : ℕ → Write ℕ → Type 0
IsWithin size (write.Turn c n) = c < size
IsWithin size (write.Cell c x) = c < size
IsWithin size _ = Unit {0}

-- The queue core: its states, and one atomic step of a seat. Items are of any type.
use Rattle.std.specs.Prelude.{ℕ, ◌+◌, ◌*◌, ◌/◌, ◌%◌, ◌==◌, ℤ, pos, ◌+ℤ◌, ◌-ℤ◌, Bool, true, if◌then◌else◌, int_lt, Option, None, Some, List, ◌∷◌, reverse, cond}
use Rattle.fak_model.specs.declared.queue.Kind.{Kind}
use Rattle.fak_model.specs.declared.queue.Kind.TheVariants as mark
use Rattle.fak_model.specs.declared.queue.Mark.{Mark}
use Rattle.fak_model.specs.QueuePast.{item_of}
use Rattle.fak_core.specs.declared.line.CoreMove.{CoreMove}
use Rattle.fak_core.specs.declared.line.CoreMove.TheVariants as step
use Rattle.fak_core.specs.declared.queue.phase.Phase.{Phase}
use Rattle.fak_core.specs.declared.queue.phase.Phase.TheVariants.{Idle, TestUp, AddUp, BackUp, TicketIn, TurnIn, StoreItem, SetFull, EndInsert, TestLow, SubLow, BackLow, TicketOut, TurnOut, LoadItem, SetFree, EndDelete, SetShut}
use Rattle.fak_core.specs.declared.queue.step.Found.{Found}
use Rattle.fak_core.specs.declared.queue.step.Found.TheVariants.{Count, Word, Item}
use Rattle.fak_core.specs.declared.queue.step.Write.{Write}
use Rattle.fak_core.specs.declared.queue.step.Write.TheVariants as write
use Rattle.fak_core.specs.declared.queue.step.QueueMove.{QueueMove}

-- ---- states

-- the counts and the ticket counters; a turn and a content for each cell; the phase of each seat; the marks so far,
-- newest first; whether the queue is shut
pub record QueueState (A : Type 0) : Type 0 where
  pub upper : ℤ
  pub lower : ℤ
  pub draws_in : ℕ
  pub draws_out : ℕ
  pub turn : ℕ → ℕ
  pub cell : ℕ → Option A
  pub phase : ℕ → Phase A
  pub past : List (Mark A)
  pub shut : Bool

-- the marks so far, oldest first
abbrev pub history_of : {A : Type 0} → QueueState A → List (Mark A)
history_of st = reverse st.past

-- ---- steps

-- a step that only loads and leaves no mark
abbrev pub quiet : {A : Type 0} → CoreMove → Found A → Phase A → QueueMove A
quiet s found p = record { step = s; found = found; mark = None; write = write.Nothing; phase = p }

-- a step that leaves a mark
abbrev pub marked : {A : Type 0} → CoreMove → Found A → Kind A → Write A → Phase A → QueueMove A
marked s found κ w p = record { step = s; found = found; mark = Some κ; write = w; phase = p }

-- the load of the upper count; what each step must follow is in `fak_core::queue::moves`
abbrev pub test_up : {A : Type 0} → ℕ → Bool → ℤ → A → QueueMove A
test_up size shut found x =
    if shut then marked step.TestUp (Count found) mark.Closed write.Nothing Idle else
    if int_lt found (pos size) then quiet step.TestUp (Count found) (AddUp x) else
    marked step.TestUp (Count found) mark.NoRoom write.Nothing Idle

-- the fetch-and-add of 1 to the upper count
abbrev pub add_up : {A : Type 0} → ℕ → Bool → ℤ → A → QueueMove A
add_up size shut found x =
    if shut then marked step.AddUp (Count found) mark.LateIn (write.Upper (found +ℤ pos 1)) (BackUp x) else
    if int_lt found (pos size) then marked step.AddUp (Count found) mark.ClaimIn (write.Upper (found +ℤ pos 1)) (TicketIn x) else
    marked step.AddUp (Count found) mark.OverIn (write.Upper (found +ℤ pos 1)) (BackUp x)

-- the fetch-and-subtract of 1 that withdraws an insertion
abbrev pub back_up : {A : Type 0} → ℤ → QueueMove A
back_up found = marked step.BackUp (Count found) mark.BackIn (write.Upper (found -ℤ pos 1)) Idle

-- the draw of an insertion's ticket
abbrev pub ticket_in : {A : Type 0} → ℕ → A → QueueMove A
ticket_in found x = marked step.TicketIn (Word found) (mark.Put x) (write.DrawsIn (found + 1)) (TurnIn found x)

-- the load of the turn word of ticket k's cell: the ticket of round r may fill the cell if the turn is 2 r
abbrev pub turn_in : {A : Type 0} → ℕ → ℕ → ℕ → A → QueueMove A
turn_in size found k x = if found == 2 * (k / size) then quiet step.TurnIn (Word found) (StoreItem k x) else quiet step.TurnIn (Word found) (TurnIn k x)

-- the store of the item
abbrev pub store_item : {A : Type 0} → ℕ → ℕ → A → QueueMove A
store_item size k x = record { step = step.StoreItem; found = Item (Some x); mark = None; write = write.Cell (k % size) x; phase = SetFull k x }

-- the store of the turn word 2 r + 1
abbrev pub set_full : {A : Type 0} → ℕ → ℕ → QueueMove A
set_full size k = marked step.SetFull (Word (2 * (k / size) + 1)) (mark.Fill k) (write.Turn (k % size) (2 * (k / size) + 1)) (EndInsert k)

-- the fetch-and-add of 1 to the lower count that ends an insertion
abbrev pub end_in : {A : Type 0} → ℤ → QueueMove A
end_in found = marked step.EndIn (Count found) mark.EndIn (write.Lower (found +ℤ pos 1)) Idle

-- the load of the lower count
abbrev pub test_low : {A : Type 0} → ℤ → QueueMove A
test_low found = if int_lt (pos 0) found then quiet step.TestLow (Count found) SubLow else marked step.TestLow (Count found) mark.NoItem write.Nothing Idle

-- the fetch-and-subtract of 1 from the lower count
abbrev pub sub_low : {A : Type 0} → ℤ → QueueMove A
sub_low found =
    if int_lt (pos 0) found then marked step.SubLow (Count found) mark.ClaimOut (write.Lower (found -ℤ pos 1)) TicketOut else
    marked step.SubLow (Count found) mark.OverOut (write.Lower (found -ℤ pos 1)) BackLow

-- the fetch-and-add of 1 that withdraws a deletion
abbrev pub back_low : {A : Type 0} → ℤ → QueueMove A
back_low found = marked step.BackLow (Count found) mark.BackOut (write.Lower (found +ℤ pos 1)) Idle

-- the draw of a deletion's ticket, with a mark that has the item put under it; if none was put, the seat stays
abbrev pub ticket_out : {A : Type 0} → ℕ → Option A → QueueMove A
ticket_out found None = quiet step.TicketOut (Word found) TicketOut
ticket_out found (Some x) = marked step.TicketOut (Word found) (mark.Got x) (write.DrawsOut (found + 1)) (TurnOut found)

-- the load of the turn word of ticket k's cell: the ticket of round r may empty the cell if the turn is 2 r + 1
abbrev pub turn_out : {A : Type 0} → ℕ → ℕ → ℕ → QueueMove A
turn_out size found k = if found == 2 * (k / size) + 1 then quiet step.TurnOut (Word found) (LoadItem k) else quiet step.TurnOut (Word found) (TurnOut k)

-- the load of the item
abbrev pub load_item : {A : Type 0} → Option A → ℕ → QueueMove A
load_item content k = quiet step.LoadItem (Item content) (SetFree k)

-- the store of the turn word 2 r + 2
abbrev pub set_free : {A : Type 0} → ℕ → ℕ → QueueMove A
set_free size k = marked step.SetFree (Word (2 * (k / size) + 2)) (mark.Take k) (write.Turn (k % size) (2 * (k / size) + 2)) (EndDelete k)

-- the fetch-and-subtract of 1 from the upper count that ends a deletion
abbrev pub end_out : {A : Type 0} → ℤ → QueueMove A
end_out found = marked step.EndOut (Count found) mark.EndOut (write.Upper (found -ℤ pos 1)) Idle

-- the fetch-and-or of the shut bit
abbrev pub set_shut : {A : Type 0} → ℤ → QueueMove A
set_shut found = marked step.Shut (Count found) mark.Close write.Shut Idle

-- the step of a seat in this phase, if the next deletion's ticket has the item `drawn`
abbrev pub move_by : {A : Type 0} → ℕ → QueueState A → Option A → Phase A → Option (QueueMove A)
move_by size st drawn Idle = None
move_by size st drawn (TestUp x) = Some (test_up size st.shut st.upper x)
move_by size st drawn (AddUp x) = Some (add_up size st.shut st.upper x)
move_by size st drawn (BackUp x) = Some (back_up st.upper)
move_by size st drawn (TicketIn x) = Some (ticket_in st.draws_in x)
move_by size st drawn (TurnIn k x) = Some (turn_in size (st.turn (k % size)) k x)
move_by size st drawn (StoreItem k x) = Some (store_item size k x)
move_by size st drawn (SetFull k x) = Some (set_full size k)
move_by size st drawn (EndInsert k) = Some (end_in st.lower)
move_by size st drawn TestLow = Some (test_low st.lower)
move_by size st drawn SubLow = Some (sub_low st.lower)
move_by size st drawn BackLow = Some (back_low st.lower)
move_by size st drawn TicketOut = Some (ticket_out st.draws_out drawn)
move_by size st drawn (TurnOut k) = Some (turn_out size (st.turn (k % size)) k)
move_by size st drawn (LoadItem k) = Some (load_item (st.cell (k % size)) k)
move_by size st drawn (SetFree k) = Some (set_free size k)
move_by size st drawn (EndDelete k) = Some (end_out st.upper)
move_by size st drawn SetShut = Some (set_shut st.upper)

-- the step of a seat in this phase; a deletion's ticket has the item that was put under it
abbrev pub next_move : {A : Type 0} → ℕ → QueueState A → Phase A → Option (QueueMove A)
next_move size st p = move_by size st (item_of st.past st.draws_out) p

-- ---- the state after a step

-- f with x at i
abbrev pub with_at : {B : Type 0} → (ℕ → B) → ℕ → B → ℕ → B
with_at f i x j = cond (j == i) x (f j)

abbrev pub written : {A : Type 0} → QueueState A → Write A → QueueState A
written st write.Nothing = st
written st (write.Upper n) = record st { upper = n }
written st (write.Lower n) = record st { lower = n }
written st (write.DrawsIn n) = record st { draws_in = n }
written st (write.DrawsOut n) = record st { draws_out = n }
written st (write.Turn c n) = record st { turn = with_at st.turn c n }
written st (write.Cell c x) = record st { cell = with_at st.cell c (Some x) }
written st write.Shut = record st { shut = true }

-- the marks, with the mark of a step of this seat
abbrev pub past_after : {A : Type 0} → ℕ → Option (Kind A) → List (Mark A) → List (Mark A)
past_after seat None past = past
past_after seat (Some κ) past = record { seat = seat; kind = κ } ∷ past

-- the seat is now in this phase
abbrev pub with_phase : {A : Type 0} → QueueState A → ℕ → Phase A → QueueState A
with_phase st seat p = record st { phase = with_at st.phase seat p }

-- the seat is now in this phase, and left a mark
abbrev pub with_mark : {A : Type 0} → QueueState A → ℕ → Phase A → Kind A → QueueState A
with_mark st seat p κ = record st { phase = with_at st.phase seat p; past = record { seat = seat; kind = κ } ∷ st.past }

-- the state after a step of this seat
abbrev pub moved : {A : Type 0} → QueueState A → ℕ → QueueMove A → QueueState A
moved st seat m = record (written st m.write) { phase = with_at st.phase seat m.phase; past = past_after seat m.mark st.past }

-- How the ledgers of all processors and the whole histories match.
use Rattle.std.specs.Prelude.{◌≡◌, ℕ, zero, suc, ◌+◌, ◌<◌, Bool, List, [], ◌∷◌, ◌++◌, map, pos, length, slice_index, nat_lt}
use Rattle.std.specs.List.{sum_by}
use Rattle.fak_model.specs.declared.queue.Kind.{Kind}
use Rattle.fak_model.specs.declared.queue.Mark.{Mark}
use Rattle.fak_model.specs.declared.room.RoomKind.{RoomKind}
use Rattle.fak_model.specs.declared.room.RoomMark.{RoomMark}
use Rattle.fak_model.specs.declared.credit.CreditKind.{CreditKind}
use Rattle.fak_model.specs.declared.credit.CreditMark.{CreditMark}
use Rattle.fak_model.specs.Histories.{AreNamed}
use Rattle.fak_model.specs.Queue.{IsQueueHistory, contents, count}
use Rattle.fak_model.specs.Room.{room_rules, IsRoomHistory}
use Rattle.fak_model.specs.Room as room
use Rattle.fak_model.specs.Credit as credit
use Rattle.fak_sem.specs.Grants.{IsSettled}
use Rattle.fak_text.specs.Script.{ScriptOf}
use Rattle.fak_text.specs.Journal.{NoteOf, Process}
use Rattle.fak_run.specs.ListScheduler.{numbers_from}
use Rattle.fak_run.specs.Report.{RowOf, rows_with, sleepers_outcome}
use Rattle.fak_run.specs.Ledger.{Ledger, Balanced, NameAndProgram, named, shuts_of}

pub record Histories : Type 0 where
  pub ready : List (Mark Process)
  pub free : List (Mark ℕ)
  pub births : List RoomMark
  pub busy : List CreditMark
  pub credits : ℕ → List CreditMark
  pub waits : ℕ → List (Mark Process)

-- the names of the started processes, each with its program
abbrev pub begun_names : ℕ → List ℕ → List NameAndProgram
begun_names i [] = []
begun_names i (program ∷ programs) = (i ∷ [], program) ∷ begun_names (suc i) programs

-- these kinds weigh the same as the marks of a queue, of a room, or of a credit
abbrev pub WeighsQueue : {A : Type 0} → List (Mark A) → List (Kind A) → Type 0
WeighsQueue {A} h kinds = (w : Kind A → ℕ) → count w h ≡ sum_by w kinds

abbrev pub WeighsRoom : List RoomMark → List RoomKind → Type 0
WeighsRoom h kinds = (w : RoomKind → ℕ) → room.total w h ≡ sum_by w kinds

abbrev pub WeighsCredit : List CreditMark → List CreditKind → Type 0
WeighsCredit h kinds = (w : CreditKind → ℕ) → sum_by w (map credit.kind_of h) ≡ sum_by w kinds

-- the joined ledger of all processors, and the whole histories, once all seats of each object are joined
pub record Gathered (script : ScriptOf) (seats : ℕ) (h : Histories) (l : Ledger) : Type 0 where
  pub balanced : Balanced script (length script.semaphores) [] [] l
  pub ready : WeighsQueue h.ready l.ready
  pub free : WeighsQueue h.free l.free
  pub births : WeighsRoom h.births l.births
  pub busy : WeighsCredit h.busy l.busy
  pub credits : (s : ℕ) → s < length script.semaphores → WeighsCredit (h.credits s) (l.credits s)
  pub waits : (s : ℕ) → s < length script.semaphores → WeighsQueue (h.waits s) (l.waits s)
  pub ready_legal : IsQueueHistory script.slots h.ready
  pub free_legal : IsQueueHistory script.slots h.free
  pub waits_legal : (s : ℕ) → s < length script.semaphores → IsQueueHistory script.slots (h.waits s)
  pub births_lawful : IsRoomHistory script.births h.births
  pub births_named : AreNamed (room_rules script.births) seats h.births
  -- the value that was last observed
  pub idle : credit.value (length script.start) h.busy ≡ pos 0
  pub settled : (s : ℕ) → s < length script.semaphores → IsSettled (slice_index script.semaphores s) (h.credits s) (h.waits s)
  pub begun : map named l.begun ≡ begun_names 0 script.start
  pub first : l.first ≡ numbers_from 0 script.slots

-- the processes that sleep at the end, semaphore by semaphore
abbrev pub asleep : (ℕ → List (Mark Process)) → ℕ → List Process
asleep waits zero = []
asleep waits (suc n) = asleep waits n ++ contents (waits n)

-- the sum of a weight over the notes of all rows
abbrev pub lines : (NoteOf → ℕ) → List RowOf → ℕ
lines w rows = sum_by (λ r. sum_by w r.process.journal) rows

abbrev pub lines_of : (NoteOf → ℕ) → List Process → ℕ
lines_of w ps = sum_by (λ (p : Process). sum_by w p.journal) ps

-- whether some row has a shutdown line
abbrev pub is_shut : List RowOf → List Process → Bool
is_shut rows sleepers = nat_lt 0 (lines shuts_of rows + lines_of shuts_of sleepers)

-- the rows of all processes, before they are sorted
abbrev pub rows_of : ScriptOf → Histories → Ledger → List RowOf
rows_of script h l =
    let sleepers = asleep h.waits (length script.semaphores) in
    l.rows ++ rows_with (sleepers_outcome (is_shut l.rows sleepers)) sleepers

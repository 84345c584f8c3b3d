-- From each step on the bits to what it leaves at the seat, and what its callers see.
use Rattle.fak_model.specs.declared.note.NoteKind.{NoteKind}
use Rattle.fak_model.specs.declared.note.NoteKind.TheVariants.{AsSender, AsReceiver, Checks}
use Rattle.fak_model.specs.declared.note.Sign.TheVariants.{FindsNoItem, FallsAsleep, IsWoken, TakesBack, FindsBit, PassesWord, FindsWord, WakesEnd}
use Rattle.fak_model.proofs.Deciding.{same_or_not}
use Rattle.fak_queue.specs.declared.role.Role.{Role}
use Rattle.fak_queue.specs.BitSteps.{Notes, NotesNothing, SawBit, TookBack, Looked, Cleared, TestedRoomAgain, TestedItemAgain, TestedDrainedAgain, CheckedDrained}
use Rattle.fak_queue.specs.Drained.{IsDrained}
use Rattle.fak_queue.specs.Found.{HasRoom, HasNoRoom, HasItem, HasNoItem}
use Rattle.fak_queue.specs.SeatParts.{PartsInfo, queue_parts}
use Rattle.fak_queue.specs.Sleepers.{as_role}
use Rattle.fak_queue.specs.SleeperSeats.{SleeperInfo, KnowsNotes, AddsNote, AddsNoNote, SeesBit, TakesBit, LooksAt, ClearsBit, TestsRoom, TestsItem, TestsDrained, ChecksDrained, sleeper_info}
use Rattle.fak_queue.proofs.Common.{UpperCount, LowerCount, QueueLimits, QueueHolder, QueueInfo, queue_info, IsQueue, IsQueueSeat, Close, Has, Full, Shut, ◌≡◌, ◌∙◌, ℕ, List, ap, subst, inl, inr, reverse, Ok, Err, Bool, true, false, Mark, Phase, TableId, object_id, state_of, Idle}
use Rattle.fak_queue.proofs.SleeperSeats.{Here, seat_quiet, knows_quiet, adds_no_note, told_quiet, seat_noted, knows_noted, adds_note, told_noted}

module _ {T : Type 0} (key : QueueLimits) {size seats name left : ℕ} {p : Phase T} {table mine : TableId} {m : QueueHolder T} {parts : PartsInfo T} {old : SleeperInfo T} {queue : QueueInfo}
    (f : IsQueueSeat mine.slots seats name p left m) (q : IsQueue size table) (parts_is : queue_parts (object_id mine seats) name left m ≡ parts) (old_is : sleeper_info parts ≡ old) (knows : KnowsNotes parts)
    (queue_is : queue_info (object_id table key.seats) ≡ queue) (fits : old.seat.object ≡ queue.object) (idle : state_of old.seat ≡ Idle) {now : TableId} (stays : now ≡ mine) (after : QueueHolder T) where
  abbrev New : SleeperInfo T
  New = Here now seats name left after

  -- what the types keep, and a fact of the seat before and after
  abbrev Kept : Type 0 → Type 0
  Kept R = IsQueueSeat now.slots seats name p left after × KnowsNotes (queue_parts (object_id now seats) name left after) × R

  quiet : {tells : List (Mark T) → Type 0} → NotesNothing table.slots key.seats tells m after → Kept (AddsNoNote queue.size old New)
  quiet l = (seat_quiet key f q parts_is old_is knows queue_is fits idle stays after l, knows_quiet key f q parts_is old_is knows queue_is fits idle stays after l, adds_no_note key f q parts_is old_is knows queue_is fits idle stays after l)

  pub noted : (k : NoteKind) {tells : List (Mark T) → Type 0} → Notes table.slots key.seats name k tells m after → Kept (AddsNote queue.size k old New)
  noted k l = (seat_noted key f q parts_is old_is knows queue_is fits idle stays after k l, knows_noted key f q parts_is old_is knows queue_is fits idle stays after k l, adds_note key f q parts_is old_is knows queue_is fits idle stays after k l)

  -- the same with what the load told of the history
  quiet_told : (P : List (Mark T) → Type 0) → NotesNothing table.slots key.seats (λ past. P (reverse past)) m after → Kept (AddsNoNote queue.size old New × P (reverse after.0.seen))
  quiet_told P l = let a = quiet l in (a.0, a.1, (a.2, told_quiet key f q parts_is old_is knows queue_is fits idle stays after l))

  noted_told : (k : NoteKind) (P : List (Mark T) → Type 0) → Notes table.slots key.seats name k (λ past. P (reverse past)) m after → Kept (AddsNote queue.size k old New × P (reverse after.0.seen))
  noted_told k P l = let a = noted k l in (a.0, a.1, (a.2, told_noted key f q parts_is old_is knows queue_is fits idle stays after k l))

  size_is : table.slots ≡ queue.size
  size_is = ap (λ (i : QueueInfo). i.size) queue_is

  name_is : name ≡ old.seat.name
  name_is = ap (λ (p : PartsInfo T). p.seat.name) parts_is ∙ ap (λ (s : SleeperInfo T). s.seat.name) old_is

  -- ---- the steps

  pub saw : (role : Role) (b : Bool) → SawBit table.slots key.seats name role b m after → Kept (SeesBit queue.size role b old New)
  saw role true l = subst (λ k. Kept (AddsNote queue.size (as_role role (FindsBit k true)) old New)) name_is (noted (as_role role (FindsBit name true)) l)
  saw role false l = noted (as_role role IsWoken) l

  pub took : (role : Role) (b : Bool) → TookBack table.slots key.seats name role b m after → Kept (TakesBit queue.size role b old New)
  took role true l = noted (as_role role TakesBack) l
  took role false l = noted (as_role role IsWoken) l

  pub looked : (role : Role) (word found : ℕ) → Looked table.slots key.seats name role word found m after → Kept (LooksAt queue.size role word found old New)
  looked role word found l = elim (same_or_not found 0) [
    | inl none ↦ (let a = noted (as_role role (PassesWord word)) (l.none none) in (a.0, a.1, record { none = λ _. a.2; some = λ some. absurd (some none) }))
    | inr some ↦ (let a = noted (as_role role (FindsWord word found)) (l.some some) in (a.0, a.1, record { none = λ none. absurd (some none); some = λ _. a.2 }))
  ]

  pub cleared : (role : Role) (other : ℕ) (b : Bool) → Cleared table.slots key.seats name role other b m after → Kept (ClearsBit queue.size role other b old New)
  cleared role other true l = noted (as_role role (WakesEnd other)) l
  cleared role other false l = noted (as_role role (FindsBit other false)) l

  pub tested_room : (u : UpperCount) → TestedRoomAgain table.slots key.seats name u m after → Kept (TestsRoom queue.size u old New)
  tested_room (Ok room) l = subst (λ z. Kept (AddsNoNote queue.size old New × HasRoom z (reverse after.0.seen))) size_is (quiet_told (HasRoom table.slots) l)
  tested_room (Err (Full u)) l = subst (λ z. Kept (AddsNote queue.size (AsSender FallsAsleep) old New × HasNoRoom z u (reverse after.0.seen))) size_is (noted_told (AsSender FallsAsleep) (HasNoRoom table.slots u) l)
  tested_room (Err Shut) l = quiet_told (Has Close) l

  pub tested_item : (r : LowerCount) → TestedItemAgain table.slots key.seats name r m after → Kept (TestsItem queue.size r old New)
  tested_item (Ok stock) l = quiet_told HasItem l
  tested_item (Err low) l = noted_told (AsReceiver FindsNoItem) (HasNoItem low) l

  pub tested_drained : (b : Bool) → TestedDrainedAgain table.slots key.seats name b m after → Kept (TestsDrained queue.size b old New)
  tested_drained true l = quiet_told IsDrained l
  tested_drained false l = noted_told (AsReceiver FallsAsleep) (λ h. IsDrained h → ⊥) l

  pub checked : (b : Bool) → CheckedDrained table.slots key.seats name b m after → Kept (ChecksDrained queue.size b old New)
  checked true l = noted_told (Checks true) IsDrained l
  checked false l = noted_told (Checks false) (λ h. IsDrained h → ⊥) l

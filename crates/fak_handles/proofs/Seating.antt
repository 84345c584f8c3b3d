-- The seats of an object as they are opened, each in a handle.
use Rattle.fak_handles.proofs.Common.{◌≡◌, ℕ, suc, ◌+◌, ◌-◌, ◌<◌, List, [], ◌∷◌, length, slice_index_or, slice_set, ap, sym, subst, ◌∙◌, inl, inr, arith, get_or-set_same, get_or-set_other, HasSeat, AreSeatedBelow}
use Rattle.std.proofs.lemmas.Bool.{cases_eq}
use Rattle.fak_model.specs.Calls.{ObjectId, seat_info, fresh_seats}
use Rattle.fak_files.specs.Calls.{FileSeatInfo, file_seat, idle_seats, FileTableInfo}
use Rattle.fak_files.specs.declared.phase.Hold.TheVariants.{Nothing}
use Rattle.fak_sem.specs.Semaphores.{SemId, SemSeatInfo, fresh_sem_seats, SemInfo, seats_of}
use Rattle.fak_queue.specs.Queues.{QueueInfo}
use Rattle.fak_count.specs.Rooms.{RoomInfo}
use Rattle.fak_count.specs.Credits.{CreditInfo}
use Rattle.fak_handles.specs.Openings.{IsFreshQueue, IsFreshRoom, IsFreshCredit, IsFreshFile, IsFreshSem, IsFreshChannel, IsOpenedQueue, IsOpenedRoom, IsOpenedCredit, IsOpenedTable, IsOpenedSem, IsOpenedChannel}
use Rattle.fak_channel.specs.declared.channel.Channel.{Channel}
use Rattle.fak_handles.specs.declared.channel.seat.Item.{Item}
use Rattle.fak_handles.specs.declared.desk.Desk.{Desk}
use Rattle.fak_handles.specs.declared.padded_handle.PaddedHandle.{PaddedHandle}

-- one handle more has its seat
pub seated_next : (IsFresh : ℕ → Desk → Type 0) (n : ℕ) (handles : List PaddedHandle) (p : PaddedHandle) → n < length handles → AreSeatedBelow IsFresh n handles → HasSeat IsFresh n p → AreSeatedBelow IsFresh (n + 1) (slice_set handles n p)
seated_next IsFresh n handles p inside below has name d low = elim (cases_eq name n) [
  | inl e ↦ subst (λ k. HasSeat IsFresh k (slice_index_or (slice_set handles n p) k d)) (sym e) (subst (HasSeat IsFresh n) (sym (get_or-set_same handles n p d inside)) has)
  | inr other ↦ subst (HasSeat IsFresh name) (sym (get_or-set_other handles n name p d other)) (below name d (let lt : name < n = search (arith, low, other) in lt))
]

-- the first of the seats of a table from this name on, and the others
pub record IsNextFile (object : ObjectId) (stint name seats : ℕ) (x : FileSeatInfo) (rest : List FileSeatInfo) : Type 0 where
  pub first : x ≡ file_seat (seat_info object name stint []) Nothing
  pub others : rest ≡ idle_seats (fresh_seats object stint (name + 1) (seats - (name + 1)))

pub next_file : {object : ObjectId} {stint name seats : ℕ} {items rest : List FileSeatInfo} {x : FileSeatInfo} → name < seats → items ≡ idle_seats (fresh_seats object stint name (seats - name)) → items ≡ x ∷ rest → IsNextFile object stint name seats x rest
next_file {object} {stint} {name} {seats} {items} {rest} {x} below are is =
    let count : seats - name ≡ suc (seats - (name + 1)) = omega (arith, below) in
    let up : suc name ≡ name + 1 = omega arith in
    let all : x ∷ rest ≡ file_seat (seat_info object name stint []) Nothing ∷ idle_seats (fresh_seats object stint (suc name) (seats - (name + 1))) = sym is ∙ (are ∙ ap (λ k. idle_seats (fresh_seats object stint name k)) count) in
    record {
      first = cc;
      others = (let r : rest ≡ idle_seats (fresh_seats object stint (suc name) (seats - (name + 1))) = cc in r ∙ ap (λ k. idle_seats (fresh_seats object stint k (seats - (name + 1)))) up);
    }

-- the same of a semaphore
abbrev pub fresh_sem : {T : Type 0} → SemId → ℕ → ℕ → SemSeatInfo T
fresh_sem object stint name = record { object = object; name = name; stint = stint; credit_seen = []; queue_seen = [] }

pub record IsNextSem {T : Type 0} (object : SemId) (stint name seats : ℕ) (x : SemSeatInfo T) (rest : List (SemSeatInfo T)) : Type 0 where
  pub first : x ≡ fresh_sem object stint name
  pub others : rest ≡ fresh_sem_seats object stint (name + 1) (seats - (name + 1))

pub next_sem : {T : Type 0} {object : SemId} {stint name seats : ℕ} {items rest : List (SemSeatInfo T)} {x : SemSeatInfo T} → name < seats → items ≡ fresh_sem_seats object stint name (seats - name) → items ≡ x ∷ rest → IsNextSem object stint name seats x rest
next_sem {T} {object} {stint} {name} {seats} {items} {rest} {x} below are is =
    let count : seats - name ≡ suc (seats - (name + 1)) = omega (arith, below) in
    let up : suc name ≡ name + 1 = omega arith in
    let all : x ∷ rest ≡ fresh_sem object stint name ∷ fresh_sem_seats object stint (suc name) (seats - (name + 1)) = sym is ∙ (are ∙ ap (fresh_sem_seats {T = T} object stint name) count) in
    record {
      first = cc;
      others = (let r : rest ≡ fresh_sem_seats object stint (suc name) (seats - (name + 1)) = cc in r ∙ ap (λ k. fresh_sem_seats {T = T} object stint k (seats - (name + 1))) up);
    }

-- ---- an object all of whose seats have handles

module _ {stint n : ℕ} {handles : List PaddedHandle} (len : length handles ≡ n) where
  pub opened_queue : {size : ℕ} (made shared : QueueInfo) → shared ≡ made → made.size ≡ size → made.object.seats ≡ n → AreSeatedBelow (IsFreshQueue shared stint) n handles → IsOpenedQueue size stint handles
  opened_queue {size} made shared is value seats seated = record {
    queue = shared;
    size_is = ap (λ q. q.size) is ∙ value;
    seats_are = ap (λ q. q.object.seats) is ∙ (seats ∙ sym len);
    seated = subst (λ k. AreSeatedBelow (IsFreshQueue shared stint) k handles) (sym len) seated;
  }

  pub opened_room : {bound : ℕ} (made shared : RoomInfo) → shared ≡ made → made.bound ≡ bound → made.object.seats ≡ n → AreSeatedBelow (IsFreshRoom shared stint) n handles → IsOpenedRoom bound stint handles
  opened_room {bound} made shared is value seats seated = record {
    room = shared;
    bound_is = ap (λ q. q.bound) is ∙ value;
    seats_are = ap (λ q. q.object.seats) is ∙ (seats ∙ sym len);
    seated = subst (λ k. AreSeatedBelow (IsFreshRoom shared stint) k handles) (sym len) seated;
  }

  pub opened_credit : {start : ℕ} (made shared : CreditInfo) → shared ≡ made → made.start ≡ start → made.object.seats ≡ n → AreSeatedBelow (IsFreshCredit shared stint) n handles → IsOpenedCredit start stint handles
  opened_credit {start} made shared is value seats seated = record {
    credit = shared;
    start_is = ap (λ q. q.start) is ∙ value;
    seats_are = ap (λ q. q.object.seats) is ∙ (seats ∙ sym len);
    seated = subst (λ k. AreSeatedBelow (IsFreshCredit shared stint) k handles) (sym len) seated;
  }

  pub opened_table : {entries : ℕ} (made shared : FileTableInfo) → shared ≡ made → made.entries ≡ entries → made.object.seats ≡ n → AreSeatedBelow (IsFreshFile shared stint) n handles → IsOpenedTable entries stint handles
  opened_table {entries} made shared is value seats seated = record {
    table = shared;
    entries_are = ap (λ q. q.entries) is ∙ value;
    seats_are = ap (λ q. q.object.seats) is ∙ (seats ∙ sym len);
    seated = subst (λ k. AreSeatedBelow (IsFreshFile shared stint) k handles) (sym len) seated;
  }

  pub opened_semaphore : {start size : ℕ} (made shared : SemInfo) → shared ≡ made → made.object.start ≡ start → made.size ≡ size → seats_of made.object ≡ n → AreSeatedBelow (IsFreshSem shared stint) n handles → IsOpenedSem start size stint handles
  opened_semaphore made shared is start size seats seated = record {
    sem = shared;
    start_is = ap (λ q. q.object.start) is ∙ start;
    size_is = ap (λ q. q.size) is ∙ size;
    seats_are = ap (λ q. seats_of q.object) is ∙ (seats ∙ sym len);
    seated = subst (λ k. AreSeatedBelow (IsFreshSem shared stint) k handles) (sym len) seated;
  }

  pub opened_channel : {size : ℕ} (made shared : Channel Item) → shared ≡ made → made.queue.size ≡ size → made.queue.object.seats ≡ n → AreSeatedBelow (IsFreshChannel shared stint) n handles → IsOpenedChannel size stint handles
  opened_channel made shared is size seats seated = record {
    channel = shared;
    size_is = ap (λ (c : Channel Item). c.queue.size) is ∙ size;
    seats_are = ap (λ (c : Channel Item). c.queue.object.seats) is ∙ (seats ∙ sym len);
    seated = subst (λ k. AreSeatedBelow (IsFreshChannel shared stint) k handles) (sym len) seated;
  }

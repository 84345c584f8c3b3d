-- How the calls on the shared objects make a seat's own marks grow.
use Rattle.fak_processor.proofs.Common.{◌≡◌, ℕ, List, [], ◌∷◌, ◌++◌, length, refl, ap, sym, subst, arith, map, ℤ, Some, None, sum_by, flat_map, append-nil, sum_by-append, Rules, SeatInfo, queue_rules, room_rules, credit_rules, put_of, got_of, Kind, Mark, RoomKind, Over, Back, RoomMark, CreditKind, Debit, Credit, CreditMark, SemInfo, SemSeatInfo, credit_part, queue_part, Downs, Ups, ScriptOf, Process, Ledger, Balanced, joined, Turning, Grows, Adds, balanced-joined, Owns, queue_kind, Bundle, common_steps}
use Rattle.fak_model.specs.Room as room
use Rattle.fak_model.specs.Credit as credit
use Rattle.fak_count.specs.Rooms as rooms
use Rattle.fak_count.specs.Credits as credits
use Rattle.fak_queue.proofs.Common.{made_by, Makes, Deletes, RefusedInsertion, NotIn, WithdrawnIn, ClosedIn, WithdrawnLate, RefusedDeletion, NotOut, WithdrawnOut, kinds_not_in, kinds_not_out, kinds_in, kinds_out}
use Rattle.fak_processor.proofs.Tallies.{owns_more}

-- ---- a seat

pub grows_same : {M W C K : Type 0} (rules : Rules M W C) (kind_of : M → K) (s : SeatInfo M) → Grows rules kind_of s s []
grows_same rules kind_of s = record { name = refl; owns = λ before o. subst (Owns rules kind_of s) (sym (append-nil before)) o }

made_kinds : {T : Type 0} (name : ℕ) (kinds : List (Kind T)) → map queue_kind (made_by name kinds) ≡ kinds
made_kinds name [] = refl
made_kinds name (k ∷ kinds) = ap (λ l. k ∷ l) (made_kinds name kinds)

pub grows_makes : {T : Type 0} {size : ℕ} {old new : SeatInfo (Mark T)} (kinds : List (Kind T)) → Makes size kinds old new → Grows (queue_rules size) queue_kind old new kinds
grows_makes {old = old} kinds m = record { name = ap (λ s. s.name) m.same_seat; owns = λ before o. owns_more kinds m (made_kinds old.name kinds) o }

pub grows_deletes : {T : Type 0} {size k : ℕ} {x : T} {old new : SeatInfo (Mark T)} → Deletes size k x old new → Grows (queue_rules size) queue_kind old new (kinds_out k x)
grows_deletes {k = k} {x = x} d = grows_makes (kinds_out k x) d.makes

pub grows_room : {kind : RoomKind} {room_is : rooms.RoomInfo} {old new : SeatInfo RoomMark} {answer : ℤ} → rooms.MakesCall kind room_is old new answer → Grows (room_rules room_is.bound) room.kind_of old new (kind ∷ [])
grows_room {kind} c = record { name = ap (λ s. s.name) c.appends.same_seat; owns = λ before o. owns_more (kind ∷ []) c.appends refl o }

pub grows_withdraws : {d : ℕ} {room_is : rooms.RoomInfo} {old new : SeatInfo RoomMark} {answer : ℤ} → rooms.Withdraws d room_is old new answer → Grows (room_rules room_is.bound) room.kind_of old new (Over d ∷ Back d ∷ [])
grows_withdraws {d} c = record { name = ap (λ s. s.name) c.appends.same_seat; owns = λ before o. owns_more (Over d ∷ Back d ∷ []) c.appends refl o }

pub grows_credit : {kind : CreditKind} {credit_is : credits.CreditInfo} {old new : SeatInfo CreditMark} {answer : ℤ} → credits.MakesCall kind credit_is old new answer → Grows credit_rules credit.kind_of old new (kind ∷ [])
grows_credit {kind} c = record { name = ap (λ s. s.name) c.appends.same_seat; owns = λ before o. owns_more (kind ∷ []) c.appends refl o }

-- ---- a semaphore

-- refused calls put and get nothing
abbrev WeighNothing : {T : Type 0} → (T → ℕ) → List (Kind T) → Type 0
WeighNothing f kinds = (sum_by (put_of f) kinds ≡ 0) × (sum_by (got_of f) kinds ≡ 0)

refused_weigh : {T R : Type 0} (kinds_of : R → List (Kind T)) (f : T → ℕ) → ((r : R) → WeighNothing f (kinds_of r)) → (rs : List R) → WeighNothing f (flat_map kinds_of rs)
refused_weigh kinds_of f one [] = (refl, refl)
refused_weigh kinds_of f one (r ∷ rs) =
    let rest = refused_weigh kinds_of f one rs in
    let here = one r in
    (omega (arith, rest.0, here.0, sum_by-append (put_of f) (kinds_of r) (flat_map kinds_of rs)), omega (arith, rest.1, here.1, sum_by-append (got_of f) (kinds_of r) (flat_map kinds_of rs)))

pub refused_in_weighs : {T : Type 0} (f : T → ℕ) (rs : List RefusedInsertion) → WeighNothing f (flat_map kinds_not_in rs)
refused_in_weighs f = refused_weigh kinds_not_in f one
  where
    one : (r : RefusedInsertion) → WeighNothing f (kinds_not_in r)
    one NotIn = (refl, refl)
    one WithdrawnIn = (refl, refl)
    one ClosedIn = (refl, refl)
    one WithdrawnLate = (refl, refl)

pub refused_out_weighs : {T : Type 0} (f : T → ℕ) (rs : List RefusedDeletion) → WeighNothing f (flat_map kinds_not_out rs)
refused_out_weighs f = refused_weigh kinds_not_out f one
  where
    one : (r : RefusedDeletion) → WeighNothing f (kinds_not_out r)
    one NotOut = (refl, refl)
    one WithdrawnOut = (refl, refl)

-- a down that parks: a debit, refused insertions and one insertion
pub grows_parks : {T : Type 0} {sem : SemInfo} {who : T} {old new : SemSeatInfo T} → Downs sem who old new None
    → Grows credit_rules credit.kind_of (credit_part old) (credit_part new) (Debit ∷ [])
    × ((rs : List RefusedInsertion) × (k : ℕ) × Grows (queue_rules sem.size) queue_kind (queue_part old) (queue_part new) (flat_map kinds_not_in rs ++ kinds_in k who))
grows_parks {who = who} d =
    let i = d.passes.inserts in
    (grows_credit d.debits, (i.1.refused, i.0, grows_makes (flat_map kinds_not_in i.1.refused ++ kinds_in i.0 who) i.1.makes))

-- a down that passes: only a debit
pub grows_passes : {T : Type 0} {sem : SemInfo} {who passed : T} {old new : SemSeatInfo T} → Downs sem who old new (Some passed)
    → Grows credit_rules credit.kind_of (credit_part old) (credit_part new) (Debit ∷ []) × Grows (queue_rules sem.size) queue_kind (queue_part old) (queue_part new) [] × (passed ≡ who)
grows_passes {sem = sem} {old = old} {new = new} d = grind (arith, common_steps, grows_credit, queue_rules, queue_kind, queue_part, grows_same)

pub grows_wakes : {T : Type 0} {sem : SemInfo} {woken : T} {old new : SemSeatInfo T} → Ups sem old new (Some woken)
    → Grows credit_rules credit.kind_of (credit_part old) (credit_part new) (Credit ∷ [])
    × ((rs : List RefusedDeletion) × (k : ℕ) × Grows (queue_rules sem.size) queue_kind (queue_part old) (queue_part new) (flat_map kinds_not_out rs ++ kinds_out k woken))
grows_wakes {woken = woken} u =
    let d = u.wakes.deletes in
    (grows_credit u.credits, (d.1.refused, d.0, grows_makes (flat_map kinds_not_out d.1.refused ++ kinds_out d.0 woken) d.1.makes))

pub grows_adds : {T : Type 0} {sem : SemInfo} {old new : SemSeatInfo T} → Ups sem old new None
    → Grows credit_rules credit.kind_of (credit_part old) (credit_part new) (Credit ∷ []) × Grows (queue_rules sem.size) queue_kind (queue_part old) (queue_part new) []
grows_adds {sem = sem} {old = old} {new = new} u = grind (arith, common_steps, grows_credit, queue_rules, queue_kind, queue_part, grows_same)

-- ---- a processor

-- an event
pub turning_more : {script : ScriptOf} {old new : Bundle} {l : Ledger} (m : Ledger) {before after : List Process}
    → Turning script old l before → Adds script old new m → Balanced script (length script.semaphores) before after m → Turning script new (joined l m) after
turning_more {script} {l = l} m {before} {after} t a b = record {
  balanced = balanced-joined script (length script.semaphores) [] before after l m t.balanced b;
  ready = a.ready.owns l.ready t.ready;
  free = a.free.owns l.free t.free;
  births = a.births.owns l.births t.births;
  busy = a.busy.owns l.busy t.busy;
  credits = λ s below. let c = a.credits s below in c.owns (l.credits s) (t.credits s below);
  waits = λ s below. let w = a.waits s below in w.owns (l.waits s) (t.waits s below);
}

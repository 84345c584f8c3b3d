-- How calls of a processor add to its seats' own marks and to its rows.
use Rattle.std.proofs.lemmas.Bool.{cases_eq}
use Rattle.std.proofs.lemmas.List.{append-nil, map-append, get_or_default, get_or-set_same, get_or-set_other}
use Rattle.fak_model.specs.Room as room
use Rattle.fak_model.specs.Credit as credit
use Rattle.fak_count.specs.Rooms as rooms
use Rattle.fak_queue.proofs.Common.{Makes, Deletes, RefusedInsertion, NotIn, WithdrawnIn, ClosedIn, WithdrawnLate, kinds_not_in, kinds_in}
use Rattle.fak_processor.proofs.Common.{Owns, Rules, Ledger, Made, nothing, joined, queue_kind, Bundle, ProcessorOf, AreLines, is_file_line, file_lines, ◌≡◌, ◌⊎◌, ℕ, ◌<◌, Bool, true, false, List, [], ◌∷◌, ◌++◌, All, All-head, All-tail, no_seat, flat_map, length, map, slice_index_or, slice_set, Option, MatchOption, refl, ap, sym, ◌∙◌, subst, arith, append_assoc, ℤ, sum_by-append, filter-append, SeatInfo, queue_rules, room_rules, credit_rules, put_of, got_of, close_of, closed_of, Kind, Mark, kinds_out, RoomKind, No, RoomMark, CreditKind, CreditMark, FileMark, cond_here, cond_else, SemSeatInfo, credit_part, queue_part, ScriptOf, NoteOf, Process, Grows, Adds, MovesNoItem, IsQuiet, GrowsIn, GrowsShut, GrowsAtLast, GrowsIdle, GrowsEmpty, GrowsOut, bundle_of, names_of, files_of, Gains, at_one, IsFull, IsClosed, InsertsAfterFull, ClosesAfterFull, common_steps}
use Rattle.fak_processor.specs.Events.{full, empty, closed, refused_claim}
use Rattle.fak_processor.proofs.Places.{alike_after}
use Rattle.fak_processor.proofs.Calls.{grows_same, grows_makes, grows_deletes, grows_room, grows_withdraws}

-- ---- marks

-- a seat's own marks grow twice
grows_then : {M W C K : Type 0} {rules : Rules M W C} {kind_of : M → K} {a b c : SeatInfo M} (ks ms : List K) → Grows rules kind_of a b ks → Grows rules kind_of b c ms → Grows rules kind_of a c (ks ++ ms)
grows_then {rules = rules} {kind_of = kind_of} {c = c} ks ms x y = record {
  name = y.name ∙ x.name;
  owns = λ before o. subst (Owns rules kind_of c) (append_assoc before ks ms) (y.owns (before ++ ks) (x.owns before o));
}

-- ---- marks that weigh nothing

pub idle_none : {T : Type 0} → MovesNoItem {T = T} []
idle_none = record { puts = λ f. refl; gots = λ f. refl }

pub idle_then : {T : Type 0} {ks ms : List (Kind T)} → MovesNoItem ks → MovesNoItem ms → MovesNoItem (ks ++ ms)
idle_then {ks = ks} {ms = ms} a b = record {
  puts = λ f. omega (arith, a.puts f, b.puts f, sum_by-append (put_of f) ks ms);
  gots = λ f. omega (arith, a.gots f, b.gots f, sum_by-append (got_of f) ks ms);
}

pub quiet_none : {T : Type 0} → IsQuiet {T = T} []
quiet_none = record { idle = idle_none; closes = refl; closeds = refl }

pub quiet_then : {T : Type 0} {ks ms : List (Kind T)} → IsQuiet ks → IsQuiet ms → IsQuiet (ks ++ ms)
quiet_then {ks = ks} {ms = ms} a b = grind (arith, common_steps, idle_then, sum_by-append, close_of, closed_of)

pub quiet_full : {T : Type 0} (late : Bool) → IsQuiet {T = T} (full late)
quiet_full late = grind (arith, common_steps, full, IsQuiet)

-- insertions that were refused Full
quiet_try : {T : Type 0} (r : RefusedInsertion) → IsFull r → IsQuiet {T = T} (kinds_not_in r)
quiet_try r is = grind (arith, common_steps, kinds_not_in, IsFull, IsQuiet, quiet_full)

pub quiet_tries : {T : Type 0} (rs : List RefusedInsertion) → All IsFull rs → IsQuiet {T = T} (flat_map kinds_not_in rs)
quiet_tries [] full = quiet_none
quiet_tries (r ∷ rs) full = quiet_then (quiet_try r (All-head IsFull r rs full)) (quiet_tries rs (All-tail IsFull r rs full))

pub quiet_empty : {T : Type 0} (late : Bool) → IsQuiet {T = T} (empty late)
quiet_empty late = grind (arith, common_steps, empty, IsQuiet)

pub idle_closed : {T : Type 0} (late : Bool) → MovesNoItem {T = T} (closed late)
idle_closed late = grind (arith, common_steps, closed)

-- ---- calls on one queue

module _ {T : Type 0} {size : ℕ} where
  pub in_after_full : {a b : SeatInfo (Mark T)} {k : ℕ} {x : T} → InsertsAfterFull size k x a b → GrowsIn size x a b
  in_after_full {k = k} {x = x} i = let tries = i.tries.refused in record { refused = flat_map kinds_not_in tries; quiet = quiet_tries tries i.full; ticket = k; grows = grows_makes (flat_map kinds_not_in tries ++ kinds_in k x) i.tries.makes }

  pub shut_after_full : {a b : SeatInfo (Mark T)} → ClosesAfterFull size a b → GrowsShut size a b
  shut_after_full {a} {b} c = by c.closed c.is_closed c.tries.makes
    where
      tries : List (Kind T)
      tries = flat_map kinds_not_in c.tries.refused

      by : (r : RefusedInsertion) → IsClosed r → Makes size (tries ++ kinds_not_in r) a b → GrowsShut size a b
      by NotIn is m = absurd is
      by WithdrawnIn is m = absurd is
      by ClosedIn is m = record { refused = tries; quiet = quiet_tries c.tries.refused c.full; late = false; grows = grows_makes (tries ++ closed false) m }
      by WithdrawnLate is m = record { refused = tries; quiet = quiet_tries c.tries.refused c.full; late = true; grows = grows_makes (tries ++ closed true) m }

  pub idle_yet : (s : SeatInfo (Mark T)) → GrowsIdle size s s
  idle_yet s = record { refused = []; idle = idle_none; grows = grows_same (queue_rules size) queue_kind s }

  pub shut_again : {a b c : SeatInfo (Mark T)} → GrowsIdle size a b → GrowsShut size b c → GrowsIdle size a c
  shut_again n g = record { refused = n.refused ++ (g.refused ++ closed g.late); idle = idle_then n.idle (idle_then g.quiet.idle (idle_closed g.late)); grows = grows_then n.refused (g.refused ++ closed g.late) n.grows g.grows }

  pub put_at_last : {a b c : SeatInfo (Mark T)} {x : T} → GrowsIdle size a b → GrowsIn size x b c → GrowsAtLast size x a c
  put_at_last {a} {b} {c} {x} n g = record {
    refused = n.refused ++ g.refused;
    idle = idle_then n.idle g.quiet.idle;
    ticket = g.ticket;
    grows = subst (Grows (queue_rules size) queue_kind a c) (sym (append_assoc n.refused g.refused (kinds_in g.ticket x))) (grows_then n.refused (g.refused ++ kinds_in g.ticket x) n.grows g.grows);
  }

  pub out_at_once : {a b : SeatInfo (Mark T)} {k : ℕ} {x : T} → Deletes size k x a b → GrowsOut size x a b
  out_at_once {k = k} d = record { ticket = k; grows = grows_deletes d }

pub refused_grows : {room_is : rooms.RoomInfo} {old new : SeatInfo RoomMark} {v : ℤ} → rooms.MakesCall (No 1) room_is old new v ⊎ rooms.Withdraws 1 room_is old new v → (late : Bool) × Grows (room_rules room_is.bound) room.kind_of old new (refused_claim late)
refused_grows e = grind (arith, common_steps, room_rules, refused_claim, grows_room, grows_withdraws)

-- ---- a processor

-- no line is made
no_lines : (n : ℕ) (seat : SeatInfo FileMark) (before : List NoteOf) → AreLines n before seat → AreLines n (before ++ []) seat
no_lines n seat before are = subst (λ ls. AreLines n ls seat) (sym (append-nil before)) are

-- the lines of two ledgers
pub files_then : (a b : Ledger) → files_of (joined a b) ≡ files_of a ++ files_of b
files_then a b = ap file_lines (map-append (λ (m : Made). m.note) a.made b.made) ∙ filter-append is_file_line (map (λ (m : Made). m.note) a.made) (map (λ (m : Made). m.note) b.made)

module _ {script : ScriptOf} where
  pub adds_none : (b : Bundle) → Adds script b b nothing
  adds_none b = grind (arith, common_steps, grows_same, queue_rules, queue_kind, room_rules, credit_rules, credit_part, queue_part)

  pub gains_none : (p : ProcessorOf) → Gains script p p nothing
  gains_none p = record { names = refl; adds = λ d. adds_none (bundle_of d p); rows = λ f. omega arith; lines = no_lines script.files p.files.seat }

  -- one after the other
  pub gains_then : {p q r : ProcessorOf} (a b : Ledger) → Gains script p q a → Gains script q r b → Gains script p r (joined a b)
  gains_then {r = r} a b x y = record {
    adds = λ d. let m = x.adds d in let n = y.adds d in record {
      ready = grows_then a.ready b.ready m.ready n.ready;
      free = grows_then a.free b.free m.free n.free;
      births = grows_then a.births b.births m.births n.births;
      busy = grows_then a.busy b.busy m.busy n.busy;
      credits = λ s below. grows_then (a.credits s) (b.credits s) (m.credits s below) (n.credits s below);
      waits = λ s below. grows_then (a.waits s) (b.waits s) (m.waits s below) (n.waits s below);
    };
    rows = λ f. omega (arith, x.rows f, y.rows f, sum_by-append f a.rows b.rows);
    names = y.names ∙ x.names;
    lines = λ before are. subst (λ ls. AreLines script.files ls r.files.seat) (append_assoc before (files_of a) (files_of b) ∙ ap (λ ls. before ++ ls) (sym (files_then a b))) (y.lines (before ++ files_of a) (x.lines before are));
  }

  -- each seat of which a processor has one
  gains_single : (p : ProcessorOf) {r : SeatInfo (Mark Process)} {f : SeatInfo (Mark ℕ)} {b : SeatInfo RoomMark} {c : SeatInfo CreditMark} {ready : List (Kind Process)} {free : List (Kind ℕ)} {births : List RoomKind} {busy : List CreditKind}
      → Grows (queue_rules script.slots) queue_kind p.ready r ready → Grows (queue_rules script.slots) queue_kind p.free f free → Grows (room_rules script.births) room.kind_of p.births b births → Grows credit_rules credit.kind_of p.busy c busy
      → Gains script p (record p { ready = r; free = f; births = b; busy = c }) (record nothing { ready = ready; free = free; births = births; busy = busy })
  gains_single p gr gf gb gc = grind (arith, common_steps, adds_none, bundle_of, names_of, no_lines)

  -- one of them
  module _ (p : ProcessorOf) where
    kept : Adds script (bundle_of no_seat p) (bundle_of no_seat p) nothing
    kept = adds_none (bundle_of no_seat p)

    pub gains_ready : {size : ℕ} {s : SeatInfo (Mark Process)} (kinds : List (Kind Process)) → size ≡ script.slots → Grows (queue_rules size) queue_kind p.ready s kinds → Gains script p (record p { ready = s }) (record nothing { ready = kinds })
    gains_ready {s = s} kinds same g = gains_single p (subst (λ n. Grows (queue_rules n) queue_kind p.ready s kinds) same g) kept.free kept.births kept.busy

    pub gains_free : {size : ℕ} {s : SeatInfo (Mark ℕ)} (kinds : List (Kind ℕ)) → size ≡ script.slots → Grows (queue_rules size) queue_kind p.free s kinds → Gains script p (record p { free = s }) (record nothing { free = kinds })
    gains_free {s = s} kinds same g = gains_single p kept.ready (subst (λ n. Grows (queue_rules n) queue_kind p.free s kinds) same g) kept.births kept.busy

    pub gains_births : {bound : ℕ} {s : SeatInfo RoomMark} (kinds : List RoomKind) → bound ≡ script.births → Grows (room_rules bound) room.kind_of p.births s kinds → Gains script p (record p { births = s }) (record nothing { births = kinds })
    gains_births {s = s} kinds same g = gains_single p kept.ready kept.free (subst (λ n. Grows (room_rules n) room.kind_of p.births s kinds) same g) kept.busy

    pub gains_busy : {s : SeatInfo CreditMark} (kinds : List CreditKind) → Grows credit_rules credit.kind_of p.busy s kinds → Gains script p (record p { busy = s }) (record nothing { busy = kinds })
    gains_busy kinds g = gains_single p kept.ready kept.free kept.births g

  -- the calls of one semaphore
  pub gains_semaphore : (p : ProcessorOf) {size at : ℕ} (was is : SemSeatInfo Process) (seats : List (SemSeatInfo Process)) (credits : List CreditKind) (waits : List (Kind Process)) → at < length p.semaphores
      → size ≡ script.slots → was ≡ slice_index_or p.semaphores at was → seats ≡ slice_set p.semaphores at is
      → Grows credit_rules credit.kind_of (credit_part was) (credit_part is) credits → Grows (queue_rules size) queue_kind (queue_part was) (queue_part is) waits
      → Gains script p (record p { semaphores = seats }) (record nothing { credits = at_one at credits; waits = at_one at waits })
  gains_semaphore p {size} {at} was is seats credits waits below size_is stood stands g w = grind (arith, common_steps, grows_same, queue_rules, queue_kind, room_rules, credit_rules, credit_part, queue_part, names_of, map, alike_after, no_lines, slice_index_or, get_or_default, get_or-set_same, at_one, cases_eq, cond_here, get_or-set_other, cond_else)

-- a slot is taken, or there is none
pub gains_taken : (script : ScriptOf) (p : ProcessorOf) {size : ℕ} (s : SeatInfo (Mark ℕ)) (slot : Option ℕ) → size ≡ script.slots → MatchOption slot (GrowsEmpty size p.free s) (λ n. GrowsOut size n p.free s)
    → MatchOption slot ((late : Bool) × Gains script p (record p { free = s }) (record nothing { free = empty late })) (λ n. (ticket : ℕ) × Gains script p (record p { free = s }) (record nothing { free = kinds_out ticket n }))
gains_taken script p s slot same e = grind (arith, common_steps, nothing, empty, kinds_out, gains_free)

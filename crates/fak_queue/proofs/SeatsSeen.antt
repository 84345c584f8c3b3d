-- The law of sleepers, in the terms of what callers see of their seats.
use Rattle.fak_model.specs.Seats.{In}
use Rattle.fak_channel_core.specs.SleeperMoves.{Account}
use Rattle.fak_channel_core.specs.SleeperSides.{Awake}
use Rattle.fak_queue.specs.declared.role.Role.{Role}
use Rattle.fak_queue.specs.declared.role.Role.TheVariants.{Sender, Receiver}
use Rattle.fak_queue.specs.Accounts.{account_of, kinds_by}
use Rattle.fak_queue.specs.SeatParts.{queue_parts}
use Rattle.fak_queue.specs.SeatsSeen.{AllRest, IsSeenIn, SeatRests, SeatSleeps}
use Rattle.fak_queue.specs.SleeperRest.{AllSeatsRest, IsAtRest, IsAsleepAs, IsBetweenCalls, OwesNothing, SleepsAs, account_in}
use Rattle.fak_queue.specs.SleeperSeats.{AreUndealt, KnowsNotes, SleeperInfo, account_of_seat, fresh_sleeper, sleeper_info}
use Rattle.fak_model.specs.Views.{names_from}
use Rattle.fak_model.proofs.Deciding.{same_or_not}
use Rattle.fak_queue.specs.Sleepers.{duty_as}
use Rattle.fak_queue.proofs.SeatCalls.{idle_phase, state_shown}
use Rattle.fak_queue.proofs.SleeperLaws.{receiver_waits_running, sender_waits_running}
use Rattle.fak_queue.proofs.Stepping.{QueueTable}
use Rattle.fak_queue.proofs.Common.{Alike, QueueLimits, QueueHolder, IsShownQueue, IsQueueSeat, TableId, Phase, Idle, contents, object_id, state_of, token_names, token_phase, some, get_elem?, ◌≡◌, ◌⊎◌, ℕ, zero, suc, ◌+◌, ◌-◌, ◌<◌, ◌≤◌, arith, [], length, refl, sym, ap, ◌∙◌, subst, inl, inr, false, reverse, reverse-reverse, Some}

module _ {T : Type 0} (key : QueueLimits) (s : QueueTable T) where
  abbrev between : (seat : SleeperInfo T) → IsSeenIn key s seat → state_of seat.seat ≡ Idle → IsBetweenCalls s seat.seat.name
  between seat i idle = record {
    id = i.id;
    view = i.view;
    at = i.at;
    named = i.named;
    idle = i.idle idle;
    notes = seat.notes;
    known = i.noted;
  }

  account_same : (seat : SleeperInfo T) (i : IsSeenIn key s seat) (idle : state_of seat.seat ≡ Idle) → account_in key.seats (between seat i idle) ≡ account_of_seat seat
  account_same seat i idle =
      let past : i.view.seen ≡ reverse seat.seat.seen = sym (reverse-reverse i.view.seen) ∙ ap reverse (sym i.seen) in
      λ j. account_of (sym i.seats j) seat.notes (kinds_by seat.seat.name (past j))

  at_rest : (seat : SleeperInfo T) → SeatRests key s seat → IsAtRest key s seat.seat.name
  at_rest seat r =
      let is : account_in key.seats (between seat r.seen r.idle) ≡ account_of_seat seat = account_same seat r.seen r.idle in
      record {
        between = between seat r.seen r.idle;
        owes = subst OwesNothing (sym is) r.owes;
        each = λ role. subst (λ (g : Account). ((duty_as role g).stage ≡ Awake) ⊎ IsAsleepAs key s seat.seat.name role g) (sym is) (r.each role);
      }

  module _ (seats : ℕ → SleeperInfo T) (all : AllRest key s seats) where
    all_rest : AllSeatsRest key s
    all_rest n low = let a = all n low in subst (IsAtRest key s) a.0 (at_rest (seats n) a.1)

    sleeps_as : (n : ℕ) → n < key.seats → (role : Role) → SeatSleeps key s role (seats n) → SleepsAs key s n role
    sleeps_as n low role sleeps =
        let a = all n low in
        let is = account_same (seats n) a.1.seen a.1.idle in
        subst (λ k. SleepsAs key s k role) a.0 record {
          between = between (seats n) a.1.seen a.1.idle;
          asleep = subst (λ (g : Account). IsAsleepAs key s (seats n).seat.name role g) (sym is) sleeps;
        }

    module _ (shown : IsShownQueue key s) (n : ℕ) (low : n < key.seats) where
      pub receiver_waits_seen : SeatSleeps key s Receiver (seats n) → (contents (reverse shown.core.past) ≡ []) × (shown.core.shut ≡ false)
      receiver_waits_seen sleeps = receiver_waits_running key s shown n all_rest (sleeps_as n low Receiver sleeps)

      pub sender_waits_seen : SeatSleeps key s Sender (seats n) → (length (contents (reverse shown.core.past)) ≡ key.size) × (shown.core.shut ≡ false)
      sender_waits_seen sleeps = sender_waits_running key s shown n all_rest (sleeps_as n low Sender sleeps)

-- ---- a seat's token

-- a number is among those from a on
among_names : (n a k : ℕ) → a ≤ n → n < a + k → In n (names_from a k)
among_names n a zero low high = absurd (omega (arith, low, high))
among_names n a (suc k) low high = elim (same_or_not n a) [ inl same ↦ inl same | inr apart ↦ inr (among_names n (suc a) k (omega (arith, low, apart)) (omega (arith, high))) ]

pub seen_here : {T : Type 0} (key : QueueLimits) (s : QueueTable T) (table : TableId) (name left : ℕ) (p : Phase T) (me : QueueHolder T) (id : ℕ) → IsQueueSeat table.slots key.seats name p left me
    → KnowsNotes (queue_parts (object_id table key.seats) name left me) → get_elem? s.views id ≡ some me.0 → IsSeenIn key s (sleeper_info (queue_parts (object_id table key.seats) name left me))
seen_here key s table name left p me id f knows at = record {
  id = id;
  view = me.0;
  at = at;
  named = subst (In name) (sym (token_names f.token)) (inl refl);
  seen = refl;
  noted = knows.known;
  idle = λ e. token_phase f.token ∙ ap (λ z. Some (Alike z)) (idle_phase f.rests (sym (state_shown (object_id table key.seats) name left me p f.rests) ∙ e));
  seats = refl;
}

-- a seat that is still to be dealt
pub undealt_here : {T : Type 0} (key : QueueLimits) (s : QueueTable T) (table : TableId) (stint next n : ℕ) (me : QueueHolder T) (id : ℕ) → AreUndealt key.seats stint next me → next ≤ n → n < key.seats → get_elem? s.views id ≡ some me.0
    → IsSeenIn key s (fresh_sleeper (object_id table key.seats) stint n)
undealt_here key s table stint next n me id u low high at = record {
  id = id;
  view = me.0;
  at = at;
  named = subst (In n) (sym (ap (λ z. z.0.names) u.me_is)) (among_names n next (key.seats - next) low (omega (arith, low, high)));
  seen = ap (λ z. reverse z.0.seen) (sym u.me_is);
  noted = ap (λ z. z.0.noted) u.me_is;
  idle = λ e. ap (λ z. z.0.phase) u.me_is;
  seats = refl;
}

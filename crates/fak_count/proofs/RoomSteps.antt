-- Each kind of step on a room keeps the rule, and shows what it did.
use Rattle.fak_count.proofs.Common.{◌≡◌, ◌≢◌, ℕ, ◌+◌, ◌-◌, ◌%◌, ◌^◌, ◌<◌, ◌≤◌, Bool, true, false, List, [], ◌∷◌, ◌++◌, length, slice_index, slice_get, refl, ap, ◌∙◌, subst, arith, Option, Some, None, pos, ◌+ℤ◌, ◌-ℤ◌, ◌≤ℤ◌, ◌<ℤ◌, nat_lt, map, reverse, replicate, Ok, sum_by, nat_tests, ints, slice_get_within, slice_get-get_or, get_or-replicate, some, get_elem?, IsHistory, sight, AreOwn, Leaves, bias, sees_knows, Idle, Testing, Adding, Backing, Releasing, count_place, KeepsCount, State, Act, keeps, stepped, carried_after, Valid, opening, Allows, RoomKind, AreLawful, Advances, steps, bears, sees_now, stands_now, starts, hears, RoomLimits, IsCount, IsInLargeRange}
use Rattle.std.proofs.Math.ListN.{length-replicate}
use Rattle.fak_model.specs.declared.room.RoomKind.TheVariants.{Up, Over, Back, No, Release as GivenBack}
use Rattle.fak_model.specs.Room.{seat_of, kind_of, up_amount, release_amount, room_rules, amount_held}
use Rattle.fak_core.specs.declared.call.RoomCall.TheVariants.{Tir, Release}
use Rattle.fak_core.specs.declared.room.phase.CoreSeat.{CoreSeat}
use Rattle.fak_core.specs.declared.room.step.RoomMove.{RoomMove}
use Rattle.fak_core.specs.Room.{RoomState, opening as core_opening, fits, test_move, add_move, back_move, release_move, next_move, begun_phase, marks_left, moved, begun}
use Rattle.fak_core.specs.RoomSchedule.{IsReached}
use Rattle.fak_core.proofs.ListWrites.{written_here, written_stays}
use Rattle.fak_core.proofs.RoomKept.{IsKept}
use Rattle.fak_core.proofs.RoomReached.{opening_reached, reached_move, reached_begin, reached_kept, reached_shape, reached_count, held_within}
use Rattle.fak_count.specs.RoomShown.{RoomView, RoomHolder, room_mark, IsReachedRoom, StandsInRoom, room_object, IsShownRoom, opened_room, Holds, FoundValue, LeavesRoom, Tested, Added, Lowered, HeardJoin}
use Rattle.fak_count.proofs.CountWords.{writes, added, subtracted}

lawful : (key : RoomLimits) → AreLawful (room_object key)
lawful key s reached = subst (λ (b : ℕ). IsHistory (room_rules b) (reverse s.past)) (reached_shape key.bound key.seats s reached.reached).0 (reached_kept key.bound key.seats s reached.reached).history

own_left : (name : ℕ) (mark : Option RoomKind) → AreOwn seat_of name (marks_left name mark)
own_left name None = tt
own_left name (Some kind) = (refl, tt)

may_release : (held d : ℕ) → d ≤ held → begun_phase held Idle (Release d) ≡ Ok (Releasing d)
may_release held d enough = let t : nat_lt held d ≡ false = grind (arith, nat_tests) in rw t refl

module _ (key : RoomLimits) (s : State (Unit {0}) RoomView) (r : IsShownRoom key s) (id name : ℕ) (m : RoomHolder) (at : get_elem? s.views id ≡ some m.0) (one : m.0.names ≡ name ∷ []) where
  same_name : (other : ℕ) → m.0.names ≡ other ∷ [] → name ≡ other
  same_name other e = cc (one, e)

  kept : IsKept r.core
  kept = reached_kept key.bound key.seats r.core r.reached.reached

  -- the word is far from its ends
  word_fits : (1024 ≤ slice_index s.words count_place) × (slice_index s.words count_place < 2 ^ 63)
  word_fits =
      let is = r.encoded.count_is in
      let low = r.reached.low in
      let few = r.reached.few in
      let v = reached_count key.bound key.seats r.core r.reached.reached in
      let v_is = v.1 in
      let v_le = v.2 in
      (omega (arith, ints, is, v_is), omega (arith, ints, is, low, few, v_is, v_le))

  found_now : FoundValue (slice_index s.words count_place) r.core.past
  found_now = r.encoded.count_is ∙ ap (λ v. pos bias +ℤ v) kept.counted

  abbrev Outcome : (ℕ → ℕ) → (ℕ → RoomHolder → Type 0) → Type 0
  Outcome f tells = (w : RoomView) × (a : Act (Unit {0})) × Valid s.homes m.1 a × IsShownRoom key (stepped s count_place (f (slice_index s.words count_place)) id m.1 w a) × tells (slice_index s.words count_place) (w, carried_after m.1 a)

  -- what the seat has seen includes all its marks
  held_seen : amount_held name (reverse r.core.past) ≡ amount_held name (reverse m.0.seen)
  held_seen = ap (λ h. sum_by up_amount (map kind_of h) - sum_by release_amount (map kind_of h)) ((sees_knows seat_of m.0.names m.0.seen r.core.past (sees_now (room_object key) s r id name m at one)).own name (bears (room_object key) s r id name m at one))

  -- the seat takes its next step, which may begin a call
  module _ (s0 : RoomState) (x : CoreSeat) (mv : RoomMove) (reached : IsReached key.bound key.seats s0) (same : s0.past ≡ r.core.past)
      (others : (k : ℕ) (y : CoreSeat) → k ≢ name → slice_get r.core.seats k ≡ Some y → slice_get s0.seats k ≡ Some y)
      (here : slice_get s0.seats name ≡ Some x) (next : next_move s0.bound s0.count x.held x.phase ≡ Some mv) where
    abbrev after : RoomState
    after = moved s0 name mv

    abbrev view_after : RoomView
    view_after = sight m.0.names m.0.noted (marks_left name mv.mark ++ r.core.past) mv.seat.phase 0

    after_reached : IsReachedRoom key after
    after_reached = record { reached = reached_move key.bound key.seats s0 name x mv reached here next; low = r.reached.low; few = r.reached.few }

    seat_after : slice_get after.seats name ≡ Some mv.seat
    seat_after = written_here s0.seats name mv.seat (slice_get_within s0.seats name x here)

    advances : Advances (room_object key) r.core name after (marks_left name mv.mark) mv.seat.phase
    advances = record {
      reached = after_reached;
      past = ap (λ h. marks_left name mv.mark ++ h) same;
      own = own_left name mv.mark;
      stands = record { holding = mv.seat.held; seat = seat_after };
      others = λ k p ne old. record { holding = old.holding; seat = written_stays s0.seats name k mv.seat (record { held = old.holding; phase = p }) ne (others k (record { held = old.holding; phase = p }) ne old.seat) };
    }

    -- what the seat then holds is within the bound
    holds_after : amount_held name (reverse (marks_left name mv.mark ++ r.core.past)) ≤ 4294967296
    holds_after =
        let k = reached_kept key.bound key.seats after after_reached.reached in
        let shape = (reached_shape key.bound key.seats after after_reached.reached).0 in
        let low = r.reached.low in
        let within = held_within after name mv.seat k seat_after in
        let holds : mv.seat.held ≡ amount_held name (reverse (marks_left name mv.mark ++ r.core.past)) = (k.seats name mv.seat seat_after).holds ∙ ap (λ h. amount_held name (reverse (marks_left name mv.mark ++ h))) same in
        omega (arith, shape, low, within, holds)

    goes_on : (f : ℕ → ℕ) → pos (f (slice_index s.words count_place)) ≡ pos bias +ℤ mv.count
        → IsShownRoom key (stepped s count_place (f (slice_index s.words count_place)) id m.1 view_after keeps)
        × Leaves (room_object key) m (marks_left name mv.mark) mv.seat.phase 0 m.1 (FoundValue (slice_index s.words count_place)) (view_after, m.1)
    goes_on f is = steps (room_object key) s r id name m at one (lawful key) after (marks_left name mv.mark) mv.seat.phase advances count_place (f (slice_index s.words count_place)) keeps
        (writes s.words r.core.count mv.count (f (slice_index s.words count_place)) r.encoded is) 0 (omega arith) (FoundValue (slice_index s.words count_place)) found_now

  -- the count is the word that was found, minus the bias
  fits_found : (d : ℕ) → fits r.core.bound r.core.count d ≡ true → slice_index s.words count_place + d ≤ bias + key.bound
  fits_found d e =
      let shape = (reached_shape key.bound key.seats r.core r.reached.reached).0 in
      let is = r.encoded.count_is in
      let le : (r.core.count +ℤ pos d) ≤ℤ pos r.core.bound = grind (arith, ints) in
      omega (arith, ints, shape, is, le)

  full_found : (d : ℕ) → fits r.core.bound r.core.count d ≡ false → bias + key.bound < slice_index s.words count_place + d
  full_found d e =
      let shape = (reached_shape key.bound key.seats r.core r.reached.reached).0 in
      let is = r.encoded.count_is in
      let lt : pos r.core.bound <ℤ (r.core.count +ℤ pos d) = grind (arith, ints) in
      omega (arith, ints, shape, is, lt)

  module _ (d : ℕ) (range : (1 ≤ d) × (d ≤ 1024)) where
    raised : pos ((slice_index s.words count_place + d) % 2 ^ 64) ≡ pos bias +ℤ (r.core.count +ℤ pos d)
    raised = added (slice_index s.words count_place) d r.core.count r.encoded.count_is word_fits.1 range.1

    lowered : pos ((slice_index s.words count_place + (2 ^ 64 - d)) % 2 ^ 64) ≡ pos bias +ℤ (r.core.count -ℤ pos d)
    lowered = subtracted (slice_index s.words count_place) d r.core.count r.encoded.count_is word_fits.1 (let w = word_fits.0 in let few = range.1 in omega (arith, w, few))

    -- ---- a test, with which a claim begins

    module _ (idle : m.0.phase ≡ Some Idle) where
      at_rest : StandsInRoom r.core name Idle
      at_rest = stands_now (room_object key) s r id name m at one Idle idle

      abbrev claiming : CoreSeat
      claiming = record { held = at_rest.holding; phase = Testing d }

      claim_reached : IsReached key.bound key.seats (begun r.core name claiming)
      claim_reached = reached_begin key.bound key.seats r.core name (record { held = at_rest.holding; phase = Idle }) (Tir d) (Testing d) r.reached.reached at_rest.seat range refl

      claim_here : slice_get (begun r.core name claiming).seats name ≡ Some claiming
      claim_here = written_here r.core.seats name claiming (slice_get_within r.core.seats name (record { held = at_rest.holding; phase = Idle }) at_rest.seat)

      claim_others : (k : ℕ) (y : CoreSeat) → k ≢ name → slice_get r.core.seats k ≡ Some y → slice_get (begun r.core name claiming).seats k ≡ Some y
      claim_others k y ne old = written_stays r.core.seats name k claiming y ne old

      test_passes : fits r.core.bound r.core.count d ≡ true → Outcome (λ x. x) (Tested key d m)
      test_passes e =
          let mv : RoomMove = test_move true r.core.count at_rest.holding d in
          let near = fits_found d e in
          let t = goes_on (begun r.core name claiming) claiming mv claim_reached refl claim_others claim_here (ap (λ b. Some (test_move b r.core.count at_rest.holding d)) e) (λ x. x) r.encoded.count_is in
          (sight m.0.names m.0.noted r.core.past (Adding d) 0, keeps, tt, t.0, record { small = word_fits.1; fits = λ other e near. t.1; full = λ other e far. absurd (omega (arith, near, far)) })

      test_refuses : fits r.core.bound r.core.count d ≡ false → Outcome (λ x. x) (Tested key d m)
      test_refuses e =
          let mv : RoomMove = test_move false r.core.count at_rest.holding d in
          let far = full_found d e in
          let t = goes_on (begun r.core name claiming) claiming mv claim_reached refl claim_others claim_here (ap (λ b. Some (test_move b r.core.count at_rest.holding d)) e) (λ x. x) r.encoded.count_is in
          let w : RoomView = sight m.0.names m.0.noted (room_mark name (No d) ∷ r.core.past) Idle 0 in (
            w,
            keeps,
            tt,
            t.0,
            record {
              small = word_fits.1;
              fits = λ other e near. absurd (omega (arith, near, far));
              full = λ other e far. subst (λ (n : ℕ). LeavesRoom key m (slice_index s.words count_place) (room_mark n (No d) ∷ []) Idle (w, m.1)) (same_name other e) t.1;
            },
          )

      tests_by : (b : Bool) → fits r.core.bound r.core.count d ≡ b → Outcome (λ x. x) (Tested key d m)
      tests_by true e = test_passes e
      tests_by false e = test_refuses e

      -- ---- a release, which is one step

      abbrev releasing : CoreSeat
      releasing = record { held = at_rest.holding; phase = Releasing d }

      releases_by : d ≤ amount_held name (reverse m.0.seen) → Outcome (λ x. (x + (2 ^ 64 - d)) % 2 ^ 64) (Lowered key (GivenBack d) m)
      releases_by enough =
          let x : CoreSeat = record { held = at_rest.holding; phase = Idle } in
          let within : name < length r.core.seats = slice_get_within r.core.seats name x at_rest.seat in
          let holds = (kept.seats name x at_rest.seat).holds in
          let same = held_seen in
          let has : d ≤ at_rest.holding = omega (arith, holds, same, enough) in
          let may : begun_phase at_rest.holding Idle (Release d) ≡ Ok (Releasing d) = may_release at_rest.holding d has in
          let reached : IsReached key.bound key.seats (begun r.core name releasing) = reached_begin key.bound key.seats r.core name x (Release d) (Releasing d) r.reached.reached at_rest.seat range may in
          let t = goes_on (begun r.core name releasing) releasing (release_move r.core.count at_rest.holding d) reached refl (λ k y ne old. written_stays r.core.seats name k releasing y ne old)
          (written_here r.core.seats name releasing within) refl (λ x. (x + (2 ^ 64 - d)) % 2 ^ 64) lowered in
          let w : RoomView = sight m.0.names m.0.noted (room_mark name (GivenBack d) ∷ r.core.past) Idle 0 in
          (w, keeps, tt, t.0, record { small = word_fits.1; leaves = λ other e. subst (λ (n : ℕ). LeavesRoom key m (slice_index s.words count_place) (room_mark n (GivenBack d) ∷ []) Idle (w, m.1)) (same_name other e) t.1 })

    -- ---- an add

    module _ (adding : m.0.phase ≡ Some (Adding d)) where
      at_add : StandsInRoom r.core name (Adding d)
      at_add = stands_now (room_object key) s r id name m at one (Adding d) adding

      abbrev adder : CoreSeat
      adder = record { held = at_add.holding; phase = Adding d }

      stays_else : (k : ℕ) (y : CoreSeat) → k ≢ name → slice_get r.core.seats k ≡ Some y → slice_get r.core.seats k ≡ Some y
      stays_else k y ne old = old

      add_fits : fits r.core.bound r.core.count d ≡ true → Outcome (λ x. (x + d) % 2 ^ 64) (Added key d m)
      add_fits e =
          let mv : RoomMove = add_move true r.core.count at_add.holding d in
          let near = fits_found d e in
          let next : next_move r.core.bound r.core.count at_add.holding (Adding d) ≡ Some mv = ap (λ b. Some (add_move b r.core.count at_add.holding d)) e in
          let t = goes_on r.core adder mv r.reached.reached refl stays_else at_add.seat next (λ x. (x + d) % 2 ^ 64) raised in
          let held = holds_after r.core adder mv r.reached.reached refl stays_else at_add.seat next in
          let w : RoomView = sight m.0.names m.0.noted (room_mark name (Up d) ∷ r.core.past) Idle 0 in (
            w,
            keeps,
            tt,
            t.0,
            record {
              small = word_fits.1;
              fits = λ other e near. subst (λ (n : ℕ). LeavesRoom key m (slice_index s.words count_place) (room_mark n (Up d) ∷ []) Idle (w, m.1) × (amount_held n (reverse (room_mark name (Up d) ∷ r.core.past)) ≤ 4294967296)) (same_name other e) (t.1, held);
              full = λ other e far. absurd (omega (arith, near, far));
            },
          )

      add_full : fits r.core.bound r.core.count d ≡ false → Outcome (λ x. (x + d) % 2 ^ 64) (Added key d m)
      add_full e =
          let mv : RoomMove = add_move false r.core.count at_add.holding d in
          let far = full_found d e in
          let t = goes_on r.core adder mv r.reached.reached refl stays_else at_add.seat (ap (λ b. Some (add_move b r.core.count at_add.holding d)) e) (λ x. (x + d) % 2 ^ 64) raised in
          let w : RoomView = sight m.0.names m.0.noted (room_mark name (Over d) ∷ r.core.past) (Backing d) 0 in (
            w,
            keeps,
            tt,
            t.0,
            record {
              small = word_fits.1;
              fits = λ other e near. absurd (omega (arith, near, far));
              full = λ other e far. subst (λ (n : ℕ). LeavesRoom key m (slice_index s.words count_place) (room_mark n (Over d) ∷ []) (Backing d) (w, m.1)) (same_name other e) t.1;
            },
          )

      adds_by : (b : Bool) → fits r.core.bound r.core.count d ≡ b → Outcome (λ x. (x + d) % 2 ^ 64) (Added key d m)
      adds_by true e = add_fits e
      adds_by false e = add_full e

    -- ---- a withdrawal

    module _ (backing : m.0.phase ≡ Some (Backing d)) where
      at_back : StandsInRoom r.core name (Backing d)
      at_back = stands_now (room_object key) s r id name m at one (Backing d) backing

      backs_by : Outcome (λ x. (x + (2 ^ 64 - d)) % 2 ^ 64) (Lowered key (Back d) m)
      backs_by =
          let x : CoreSeat = record { held = at_back.holding; phase = Backing d } in
          let t = goes_on r.core x (back_move r.core.count at_back.holding d) r.reached.reached refl (λ k y ne old. old) at_back.seat refl (λ x. (x + (2 ^ 64 - d)) % 2 ^ 64) lowered in
          let w : RoomView = sight m.0.names m.0.noted (room_mark name (Back d) ∷ r.core.past) Idle 0 in
          (w, keeps, tt, t.0, record { small = word_fits.1; leaves = λ other e. subst (λ (n : ℕ). LeavesRoom key m (slice_index s.words count_place) (room_mark n (Back d) ∷ []) Idle (w, m.1)) (same_name other e) t.1 })

module _ (key : RoomLimits) (slots id name d : ℕ) (m : RoomHolder) (one : m.0.names ≡ name ∷ []) (range : (1 ≤ d) × (d ≤ 1024)) where
  pub tests_allowed : m.0.phase ≡ Some Idle → Allows (IsShownRoom key) slots id m count_place (λ x. x) (Tested key d m)
  tests_allowed idle s r wide at small = tests_by key s r id name m at one d range idle (fits r.core.bound r.core.count d) refl

  pub adds_allowed : m.0.phase ≡ Some (Adding d) → Allows (IsShownRoom key) slots id m count_place (λ x. (x + d) % 2 ^ 64) (Added key d m)
  adds_allowed adding s r wide at small = adds_by key s r id name m at one d range adding (fits r.core.bound r.core.count d) refl

  pub backs_allowed : m.0.phase ≡ Some (Backing d) → Allows (IsShownRoom key) slots id m count_place (λ x. (x + (2 ^ 64 - d)) % 2 ^ 64) (Lowered key (Back d) m)
  backs_allowed backing s r wide at small = backs_by key s r id name m at one d range backing

  pub releases_allowed : m.0.phase ≡ Some Idle → Holds m.0 d → Allows (IsShownRoom key) slots id m count_place (λ x. (x + (2 ^ 64 - d)) % 2 ^ 64) (Lowered key (GivenBack d) m)
  releases_allowed idle enough s r wide at small = releases_by key s r id name m at one d range idle (enough name one)

pub hears_allowed : (key : RoomLimits) (slots id : ℕ) (m : RoomHolder) → Allows (IsShownRoom key) slots id m count_place (λ x. x) (λ _. HeardJoin key m)
hears_allowed key slots id m = hears (room_object key) (lawful key) slots id m count_place

-- ---- opening

-- at the opening the table shows an empty room
pub opens_room : (key : RoomLimits) (stint : ℕ) → IsInLargeRange (IsCount key.bound) key.seats stint → (ws : List ℕ) → KeepsCount (pos 0) ws → IsShownRoom key (opening ws [] (opened_room key))
opens_room key stint range ws keeps_none =
    starts (room_object key) Idle 0 (core_opening key.bound key.seats) (record { reached = opening_reached key.bound key.seats; low = range.0; few = range.1.1 }) refl
    (λ n low. record { holding = 0; seat = slice_get-get_or (replicate key.seats resting) n resting (let long = length-replicate key.seats resting in omega (arith, long, low)) ∙ ap Some (get_or-replicate key.seats n resting resting low) })
    ws [] keeps_none (omega arith)
  where
    resting : CoreSeat
    resting = record { held = 0; phase = Idle }

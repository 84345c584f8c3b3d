-- From the steps of a room's seat to what the calls promise.
use Rattle.fak_count.proofs.Common.{◌≡◌, Some, ℕ, ◌+◌, ◌<◌, ◌≤◌, List, [], ◌∷◌, ◌++◌, length, refl, ap, sym, ◌∙◌, subst, arith, ℤ, pos, ◌-ℤ◌, reverse, map, sum_by, flat_map, ints, sum_by-append, sum_by-cons, marks_of, sight, ObjectId, object_id, SeatInfo, seat_info, TallyInfo, IsJoined, Appends, before_mark, before_appended, IsSeatToken, bias, Up, Over, Back, No, Release, rest_after, rest_joined, rest_none, begins_self, seen_lawful, token_names, mine_after, begins_after, step_appends, token_after, step_before, appends_then, appends_none, Idle, Adding, Backing, RoomHolder, room_mark, LeavesRoom, Tested, Added, Lowered, TableId, RoomKind, RoomMark, releases_le, RoomLimits}
use Rattle.std.proofs.lemmas.List.{append-nil, map-append}
use Rattle.fak_model.specs.Room.{WholeCall, kinds_of_call, seat_of, kind_of, up_amount, release_amount, value, amount_held, room_rules}
use Rattle.fak_model.proofs.Appending.{history_none}
use Rattle.fak_core.specs.declared.room.phase.RoomPhase.{RoomPhase}
use Rattle.fak_count.specs.Rooms.{RoomInfo, room_info, up_weight, grants_of, granted_claims, held_amount, room_seat, MakesCall, Withdraws, IsSettled}

-- ---- how a call changes the claims granted and what is held

granted_more : (f g h : List RoomMark) (name : ℕ) → marks_of seat_of name g ≡ marks_of seat_of name f ++ h → grants_of name g ≡ grants_of name f + sum_by up_weight (map kind_of h)
granted_more f g h name e = ap (λ l. sum_by up_weight (map kind_of l)) e ∙ (ap (sum_by up_weight) (map-append kind_of (marks_of seat_of name f) h) ∙ sum_by-append up_weight (map kind_of (marks_of seat_of name f)) (map kind_of h))

module _ (bound : ℕ) (marks : List RoomMark) (object : ObjectId) (name stint : ℕ) (f g : List RoomMark) (call : Appends (room_rules bound) marks (seat_info object name stint f) (seat_info object name stint g)) where
  pub granted_appended : grants_of name g ≡ grants_of name f + sum_by up_weight (map kind_of marks)
  granted_appended = granted_more f g marks name call.mine

  pub held_appended : amount_held name g + sum_by release_amount (map kind_of marks) ≡ amount_held name f + sum_by up_amount (map kind_of marks)
  held_appended =
      let ups : sum_by up_amount (map kind_of (marks_of seat_of name g)) ≡ sum_by up_amount (map kind_of (marks_of seat_of name f)) + sum_by up_amount (map kind_of marks) =
      ap (λ l. sum_by up_amount (map kind_of l)) call.mine ∙ (ap (sum_by up_amount) (map-append kind_of (marks_of seat_of name f) marks) ∙ sum_by-append up_amount (map kind_of (marks_of seat_of name f)) (map kind_of marks)) in
      let downs : sum_by release_amount (map kind_of (marks_of seat_of name g)) ≡ sum_by release_amount (map kind_of (marks_of seat_of name f)) + sum_by release_amount (map kind_of marks) =
      ap (λ l. sum_by release_amount (map kind_of l)) call.mine ∙ (ap (sum_by release_amount) (map-append kind_of (marks_of seat_of name f) marks) ∙ sum_by-append release_amount (map kind_of (marks_of seat_of name f)) (map kind_of marks)) in
      let after = releases_le bound name g call.lawful in
      let before = releases_le bound name f (seen_lawful (room_rules bound) f g call.begins call.lawful) in
      omega (arith, ups, downs, after, before)

-- ---- what seats and tallies know of the history

-- nothing was seen
pub settled_none : (bound name : ℕ) (seen : List RoomMark) → seen ≡ [] → IsSettled (name ∷ []) seen
settled_none bound name seen is = subst (λ (h : List RoomMark). IsSettled (name ∷ []) h) (sym is) record {
  bound = bound;
  lawful = history_none (room_rules bound);
  rest = rest_none (room_rules bound) name;
}

-- a call was performed
settled_more : (bound : ℕ) (marks : List RoomMark) (object : ObjectId) (name stint : ℕ) (f g : List RoomMark) (calls : List WholeCall) → Appends (room_rules bound) marks (seat_info object name stint f) (seat_info object name stint g)
    → map kind_of marks ≡ flat_map kinds_of_call calls → IsSettled (name ∷ []) f → IsSettled (name ∷ []) g
settled_more bound marks object name stint f g calls call are old = record {
  bound = bound;
  lawful = call.lawful;
  rest = rest_after (room_rules bound) name marks f g calls call.mine are old.rest;
}

-- a seat was joined
pub settled_joined : (bound : ℕ) {t both : TallyInfo RoomMark} {s : SeatInfo RoomMark} → IsJoined (room_rules bound) t s both → IsSettled t.names t.seen → IsSettled (s.name ∷ []) s.seen → IsSettled both.names both.seen
settled_joined bound j old new = record {
  bound = bound;
  lawful = j.lawful;
  rest = rest_joined (room_rules bound) j old.rest new.rest;
}

-- ---- steps of one call

-- the seat's steps have left these marks, and it is at this phase; the step of the first mark found this word
pub record Did (key : RoomLimits) (name : ℕ) (marks : List RoomMark) (phase : RoomPhase) (m : RoomHolder) (found : ℕ) (after : RoomHolder) : Type 0 where
  pub token : IsSeatToken seat_of key.seats name phase 0 after
  pub appends : (object : ObjectId) (stint : ℕ) → object.seats ≡ key.seats → Appends (room_rules key.bound) marks (seat_info object name stint (reverse m.0.seen)) (seat_info object name stint (reverse after.0.seen))
  pub found_is : (number : ℕ) → length (marks_of seat_of name (reverse m.0.seen)) ≡ number → pos found -ℤ pos bias ≡ value (before_mark seat_of name number (reverse after.0.seen))

module _ {key : RoomLimits} {name : ℕ} {m : RoomHolder} {was : RoomPhase} (f : IsSeatToken seat_of key.seats name was 0 m) where
  -- one step with its mark
  pub did_step : (kind : RoomKind) {found : ℕ} {phase : RoomPhase} {after : RoomHolder} → LeavesRoom key m found (room_mark name kind ∷ []) phase after → Did key name (room_mark name kind ∷ []) phase m found after
  did_step kind {after = after} l = record {
    token = token_after l name (token_names f) (refl, tt) f (ap (λ (x : RoomHolder). x.1) f.me_is);
    appends = λ object stint seats. step_appends l name (token_names f) (refl, tt) object stint seats;
    found_is = λ number count.
        let is = l.told in
        let value_is : pos _ -ℤ pos bias ≡ value (reverse l.past) = omega (arith, ints, is) in
        value_is ∙ ap value (sym (step_before l name (token_names f) refl number count (reverse after.0.seen) (begins_self (reverse after.0.seen))));
  }

  -- a step without a mark
  pub token_looked : {found : ℕ} {phase : RoomPhase} {after : RoomHolder} → LeavesRoom key m found [] phase after → IsSeatToken seat_of key.seats name phase 0 after
  token_looked l = token_after l name (token_names f) tt f (ap (λ (x : RoomHolder). x.1) f.me_is)

  -- a step without a mark, and what the seat did after it
  pub did_after : {first found : ℕ} {mid after : RoomHolder} {at phase : RoomPhase} {marks : List RoomMark} → LeavesRoom key m first [] at mid → Did key name marks phase mid found after → Did key name marks phase m found after
  did_after {mid = mid} {after = after} {marks = marks} l d =
      let looked : (object : ObjectId) (stint : ℕ) → object.seats ≡ key.seats → Appends (room_rules key.bound) [] (seat_info object name stint (reverse m.0.seen)) (seat_info object name stint (reverse mid.0.seen)) =
      λ object stint seats. step_appends l name (token_names f) tt object stint seats in
      record {
        token = d.token;
        appends = λ object stint seats. appends_none (room_rules key.bound) marks (seat_info object name stint (reverse m.0.seen)) (seat_info object name stint (reverse mid.0.seen)) (seat_info object name stint (reverse after.0.seen)) (looked object stint seats) (d.appends object stint seats);
        found_is = λ number count.
            let same : marks_of seat_of name (reverse mid.0.seen) ≡ marks_of seat_of name (reverse m.0.seen) ++ [] = mine_after l name (token_names f) tt in
            d.found_is number (ap length (same ∙ append-nil (marks_of seat_of name (reverse m.0.seen))) ∙ count);
      }

  -- two steps with a mark each
  pub did_both : (first second : RoomKind) {found later : ℕ} {mid after : RoomHolder} {at phase : RoomPhase} → LeavesRoom key m found (room_mark name first ∷ []) at mid → LeavesRoom key mid later (room_mark name second ∷ []) phase after
      → Did key name (room_mark name first ∷ room_mark name second ∷ []) phase m found after
  did_both first second {mid = mid} {after = after} k l =
      let token = token_after k name (token_names f) (refl, tt) f (ap (λ (x : RoomHolder). x.1) f.me_is) in
      let next : (object : ObjectId) (stint : ℕ) → object.seats ≡ key.seats → Appends (room_rules key.bound) (room_mark name second ∷ []) (seat_info object name stint (reverse mid.0.seen)) (seat_info object name stint (reverse after.0.seen)) =
      λ object stint seats. step_appends l name (token_names token) (refl, tt) object stint seats in
      record {
        token = token_after l name (token_names token) (refl, tt) token (ap (λ (x : RoomHolder). x.1) token.me_is);
        appends = λ object stint seats.
            appends_then (room_rules key.bound) (room_mark name first ∷ []) (room_mark name second) [] (seat_info object name stint (reverse m.0.seen)) (seat_info object name stint (reverse mid.0.seen)) (seat_info object name stint (reverse after.0.seen))
            (step_appends k name (token_names f) (refl, tt) object stint seats) (next object stint seats);
        found_is = λ number count.
            let is = k.told in
            let value_is : pos _ -ℤ pos bias ≡ value (reverse k.past) = omega (arith, ints, is) in
            value_is ∙ ap value (sym (step_before k name (token_names f) refl number count (reverse after.0.seen) (begins_after l name (token_names token) (refl, tt))));
      }

-- ---- a claim and a release, step by step

module _ {key : RoomLimits} {name d : ℕ} {m : RoomHolder} (f : IsSeatToken seat_of key.seats name Idle 0 m) where
  pub did_release : {found : ℕ} {after : RoomHolder} → Lowered key (Release d) m found after → Did key name (room_mark name (Release d) ∷ []) Idle m found after
  did_release told = did_step f (Release d) (told.leaves name (token_names f))

  module _ {tested : ℕ} {mid : RoomHolder} (test : Tested key d m tested mid) where
    pub did_refuse : bias + key.bound < tested + d → Did key name (room_mark name (No d) ∷ []) Idle m tested mid
    did_refuse far = did_step f (No d) (test.full name (token_names f) far)

    module _ (fits : tested + d ≤ bias + key.bound) where
      passed : LeavesRoom key m tested [] (Adding d) mid
      passed = test.fits name (token_names f) fits

      pub token_adding : IsSeatToken seat_of key.seats name (Adding d) 0 mid
      token_adding = token_looked f passed

      module _ {found : ℕ} {after : RoomHolder} (add : Added key d mid found after) where
        pub did_claim : found + d ≤ bias + key.bound → Did key name (room_mark name (Up d) ∷ []) Idle m found after
        did_claim near = did_after f passed (did_step token_adding (Up d) (add.fits name (token_names token_adding) near).0)

        pub held_fits : found + d ≤ bias + key.bound → amount_held name (reverse after.0.seen) ≤ 4294967296
        held_fits near = (add.fits name (token_names token_adding) near).1

        module _ (far : bias + key.bound < found + d) where
          overdone : LeavesRoom key mid found (room_mark name (Over d) ∷ []) (Backing d) after
          overdone = add.full name (token_names token_adding) far

          pub token_backing : IsSeatToken seat_of key.seats name (Backing d) 0 after
          token_backing = token_after overdone name (token_names token_adding) (refl, tt) token_adding (ap (λ (x : RoomHolder). x.1) token_adding.me_is)

          pub did_withdraw : {later : ℕ} {end : RoomHolder} → Lowered key (Back d) after later end → Did key name (room_mark name (Over d) ∷ room_mark name (Back d) ∷ []) Idle m found end
          did_withdraw back = did_after f passed (did_both token_adding (Over d) (Back d) overdone (back.leaves name (token_names token_backing)))

-- ---- calls

-- a seat of a room, with its token m, what it holds and has left of its stint, and what contracts see of both
pub record AtRoom (key : RoomLimits) (left seats name held : ℕ) (table mine : TableId) (m : RoomHolder) (old : SeatInfo RoomMark) (room : RoomInfo) : Type 0 where
  pub token : IsSeatToken seat_of seats name Idle 0 m
  pub holds : held ≡ amount_held name (reverse m.0.seen)
  pub settled : IsSettled (name ∷ []) (reverse m.0.seen)
  pub seat_is : room_seat (object_id mine seats) name left m ≡ old
  pub room_is : room_info (object_id table key.seats) key.bound ≡ room
  pub fits : old.object ≡ room.object

pub at_room : (key : RoomLimits) (left : ℕ) {seats name held : ℕ} {table mine : TableId} {m : RoomHolder} {old : SeatInfo RoomMark} {room : RoomInfo} → IsSeatToken seat_of seats name Idle 0 m × (held ≡ amount_held name (reverse m.0.seen)) × IsSettled (name ∷ []) (reverse m.0.seen)
    → room_seat (object_id mine seats) name left m ≡ old → room_info (object_id table key.seats) key.bound ≡ room → old.object ≡ room.object → AtRoom key left seats name held table mine m old room
at_room key left f seat_is room_is fits = record { token = f.0; holds = f.1; settled = f.2; seat_is = seat_is; room_is = room_is; fits = fits }

module _ {key : RoomLimits} {left seats name held : ℕ} {table mine : TableId} {m : RoomHolder} {old : SeatInfo RoomMark} {room : RoomInfo} (at : AtRoom key left seats name held table mine m old room) where
  same_object : object_id mine seats ≡ object_id table key.seats
  same_object = ap (λ (s : SeatInfo RoomMark). s.object) at.seat_is ∙ (at.fits ∙ sym (ap (λ (x : RoomInfo). x.object) at.room_is))

  pub same_table : mine ≡ table
  same_table = ap (λ (o : ObjectId). o.table) same_object

  same_seats : seats ≡ key.seats
  same_seats = ap (λ (o : ObjectId). o.seats) same_object

  pub own_token : IsSeatToken seat_of key.seats name Idle 0 m
  own_token = subst (λ (k : ℕ). IsSeatToken seat_of k name Idle 0 m) same_seats at.token

  pub held_old : held ≡ held_amount old
  held_old = at.holds ∙ ap held_amount at.seat_is

  pub granted_old : left + granted_claims old ≡ old.stint
  granted_old = subst (λ (x : SeatInfo RoomMark). left + granted_claims x ≡ x.stint) at.seat_is refl

  pub within_stint : ¬ (left ≡ 0) → granted_claims old < old.stint
  within_stint some_left = let all = granted_old in omega (arith, all, some_left)

  module _ {marks : List RoomMark} {found : ℕ} {after : RoomHolder} (d : Did key name marks Idle m found after) where
    appended : Appends (room_rules key.bound) marks (seat_info (object_id mine seats) name (left + grants_of name (reverse m.0.seen)) (reverse m.0.seen)) (seat_info (object_id mine seats) name (left + grants_of name (reverse m.0.seen)) (reverse after.0.seen))
    appended = d.appends (object_id mine seats) (left + grants_of name (reverse m.0.seen)) same_seats

    -- the seat after these whole calls, when it holds this much
    pub seat_after : (calls : List WholeCall) → map kind_of marks ≡ flat_map kinds_of_call calls → (held' : ℕ) → held' + sum_by release_amount (map kind_of marks) ≡ held + sum_by up_amount (map kind_of marks)
        → IsSeatToken seat_of seats name Idle 0 after × (held' ≡ amount_held name (reverse after.0.seen)) × IsSettled (name ∷ []) (reverse after.0.seen)
    seat_after calls are held' is =
        let e = held_appended key.bound marks (object_id mine seats) name (left + grants_of name (reverse m.0.seen)) (reverse m.0.seen) (reverse after.0.seen) appended in
        let was = at.holds in (
          subst (λ (k : ℕ). IsSeatToken seat_of k name Idle 0 after) (sym same_seats) d.token,
          omega (arith, e, was, is),
          settled_more key.bound marks (object_id mine seats) name (left + grants_of name (reverse m.0.seen)) (reverse m.0.seen) (reverse after.0.seen) calls appended are at.settled,
        )

    pub held_after : (now : TableId) (left' : ℕ) → held_amount (room_seat (object_id now seats) name left' after) + sum_by release_amount (map kind_of marks) ≡ held_amount old + sum_by up_amount (map kind_of marks)
    held_after now left' =
        let e = held_appended key.bound marks (object_id mine seats) name (left + grants_of name (reverse m.0.seen)) (reverse m.0.seen) (reverse after.0.seen) appended in
        let was = ap held_amount at.seat_is in
        omega (arith, e, was)

    -- the marks are appended, and the first of them found this value
    appends_at : (left' : ℕ) → left' + sum_by up_weight (map kind_of marks) ≡ left → Appends (room_rules key.bound) marks (room_seat (object_id mine seats) name left m) (room_seat (object_id mine seats) name left' after)
    appends_at left' is =
        let g = granted_appended key.bound marks (object_id mine seats) name (left + grants_of name (reverse m.0.seen)) (reverse m.0.seen) (reverse after.0.seen) appended in
        let stint : left + grants_of name (reverse m.0.seen) ≡ left' + grants_of name (reverse after.0.seen) = omega (arith, g, is) in
        subst (λ (k : ℕ). Appends (room_rules key.bound) marks (room_seat (object_id mine seats) name left m) (seat_info (object_id mine seats) name k (reverse after.0.seen))) stint appended

    answers_at : (left' : ℕ) (answer : ℤ) → answer ≡ pos found -ℤ pos bias → answer ≡ value (before_appended seat_of 0 (room_seat (object_id mine seats) name left m) (room_seat (object_id mine seats) name left' after))
    answers_at left' answer is =
        let none : length (marks_of seat_of name (reverse m.0.seen)) ≡ length (marks_of seat_of name (reverse m.0.seen)) + 0 = omega arith in
        is ∙ d.found_is (length (marks_of seat_of name (reverse m.0.seen)) + 0) none

  -- a call with one mark
  pub makes_call : (kind : RoomKind) {found : ℕ} {after : RoomHolder} → Did key name (room_mark name kind ∷ []) Idle m found after → {now : TableId} → now ≡ mine → (left' : ℕ) → left' + up_weight kind ≡ left
      → {answer : ℤ} → answer ≡ pos found -ℤ pos bias → MakesCall kind room old (room_seat (object_id now seats) name left' after) answer
  makes_call kind {after = after} d {now} stays left' is {answer} answer_is =
      let one : left' + sum_by up_weight (kind ∷ []) ≡ left = omega (arith, is, sum_by-cons up_weight kind []) in
      subst (λ (x : RoomInfo × SeatInfo RoomMark × TableId). MakesCall kind x.0 x.1 (room_seat (object_id x.2 seats) name left' after) answer) (λ i. (at.room_is i, at.seat_is i, sym stays i))
      record { appends = appends_at d left' one; answers = answers_at d left' answer answer_is }

  -- a claim that was withdrawn
  pub withdraws_claim : {d found : ℕ} {after : RoomHolder} → Did key name (room_mark name (Over d) ∷ room_mark name (Back d) ∷ []) Idle m found after → {now : TableId} → now ≡ mine
      → {answer : ℤ} → answer ≡ pos found -ℤ pos bias → Withdraws d room old (room_seat (object_id now seats) name left after) answer
  withdraws_claim {d} {after = after} did {now} stays {answer} answer_is =
      subst (λ (x : RoomInfo × SeatInfo RoomMark × TableId). Withdraws d x.0 x.1 (room_seat (object_id x.2 seats) name left after) answer) (λ i. (at.room_is i, at.seat_is i, sym stays i))
      record { appends = appends_at did left (omega arith); answers = answers_at did left answer answer_is }

-- a seat as it is dealt
pub fresh_room_seat : (object : ObjectId) (name stint : ℕ) (m : RoomHolder) → m ≡ (sight (name ∷ []) (Some []) [] Idle 0, []) → room_seat object name stint m ≡ seat_info object name stint []
fresh_room_seat object name stint m is =
    let full : stint + 0 ≡ stint = omega arith in
    ap (λ (x : RoomHolder). room_seat object name stint x) is ∙ ap (λ (k : ℕ). seat_info object name k []) full

-- From the steps of a credit's seat to what the calls promise.
use Rattle.fak_count.proofs.Common.{◌≡◌, Some, ℕ, ◌+◌, ◌-◌, ◌<◌, ◌^◌, ℤ, pos, ◌-ℤ◌, List, [], ◌∷◌, length, length-append, refl, ap, sym, ◌∙◌, subst, arith, inl, reverse, map, flat_map, ints, IsAtRest, marks_of, sight, Leaves, ObjectId, object_id, SeatInfo, seat_info, Appends, before_appended, IsSeatToken, bias, rest_after, rest_none, begins_self, token_names, token_left, token_slots, step_appends, token_after, step_before, CreditHolder, credit_mark, credit_object, FoundValue, MadeMark, Observed, TableId, CreditKind, CreditMark, kind_of, value, credit_rules, CreditLimits}
use Rattle.fak_count.specs.Credits.{CreditInfo, credit_info, seat_of, credit_seat, MakesCall, Observes}

-- a seat of a credit, with its token m, and what contracts see of both
module _ (key : CreditLimits) {seats name left : ℕ} {table mine : TableId} {m : CreditHolder} {old : SeatInfo CreditMark} {credit : CreditInfo}
    (f : IsSeatToken seat_of seats name tt left m) (seat_is : credit_seat (object_id mine seats) name left m ≡ old) (credit_is : credit_info (object_id table key.seats) key.start ≡ credit) (fits : old.object ≡ credit.object) where
  same_object : object_id mine seats ≡ object_id table key.seats
  same_object = ap (λ (s : SeatInfo CreditMark). s.object) seat_is ∙ (fits ∙ sym (ap (λ (c : CreditInfo). c.object) credit_is))

  pub same_table : mine ≡ table
  same_table = ap (λ (o : ObjectId). o.table) same_object

  pub same_seats : seats ≡ key.seats
  same_seats = ap (λ (o : ObjectId). o.seats) same_object

  own_token : IsSeatToken seat_of key.seats name tt left m
  own_token = subst (λ (k : ℕ). IsSeatToken seat_of k name tt left m) same_seats f

  module _ {kind : CreditKind} {found : ℕ} {after : CreditHolder} (told : MadeMark key kind m found after) where
    made : Leaves (credit_object key) m (credit_mark name kind ∷ []) tt (m.0.left - 1) m.1 (FoundValue key found) after
    made = told name (token_names f)

    pub found_fits : found < 2 ^ 63
    found_fits = made.told.1

    pub token_made : IsSeatToken seat_of seats name tt (left - 1) after
    token_made = subst (λ (x : ℕ × ℕ). IsSeatToken seat_of x.0 name tt (x.1 - 1) after) (λ i. (sym same_seats i, token_left f i)) (token_after made name (token_names f) (refl, tt) own_token (token_slots f))

    -- a debit or credit is performed
    pub call_made : {now : TableId} {answer : ℤ} → now ≡ mine → 0 < left → answer ≡ pos found -ℤ pos bias → MakesCall kind credit old (credit_seat (object_id now seats) name (left - 1) after) answer
    call_made {now} {answer} stays some_left answer_is =
        let object : ObjectId = object_id mine seats in
        let before : List CreditMark = marks_of seat_of name (reverse m.0.seen) in
        let stint : ℕ = left + length before in
        let appends : Appends credit_rules (credit_mark name kind ∷ []) (seat_info object name stint (reverse m.0.seen)) (seat_info object name stint (reverse after.0.seen)) =
        step_appends made name (token_names f) (refl, tt) object stint same_seats in
        let same : stint ≡ (left - 1) + length (marks_of seat_of name (reverse after.0.seen)) =
        (let grown = ap length appends.mine in omega (arith, grown, some_left, length-append before (credit_mark name kind ∷ []))) in
        let none : length before ≡ length before + 0 = omega arith in
        let stood : before_appended seat_of 0 (credit_seat object name left m) (credit_seat object name (left - 1) after) ≡ reverse made.past =
        step_before made name (token_names f) refl (length before + 0) none (reverse after.0.seen) (begins_self (reverse after.0.seen)) in
        let is = made.told.0 in
        let value_is : pos found -ℤ pos bias ≡ value key.start (reverse made.past) = omega (arith, ints, is) in
        subst (λ (x : CreditInfo × SeatInfo CreditMark × TableId). MakesCall kind x.0 x.1 (credit_seat (object_id x.2 seats) name (left - 1) after) answer) (λ i. (credit_is i, seat_is i, sym stays i)) record {
          within = omega (arith, some_left);
          appends = subst (λ (k : ℕ). Appends credit_rules (credit_mark name kind ∷ []) (seat_info object name stint (reverse m.0.seen)) (seat_info object name k (reverse after.0.seen))) same appends;
          answers = answer_is ∙ (value_is ∙ ap (value key.start) (sym stood));
        }

  module _ {found : ℕ} {after : CreditHolder} (told : Observed key m found after) where
    seen : Leaves (credit_object key) m [] tt m.0.left m.1 (FoundValue key found) after
    seen = told name (token_names f)

    -- the value is observed
    pub call_observed : {now : TableId} {answer : ℤ} → now ≡ mine → answer ≡ pos found -ℤ pos bias → Observes credit old (credit_seat (object_id now seats) name left after) answer
    call_observed {now} {answer} stays answer_is =
        let object : ObjectId = object_id mine seats in
        let before : List CreditMark = marks_of seat_of name (reverse m.0.seen) in
        let stint : ℕ = left + length before in
        let appends : Appends credit_rules [] (seat_info object name stint (reverse m.0.seen)) (seat_info object name stint (reverse after.0.seen)) =
        step_appends seen name (token_names f) tt object stint same_seats in
        let same : stint ≡ left + length (marks_of seat_of name (reverse after.0.seen)) =
        (let grown = ap length appends.mine in omega (arith, grown, length-append before [])) in
        let is = seen.told.0 in
        let value_is : pos found -ℤ pos bias ≡ value key.start (reverse seen.past) = omega (arith, ints, is) in
        subst (λ (x : CreditInfo × SeatInfo CreditMark × TableId). Observes x.0 x.1 (credit_seat (object_id x.2 seats) name left after) answer) (λ i. (credit_is i, seat_is i, sym stays i)) record {
          appends = subst (λ (k : ℕ). Appends credit_rules [] (seat_info object name stint (reverse m.0.seen)) (seat_info object name k (reverse after.0.seen))) same appends;
          answers = answer_is ∙ (value_is ∙ ap (λ (x : CreditHolder). value key.start (reverse x.0.seen)) (sym seen.after_is));
        }

-- a seat as it is dealt
pub fresh_credit_seat : (object : ObjectId) (name stint : ℕ) (m : CreditHolder) → m ≡ (sight (name ∷ []) (Some []) [] tt stint, []) → credit_seat object name stint m ≡ seat_info object name stint []
fresh_credit_seat object name stint m is =
    let full : stint + 0 ≡ stint = omega arith in
    ap (λ (x : CreditHolder). credit_seat object name stint x) is ∙ ap (λ (k : ℕ). seat_info object name k []) full

-- each mark is a whole call, so every history is at rest
pub always_at_rest : (h : List CreditMark) → IsAtRest credit_rules h
always_at_rest h seat = rest_after credit_rules seat (marks_of seat_of seat h) [] h (map kind_of (marks_of seat_of seat h)) refl (sym (each_a_call (map kind_of (marks_of seat_of seat h)))) (rest_none credit_rules seat) seat (inl refl)
  where
    each_a_call : (kinds : List CreditKind) → flat_map (λ (k : CreditKind). k ∷ []) kinds ≡ kinds
    each_a_call [] = refl
    each_a_call (k ∷ kinds) = ap (λ l. k ∷ l) (each_a_call kinds)

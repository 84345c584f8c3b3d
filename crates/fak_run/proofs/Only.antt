-- What the only seat of an object sees of its calls.
use Rattle.fak_run.proofs.Common.{◌≡◌, ℕ, ◌<◌, ◌==◌, true, List, [], ◌∷◌, ◌++◌, refl, ap, ◌∙◌, subst, arith, All, length, nat_tests, All-head, All-tail, Rules, IsHistory, AreNamed, marks_of, SeatInfo, mine_of, Appends, before_appended, common_steps}
use Rattle.fak_model.proofs.RunningCalls.{before_mark-append}
use Rattle.fak_run.specs.Only.{IsOnly}

-- all marks belong to the one seat
pub all_mine : {M : Type 0} (seat_of : M → ℕ) (h : List M) → All (λ (m : M). seat_of m < 1) h → marks_of seat_of 0 h ≡ h
all_mine seat_of [] named = refl
all_mine {M} seat_of (m ∷ h) named =
    let Named : M → Type 0 = λ (w : M). seat_of w < 1 in
    let low : seat_of m < 1 = All-head Named m h named in
    let t : (seat_of m == 0) ≡ true = grind (arith, nat_tests) in
    rw t (ap (λ l. m ∷ l) (all_mine seat_of h (All-tail Named m h named)))

module _ {M W C : Type 0} {rules : Rules M W C} {marks : List M} {old new : SeatInfo M} (o : IsOnly rules.seat_of old) (a : Appends rules marks old new) where
  only_name : new.name ≡ 0
  only_name = ap (λ (s : SeatInfo M). s.name) a.same_seat ∙ o.name

  only_seats : new.object.seats ≡ 1
  only_seats = ap (λ (s : SeatInfo M). s.object.seats) a.same_seat ∙ o.one

  only_named : AreNamed rules 1 new.seen
  only_named = subst (λ (n : ℕ). AreNamed rules n new.seen) only_seats a.named

  -- the seat has seen exactly these marks more
  pub only_seen : new.seen ≡ old.seen ++ marks
  only_seen = grind (arith, common_steps, all_mine, only_named, marks_of, only_name)

  pub only_still : IsOnly rules.seat_of new
  only_still = record { one = only_seats; name = only_name; named = only_named }

  pub only_lawful : IsHistory rules (old.seen ++ marks)
  only_lawful = subst (IsHistory rules) only_seen a.lawful

-- what came before the first mark of a call
pub only_before : {M W C : Type 0} {rules : Rules M W C} {m : M} {rest : List M} {old new : SeatInfo M} → IsOnly rules.seat_of old → Appends rules (m ∷ rest) old new → rules.seat_of m ≡ old.name → before_appended rules.seat_of 0 old new ≡ old.seen
only_before {M} {W} {C} {rules} {m} {rest} {old} {new} o a own = grind (arith, common_steps, mine_of, marks_of, all_mine, length, only_seen, before_mark-append)

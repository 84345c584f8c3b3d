-- What calls do to semaphores and rooms that have one seat.
use Rattle.fak_processor.proofs.Common.{◌≡◌, ◌⊎◌, ℕ, ◌+◌, List, [], ◌∷◌, ◌++◌, Some, None, length, length-append, refl, ap, sym, ◌∙◌, subst, arith, inl, inr, ℤ, pos, map, ◌+ℤ◌, ◌≤ℤ◌, ◌<ℤ◌, flat_map, sum_by, ints, map-append, sum_by-append, count, gots, items_put, contents, SeatInfo, Appends, CreditKind, CreditMark, RoomKind, Up, Over, Back, No, Release, RoomMark, Kind, Mark, made_by, RefusedInsertion, kinds_not_in, RefusedDeletion, kinds_not_out, kinds_in, kinds_out, InsertsAtLast, DeletesAtLast, SemInfo, SemId, SemSeatInfo, Downs, Ups, IsOnly, IsOnlySem, Passes, Parks, Raises, Rouses, IsOnlyRoom, Claims, FindsFull, GivesBack, total_push, RoomInfo, held_amount, IsGranted, MakesCall, Withdraws, made_by_append, count_at_last, none_in, none_out, only_seen, only_still, only_lawful, only_before, common_steps}
use Rattle.fak_model.specs.declared.queue.Kind.TheVariants as made
use Rattle.fak_model.specs.Credit as credit
use Rattle.fak_model.specs.Room as room
use Rattle.fak_count.specs.Credits as credits
use Rattle.fak_count.specs.RoomShown.{room_mark}
use Rattle.fak_processor.proofs.OnlyQueues.{items_more, items_added, first_left}

-- ---- the wait queue after refusals

-- marks that put nothing, in front of others
module _ {T R : Type 0} (kinds_of : R → List (Kind T)) (name : ℕ) (no_puts : (r : R) → items_put (made_by name (kinds_of r)) ≡ []) where
  none_put : (refused : List R) → items_put (made_by name (flat_map kinds_of refused)) ≡ []
  none_put [] = refl
  none_put (r ∷ rs) =
      ap (λ (h : List (Mark T)). items_put h) (made_by_append name (kinds_of r) (flat_map kinds_of rs))
      ∙ (items_more (made_by name (kinds_of r)) (made_by name (flat_map kinds_of rs)) ∙ (ap (λ l. l ++ items_put (made_by name (flat_map kinds_of rs))) (no_puts r) ∙ none_put rs))

  pub put_at_last : (refused : List R) (kinds : List (Kind T)) → items_put (made_by name (flat_map kinds_of refused ++ kinds)) ≡ items_put (made_by name kinds)
  put_at_last refused kinds = grind (arith, common_steps, items_put, made_by_append, flat_map, items_more, made_by, none_put)

pub in_put : (T : Type 0) (name : ℕ) (r : RefusedInsertion) → items_put (made_by name (kinds_not_in {T = T} r)) ≡ []
in_put T name r = grind (arith, common_steps, items_put, made_by, kinds_not_in)

out_put : (T : Type 0) (name : ℕ) (r : RefusedDeletion) → items_put (made_by name (kinds_not_out {T = T} r)) ≡ []
out_put T name r = grind (arith, common_steps, items_put, made_by, kinds_not_out)

module _ {T : Type 0} {size : ℕ} {x : T} {old new : SeatInfo (Mark T)} (o : IsOnly (λ (m : Mark T). m.seat) old) where
  pub inserted : InsertsAtLast size x old new → (contents new.seen ≡ contents old.seen ++ x ∷ []) × IsOnly (λ (m : Mark T). m.seat) new
  inserted (ticket, made_last) =
      let a = made_last.makes in
      let none : count gots (made_by old.name (flat_map kinds_not_in made_last.refused ++ kinds_in ticket x)) ≡ 0 = count_at_last gots kinds_not_in (none_in gots refl) old.name made_last.refused (kinds_in ticket x) in
      let put = put_at_last kinds_not_in old.name (in_put T old.name) made_last.refused (kinds_in ticket x) in
      (items_added (flat_map kinds_not_in made_last.refused ++ kinds_in ticket x) o a none ∙ ap (λ l. contents old.seen ++ l) put, only_still o a)

  pub deleted : DeletesAtLast size x old new → (contents old.seen ≡ x ∷ contents new.seen) × IsOnly (λ (m : Mark T). m.seat) new
  deleted (ticket, made_last) =
      let a = made_last.makes in
      let refused = flat_map kinds_not_out made_last.refused in
      let no_put = out_put T old.name in
      let got = count_at_last gots kinds_not_out (none_out gots refl) old.name made_last.refused in
      let claim : List (Kind T) = made.ClaimOut ∷ [] in
      let rest : List (Kind T) = made.Got x ∷ made.Take ticket ∷ made.EndOut ∷ [] in
      let split : made_by old.name (refused ++ kinds_out ticket x) ≡ made_by old.name (refused ++ claim) ++ made_by old.name rest =
      ap (made_by old.name) (sym (Rattle.std.proofs.Common.append_assoc refused claim rest)) ∙ made_by_append old.name (refused ++ claim) rest in (
        first_left (refused ++ kinds_out ticket x) o a x (made_by old.name (refused ++ claim)) (made_by old.name (made.Take ticket ∷ made.EndOut ∷ [])) split
            (got claim) (put_at_last kinds_not_out old.name no_put made_last.refused claim)
            (got (kinds_out ticket x)) (put_at_last kinds_not_out old.name no_put made_last.refused (kinds_out ticket x)),
        only_still o a,
      )

-- ---- semaphores

-- one more debit or credit
record IsCounted (kind : CreditKind) (start : ℕ) (found : ℤ) (old new : List CreditMark) : Type 0 where
  debits : credit.debits new ≡ credit.debits old + credit.debit_weight kind
  credits : credit.credits new ≡ credit.credits old + credit.credit_weight kind
  value_is : found ≡ credit.value start old

module _ {start : ℕ} {info : credits.CreditInfo} {kind : CreditKind} {found : ℤ} {old new : SeatInfo CreditMark} (o : IsOnly (λ (m : CreditMark). m.seat) old) (is : info.start ≡ start) (c : credits.MakesCall kind info old new found) where
  made_count : IsCounted kind start found old.seen new.seen
  made_count =
      let m : CreditMark = record { seat = old.name; kind = kind } in
      let seen : new.seen ≡ old.seen ++ m ∷ [] = only_seen o c.appends in
      record {
        debits = ap credit.debits seen ∙ total_push credit.kind_of credit.debit_weight old.seen m;
        credits = ap credit.credits seen ∙ total_push credit.kind_of credit.credit_weight old.seen m;
        value_is = c.answers ∙ (ap (λ (n : ℕ). credit.value n (Rattle.fak_model.specs.Calls.before_appended credits.seat_of 0 old new)) is ∙ ap (credit.value start) (only_before o c.appends refl));
      }

same_start : {a b : SemId} → a ≡ b → b.start ≡ a.start
same_start e = ap (λ (s : SemId). s.start) (sym e)

module _ {T : Type 0} {sem : SemInfo} {old new : SemSeatInfo T} (o : IsOnlySem old) (fits : old.object ≡ sem.object) (same : new.object ≡ old.object) where
  pub down_passes : {who passed : T} → Downs sem who old new (Some passed) → (passed ≡ who) × Passes old new
  down_passes {who} {passed} d =
      let n = made_count o.credit (same_start fits) d.debits in
      let q : contents new.queue_seen ≡ contents old.queue_seen = ap (λ (s : SeatInfo (Mark T)). contents s.seen) d.passes.1.same_queue in
      let k : length (contents new.queue_seen) ≡ length (contents old.queue_seen) = ap length q in
      let s = same_start same in (
        d.passes.0,
        record {
          only = record { credit = only_still o.credit d.debits.appends; queue = subst (IsOnly (λ (m : Mark T). m.seat)) (sym d.passes.1.same_queue) o.queue; owed = omega (arith, ints, k, o.owed, s, n.debits, n.credits, n.value_is, d.passes.1.enough) };
          count = omega (arith, ints, s, n.debits, n.credits, n.value_is, d.passes.1.enough);
          sleepers = q;
        },
      )

  pub down_parks : {who : T} → Downs sem who old new None → Parks who old new
  down_parks {who} d =
      let n = made_count o.credit (same_start fits) d.debits in
      let i = inserted o.queue d.passes.inserts in
      let q : contents new.queue_seen ≡ contents old.queue_seen ++ who ∷ [] = i.0 in
      let k : length (contents new.queue_seen) ≡ length (contents old.queue_seen) + 1 = ap length q ∙ length-append (contents old.queue_seen) (who ∷ []) in
      let s = same_start same in
      record {
        only = record { credit = only_still o.credit d.debits.appends; queue = i.1; owed = omega (arith, ints, k, o.owed, s, n.debits, n.credits, n.value_is, d.passes.short) };
        none = omega (arith, ints, s, n.debits, n.credits, n.value_is, d.passes.short);
        count = omega (arith, ints, s, n.debits, n.credits, n.value_is, d.passes.short);
        sleepers = q;
      }

  pub up_raises : Ups sem old new None → Raises old new
  up_raises u =
      let n = made_count o.credit (same_start fits) u.credits in
      let q : contents new.queue_seen ≡ contents old.queue_seen = ap (λ (s : SeatInfo (Mark T)). contents s.seen) u.wakes.same_queue in
      let k : length (contents new.queue_seen) ≡ length (contents old.queue_seen) = ap length q in
      let s = same_start same in
      record {
        only = record { credit = only_still o.credit u.credits.appends; queue = subst (IsOnly (λ (m : Mark T). m.seat)) (sym u.wakes.same_queue) o.queue; owed = omega (arith, ints, k, o.owed, s, n.debits, n.credits, n.value_is, u.wakes.enough) };
        count = omega (arith, ints, s, n.debits, n.credits, n.value_is, u.wakes.enough);
        none = Rattle.fak_processor.proofs.OnlyQueues.no_items (contents old.queue_seen) (omega (arith, ints, o.owed, n.value_is, u.wakes.enough));
        sleepers = q;
      }

  pub up_rouses : {x : T} → Ups sem old new (Some x) → Rouses x old new
  up_rouses {x} u =
      let n = made_count o.credit (same_start fits) u.credits in
      let i = deleted o.queue u.wakes.deletes in
      let q : contents old.queue_seen ≡ x ∷ contents new.queue_seen = i.0 in
      let k : length (contents old.queue_seen) ≡ length (contents new.queue_seen) + 1 = ap length q ∙ omega arith in
      let s = same_start same in
      record {
        only = record { credit = only_still o.credit u.credits.appends; queue = i.1; owed = omega (arith, ints, k, o.owed, s, n.debits, n.credits, n.value_is, u.wakes.owes) };
        count = omega (arith, ints, s, n.debits, n.credits, n.value_is, u.wakes.owes);
        sleepers = q;
      }

-- ---- rooms

total_more : (amount : RoomKind → ℕ) (h l : List RoomMark) → room.total amount (h ++ l) ≡ room.total amount h + room.total amount l
total_more amount h l = ap (sum_by amount) (map-append room.kind_of h l) ∙ sum_by-append amount (map room.kind_of h) (map room.kind_of l)

-- the only seat made these marks, and holds as much more as they weigh
module _ {bound : ℕ} {marks : List RoomMark} {old new : SeatInfo RoomMark} (o : IsOnlyRoom old) (a : Appends (room.room_rules bound) marks old new) where
  amount_after : (amount : RoomKind → ℕ) → room.total amount new.seen ≡ room.total amount old.seen + room.total amount marks
  amount_after amount = ap (room.total amount) (only_seen o.only a) ∙ total_more amount old.seen marks

  room_after : pos (held_amount new) ≡ pos (held_amount old) +ℤ room.value marks → IsOnlyRoom new
  room_after held = grind (arith, common_steps, only_still, amount_after)

pub claims : {info : RoomInfo} {answer : ℤ} {old new : SeatInfo RoomMark} → IsOnlyRoom old → IsGranted 1 info old new answer → held_amount new ≡ held_amount old + 1 → Claims info.bound old new
claims {info} {old = old} o g held =
    let fair : (room.value old.seen +ℤ pos 1) ≤ℤ pos info.bound = (only_lawful o.only g.1.appends).fair old.seen (room_mark old.name (Up 1)) [] refl in
    record { only = room_after o g.1.appends (omega (arith, ints, held)); fits = omega (arith, ints, fair, o.held); held = held }

pub finds_full : {info : RoomInfo} {answer : ℤ} {old new : SeatInfo RoomMark} → IsOnlyRoom old → (MakesCall (No 1) info old new answer ⊎ Withdraws 1 info old new answer) → held_amount new ≡ held_amount old → FindsFull info.bound old new
finds_full {info} {old = old} o (inl c) held =
    let fair : pos info.bound <ℤ (room.value old.seen +ℤ pos 1) = (only_lawful o.only c.appends).fair old.seen (room_mark old.name (No 1)) [] refl in
    record { only = room_after o c.appends (omega (arith, ints, held)); full = omega (arith, ints, fair, o.held); held = held }
finds_full {info} {old = old} o (inr c) held =
    let fair : pos info.bound <ℤ (room.value old.seen +ℤ pos 1) = (only_lawful o.only c.appends).fair old.seen (room_mark old.name (Over 1)) (room_mark old.name (Back 1) ∷ []) refl in
    record { only = room_after o c.appends (omega (arith, ints, held)); full = omega (arith, ints, fair, o.held); held = held }

pub gives_back : {info : RoomInfo} {answer : ℤ} {old new : SeatInfo RoomMark} → IsOnlyRoom old → MakesCall (Release 1) info old new answer → held_amount new + 1 ≡ held_amount old → GivesBack old new
gives_back o c held = record { only = room_after o c.appends (omega (arith, ints, held)); held = held }

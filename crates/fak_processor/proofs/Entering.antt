-- Insertions into a queue that has one seat, after insertions that were refused.
use Rattle.fak_processor.proofs.Common.{◌≡◌, ℕ, ◌+◌, ◌||◌, false, List, [], ◌∷◌, ◌++◌, length, length-append, refl, ap, sym, ◌∙◌, arith, flat_map, gots, lower_raise, lower_drop, Has, contents, SeatInfo, Kind, Mark, Makes, made_by, kinds_in, kinds_not_in, RefusedInsertion, NotIn, WithdrawnIn, ClosedIn, WithdrawnLate, has_close, IsOnlySeat, Enters, Bounces, IsClosed, InsertsAfterFull, ClosesAfterFull, made_by_append, count_at_last, none_in, only_still, common_steps}
use Rattle.fak_model.specs.declared.queue.Kind.TheVariants as made
use Rattle.fak_processor.proofs.OnlyQueues.{close_more, counted, fair_after, has_then_close, keeps, not_shut, or_false, shut_same}
use Rattle.fak_processor.proofs.OnlyCounts.{inserted, in_put, put_at_last}

-- refused insertions do not shut the queue
tries_unshut : (T : Type 0) (name : ℕ) (rs : List RefusedInsertion) → has_close {T = T} (made_by name (flat_map kinds_not_in rs)) ≡ false
tries_unshut T name [] = refl
tries_unshut T name (NotIn ∷ rs) = tries_unshut T name rs
tries_unshut T name (WithdrawnIn ∷ rs) = tries_unshut T name rs
tries_unshut T name (ClosedIn ∷ rs) = tries_unshut T name rs
tries_unshut T name (WithdrawnLate ∷ rs) = tries_unshut T name rs

module _ {T : Type 0} {old : SeatInfo (Mark T)} (o : IsOnlySeat old) (rs : List RefusedInsertion) (kinds : List (Kind T)) where
  abbrev tries : List (Kind T)
  tries = flat_map kinds_not_in rs

  -- whether the queue was shut before them
  shut_before : has_close (old.seen ++ made_by old.name tries) ≡ has_close old.seen
  shut_before = close_more old.seen (made_by old.name tries) ∙ (ap (λ b. has_close old.seen || b) (tries_unshut T old.name rs) ∙ or_false (has_close old.seen))

  made_unshut : has_close (made_by old.name kinds) ≡ false → has_close (made_by old.name (tries ++ kinds)) ≡ false
  made_unshut none =
      ap (λ (h : List (Mark T)). has_close h) (made_by_append old.name tries kinds) ∙ (close_more (made_by old.name tries) (made_by old.name kinds) ∙ (λ i. tries_unshut T old.name rs i || none i))

pub enters : {T : Type 0} {size k : ℕ} {x : T} {old new : SeatInfo (Mark T)} → IsOnlySeat old → InsertsAfterFull size k x old new → Enters x old new
enters {T} {k = k} {x = x} {old = old} {new = new} o i =
    let rs = i.tries.refused in
    let a = i.tries.makes in
    let kinds = flat_map kinds_not_in rs ++ kinds_in k x in
    let items : contents new.seen ≡ contents old.seen ++ x ∷ [] = (inserted o.only (k, i.tries)).0 in
    let len : length (contents new.seen) ≡ length (contents old.seen) + 1 = ap length items ∙ length-append (contents old.seen) (x ∷ []) in
    let up = counted kinds o.only a lower_raise in
    let down = counted kinds o.only a lower_drop in
    let raised = count_at_last lower_raise kinds_not_in (none_in lower_raise refl) old.name rs (kinds_in k x) in
    let dropped = count_at_last lower_drop kinds_not_in (none_in lower_drop refl) old.name rs (kinds_in k x) in
    let fair = fair_after kinds o.only a (made_by old.name (flat_map kinds_not_in rs)) (record { seat = old.name; kind = made.ClaimIn }) _ (made_by_append old.name (flat_map kinds_not_in rs) (kinds_in k x)) in
    record {
      only = record { only = only_still o.only a; rest = omega (arith, up, down, raised, dropped, o.rest, len) };
      items = items;
      shut = shut_same kinds o.only a (made_unshut o rs (kinds_in k x) refl);
      unshut = sym (shut_before o rs (kinds_in k x)) ∙ not_shut (old.seen ++ made_by old.name (flat_map kinds_not_in rs)) fair.answer.1;
    }

pub bounces : {T : Type 0} {size : ℕ} {old new : SeatInfo (Mark T)} → IsOnlySeat old → ClosesAfterFull size old new → Bounces old new
bounces {T} {size} {old} {new} o c = by c.closed c.is_closed c.tries.makes
  where
    rs : List RefusedInsertion
    rs = c.tries.refused

    before : List (Mark T)
    before = made_by old.name (flat_map kinds_not_in rs)

    bounced : (r : RefusedInsertion) → Makes size (flat_map kinds_not_in rs ++ kinds_not_in r) old new → has_close (made_by old.name (kinds_not_in {T = T} r)) ≡ false → Has made.Close (old.seen ++ before) → Bounces old new
    bounced r a unshut has =
        let raised = count_at_last lower_raise kinds_not_in (none_in lower_raise refl) old.name rs (kinds_not_in r) ∙ none_in lower_raise refl old.name r in
        let dropped = count_at_last lower_drop kinds_not_in (none_in lower_drop refl) old.name rs (kinds_not_in r) ∙ none_in lower_drop refl old.name r in
        record {
          keeps = keeps o (flat_map kinds_not_in rs ++ kinds_not_in r) a (count_at_last gots kinds_not_in (none_in gots refl) old.name rs (kinds_not_in r) ∙ none_in gots refl old.name r)
              (put_at_last kinds_not_in old.name (in_put T old.name) rs (kinds_not_in r) ∙ in_put T old.name r) (raised ∙ sym dropped) (made_unshut o rs (kinds_not_in r) unshut);
          closed = sym (shut_before o rs (kinds_not_in r)) ∙ has_then_close (old.seen ++ before) has;
        }

    by : (r : RefusedInsertion) → IsClosed r → Makes size (flat_map kinds_not_in rs ++ kinds_not_in r) old new → Bounces old new
    by r is a = grind (arith, common_steps, flat_map, kinds_not_in, rs, IsClosed, bounced, fair_after, before, made_by_append)

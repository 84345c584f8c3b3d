use Rattle.fak_queue.proofs.Common.{arith, sym, ap, subst, ◌∙◌, ◌≡◌, ℕ, ◌+◌, ◌-◌, ◌%◌, ◌<◌, ◌∷◌, true, false, length, get_or, set, mod-lt, None, slots_items, slots_len, slots_filled, slots_counts, items_left}
use Rattle.fak_queue.proofs.Leaving.{next_item, not_none, none_or_some, refilled, same_some}
use Rattle.fak_queue.proofs.rest.RestIterator.next.Goals as goal

pub unreachable-requires : goal.unreachable-requires
unreachable-requires g c =
    let r = c.self.inside in
    let kept = c.self.invariant.left in
    let t = next_item r.size (slots_items r.closed.slots) None r.next r.count c.if-self-eq0.false kept.fit kept.each in
    none_or_some t.0 _ (not_none (slots_items r.closed.slots) (r.next % r.size) t.0 _ t.1 c.take-item.ensures.value) c.in-None.is

pub invariant_of-self : goal.invariant_of-self
invariant_of-self g c =
    let r = c.self.inside in
    let kept = c.self.invariant.left in
    let near : r.next % r.size < r.size = mod-lt r.next kept.some_cell in
    let items = c.put.ensures.items ∙ ap (λ l. set l (r.next % r.size) None) c.take-item.ensures.others.0 in
    let some_left = c.if-self-eq0.false in
    let fit = kept.fit in
    let few = kept.few in
    let t = next_item r.size (slots_items r.closed.slots) None r.next r.count some_left fit kept.each in
    let long : slots_len c.put.new.self ≡ slots_len r.closed.slots = c.put.ensures.places.count ∙ c.take-item.ensures.others.2 in
    let flags : slots_len r.closed.slots ≡ length (slots_filled r.closed.slots) = (slots_counts r.closed.slots).1 in
    let wide : slots_len r.closed.slots ≡ r.size = c.self.invariant.wide in
    let fill = c.put.ensures.filled ∙ ap (λ l. set l (r.next % r.size) true) c.take-item.ensures.others.1 in
    record {
      full = λ j z less. ap (λ l. get_or l j false) fill ∙ refilled (slots_filled r.closed.slots) (r.next % r.size) (slots_len r.closed.slots) (omega (arith, near, flags, wide)) c.self.invariant.full j z (subst (λ (a : ℕ). j < a) long less);
      wide = long ∙ wide;
      left = record {
        some_cell = kept.some_cell;
        fit = omega (arith, fit);
        few = omega (arith, few, some_left);
        each = ap (λ l. length (items_left r.size l (r.next + 1) (r.count - 1))) items ∙ t.3;
      };
    }

pub returns : goal.returns
returns g c =
    let r = c.self.inside in
    let kept = c.self.invariant.left in
    let t = next_item r.size (slots_items r.closed.slots) None r.next r.count c.if-self-eq0.false kept.fit kept.each in
    let items = c.put.ensures.items ∙ ap (λ l. set l (r.next % r.size) None) c.take-item.ensures.others.0 in
    let is = same_some t.0 c.in-Some.item (sym (not_none (slots_items r.closed.slots) (r.next % r.size) t.0 _ t.1 c.take-item.ensures.value) ∙ c.in-Some.is) in
    sym c.self.view_is ∙ (t.2 ∙ (λ i. is i ∷ items_left r.size (sym items i) (r.next + 1) (r.count - 1)))

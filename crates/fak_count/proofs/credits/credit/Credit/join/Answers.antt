use Rattle.fak_count.proofs.Common.{rules, ap, token_slots, tally_at, seat_at, may_join, token_joined, set_joined, call_joined, credit_object, CreditInfo}
use Rattle.fak_count.proofs.credits.credit.Credit.join.Goals as goal

pub join_seat-requires : goal.join_seat-requires
join_seat-requires c =
    let o = credit_object c.self.inside.table.shared.key in
    let object = ap (λ (x : CreditInfo). x.object) c.self.view_is in (
      tally_at o c.tally.invariant.0 c.seat.invariant c.tally.view_is c.seat.view_is object c.requires.object.0 c.requires.object.1,
      seat_at o c.tally.invariant.0 c.seat.invariant c.tally.view_is c.seat.view_is object c.requires.object.0 c.requires.object.1,
      token_slots c.seat.invariant,
      search (rules, c.self.invariant),
      may_join o c.tally.invariant.0 c.seat.invariant c.tally.view_is c.seat.view_is object c.requires.object.0 c.requires.object.1 _ _,
    )

pub invariant_of-result : goal.invariant_of-result
invariant_of-result c =
    let o = credit_object c.self.inside.table.shared.key in
    let object = ap (λ (x : CreditInfo). x.object) c.self.view_is in (
      token_joined o c.tally.invariant.0 c.seat.invariant c.tally.view_is c.seat.view_is object c.requires.object.0 c.requires.object.1 c.join_seat.ensures.2 c.hear.ensures.told,
      set_joined o c.tally.invariant.0 c.seat.invariant c.tally.view_is c.seat.view_is object c.requires.object.0 c.requires.object.1 c.join_seat.ensures.2 c.hear.ensures.told _ _ c.tally.invariant.1 c.insert.ensures,
    )

pub returns-clause-joined : goal.returns-clause-joined
returns-clause-joined c =
    let o = credit_object c.self.inside.table.shared.key in
    let object = ap (λ (x : CreditInfo). x.object) c.self.view_is in
    call_joined o c.tally.invariant.0 c.seat.invariant c.tally.view_is c.seat.view_is object c.requires.object.0 c.requires.object.1 c.join_seat.ensures.2 c.hear.ensures.told (search rules)

use Rattle.fak_count.proofs.Common.{rules, ◌∙◌, w64, arith, to_z-of_z}
use Rattle.fak_count.proofs.CreditCalls.{found_fits, token_made, call_made}
use Rattle.fak_count.proofs.credits.credit.Credit.credit.Goals as goal

pub count_of-requires : goal.count_of-requires
count_of-requires c = found_fits c.self.inside.table.shared.key c.seat.invariant c.seat.view_is c.self.view_is c.requires.object c.credit-found.ensures.told.told

pub invariant_of-seat : goal.invariant_of-seat
invariant_of-seat c = token_made c.self.inside.table.shared.key c.seat.invariant c.seat.view_is c.self.view_is c.requires.object c.credit-found.ensures.told.told

pub returns-clause-call : goal.returns-clause-call
returns-clause-call c =
    let some_left = c.if-seat-eq0.false in
    call_made c.self.inside.table.shared.key c.seat.invariant c.seat.view_is c.self.view_is c.requires.object c.credit-found.ensures.told.told c.credit-found.ensures.told.same (omega (arith, some_left)) (to_z-of_z {w = w64} (search rules) ∙ c.count_of.ensures.difference)

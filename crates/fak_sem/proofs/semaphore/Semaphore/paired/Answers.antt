use Rattle.fak_sem.proofs.Common.{rules, ◌≡◌, ◌-◌, ◌++◌, [], ◌∷◌, length, ap, sym, ◌∙◌, arith, CreditMark, Mark, fresh_seats, fresh_sem_seats, sem_seat}
use Rattle.fak_model.proofs.FreshSeats.{length-fresh_seats, next_seat}
use Rattle.fak_sem.proofs.Pairing.{fresh_sem_seat, fresh_paired, fresh_sem_next}
use Rattle.fak_sem.proofs.semaphore.Semaphore.paired.Goals as goal

pub loop-name-init : goal.loop-name-init
loop-name-init g c =
    let all : c.args.limits.seats ≡ c.args.limits.seats - 0 = omega arith in
    let object = c.args.self.now.object in
    let credit_len = ap length c.requires.credit in
    let queue_len = ap length c.requires.queue in (
      c.into_iter-credits.ensures.rest ∙ (c.requires.credit ∙ ap (fresh_seats object.credit c.args.limits.stint 0) all),
      omega (arith, c.into_iter-credits.ensures.len, c.args.credit_seats.ok, credit_len, length-fresh_seats CreditMark object.credit c.args.limits.stint 0 c.args.limits.seats),
      c.into_iter-queues.ensures.rest ∙ (c.requires.queue ∙ ap (fresh_seats object.queue c.args.limits.stint 0) all),
      omega (arith, c.into_iter-queues.ensures.len, c.args.queue_seats.ok, queue_len, length-fresh_seats (Mark g.row.T.Denot) object.queue c.args.limits.stint 0 c.args.limits.seats),
      search rules,
    )

pub invariant_of-push : goal.invariant_of-push
invariant_of-push g c =
    let credit = next_seat c.loop-name-test.true c.loop-name.invariant.0 c.in-Some.ensures.cases.0 in
    let queue = next_seat c.loop-name-test.true c.loop-name.invariant.2 c.in-Some-next.ensures.cases.0 in
    fresh_sem_seat c.args.limits.start (c.requires.seats.1 ∙ sym c.requires.seats.0) credit.first queue.first

pub loop-name-preserved : goal.loop-name-preserved
loop-name-preserved g c =
    let low = c.loop-name-test.true in
    let credit = next_seat low c.loop-name.invariant.0 c.in-Some.ensures.cases.0 in
    let queue = next_seat low c.loop-name.invariant.2 c.in-Some-next.ensures.cases.0 in
    let new = sem_seat c.args.limits.start c.in-Some.credit c.in-Some-next.queue in (
      credit.others,
      omega (arith, low, c.loop-name.invariant.1, c.in-Some.ensures.cases.1),
      queue.others,
      omega (arith, low, c.loop-name.invariant.3, c.in-Some-next.ensures.cases.1),
      c.in_ok-push.ensures.items ∙ (ap (λ l. l ++ new ∷ []) c.loop-name.invariant.4 ∙ fresh_sem_next c.args.self.now.object c.args.limits.stint 0 c.loop-name._name new (fresh_paired c.requires.start credit.first queue.first)),
    )

pub returns : goal.returns
returns g c =
    let end = c.loop-name.auto._name-end in
    let last = c.loop-name-test.false in
    let all : c.loop-name._name ≡ c.args.limits.seats = omega (arith, end, last) in
    c.loop-name.invariant.4 ∙ ap (fresh_sem_seats c.args.self.now.object c.args.limits.stint 0) all

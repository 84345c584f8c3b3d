use Rattle.std.proofs.Common.{◌≡◌, ℕ, ◌+◌, ◌++◌, Some, None, [], ◌∷◌, ap, ◌∙◌, subst, arith}
use Rattle.fak_queue.specs.SleeperSeats.{SleeperInfo, UndealtInfo, DealsNext, fresh_sleeper}
use Rattle.fak_channel.specs.Undealt.{dealt}
use Rattle.fak_channel.proofs.Deals.{dealt_next}
use Rattle.fak_channel.proofs.opening.deal.Goals as goal

pub next-requires : goal.next-requires
next-requires g c = ap (λ (u : UndealtInfo). u.object) c.loop-name.invariant.rest

pub unreachable-requires : goal.unreachable-requires
unreachable-requires g c =
    let low = c.loop-name-test.true in
    let none = subst (λ (u : UndealtInfo). DealsNext {T = g.row.T.Denot} u c.next.new.self None) c.loop-name.invariant.rest c.in-None.ensures in
    let ends = c.requires.ends in
    let last : c.loop-name._name ≡ c.args.queue.now.object.seats = none.1 in
    omega (arith, low, last, ends)

pub loop-name-preserved : goal.loop-name-preserved
loop-name-preserved g c =
    let name = c.loop-name._name in
    let was = c.loop-name.invariant in
    let seat = c.in-Some.seat in
    let f : ℕ → SleeperInfo g.row.T.Denot = fresh_sleeper c.args.queue.now.object c.args.stint in
    let deals = subst (λ (u : UndealtInfo). DealsNext {T = g.row.T.Denot} u c.next.new.self (Some seat)) was.rest c.in-Some.ensures in
    let up : name ≡ 0 + name = omega arith in
    record {
      rest = deals.2;
      seats = c.in_ok-push-in-Some.ensures.items ∙ (ap (λ l. l ++ seat ∷ []) was.seats ∙ dealt_next f 0 name seat (deals.1 ∙ ap f up));
    }

pub returns : goal.returns
returns g c =
    let end = c.loop-name.auto._name-end in
    let last = c.loop-name-test.false in
    let all : c.loop-name._name ≡ c.args.ends = omega (arith, end, last) in
    c.loop-name.invariant.seats ∙ ap (dealt (fresh_sleeper c.args.queue.now.object c.args.stint) 0) all

use Rattle.std.proofs.Common.{rules, ◌≡◌, ◌+◌, ◌-◌, ◌++◌, [], ◌∷◌, ap, ◌∙◌, subst, arith}
use Rattle.fak_channel.specs.Undealt.{AreUndealt, fresh_channel_seat, fresh_channel_seats}
use Rattle.fak_channel.proofs.Deals.{dealt_next}
use Rattle.fak_channel.proofs.channel.Channel.seats.Goals as goal

pub loop-name-init : goal.loop-name-init
loop-name-init g c =
    let all : c.args.ends ≡ c.args.ends - 0 = omega arith in
    record { rest = subst (λ n. AreUndealt c.args.self.now c.args.stint 0 n c.args.undealt) all c.requires; seats = search rules }

pub unreachable-requires : goal.unreachable-requires
unreachable-requires g c =
    let low = c.loop-name-test.true in
    let none : c.args.ends - c.loop-name._name ≡ 0 = c.in-None.ensures c.args.self.now c.args.stint c.loop-name._name (c.args.ends - c.loop-name._name) c.loop-name.invariant.rest in
    omega (arith, low, none)

pub loop-name-preserved : goal.loop-name-preserved
loop-name-preserved g c =
    let name = c.loop-name._name in
    let was = c.loop-name.invariant in
    let seat = c.in-Some.seat in
    let f = fresh_channel_seat c.args.self.now c.args.stint in
    let deals = c.in-Some.ensures c.args.self.now c.args.stint name (c.args.ends - name) was.rest in
    let left : (c.args.ends - name) - 1 ≡ c.args.ends - (name + 1) = omega arith in
    let up : name ≡ 0 + name = omega arith in
    record {
      rest = subst (λ n. AreUndealt c.args.self.now c.args.stint (name + 1) n c.next.new.self) left deals.2;
      seats = c.in_ok-push-in-Some.ensures.items ∙ (ap (λ l. l ++ seat ∷ []) was.seats ∙ dealt_next f 0 name seat (deals.1 ∙ ap f up));
    }

pub returns : goal.returns
returns g c =
    let end = c.loop-name.auto._name-end in
    let last = c.loop-name-test.false in
    let all : c.loop-name._name ≡ c.args.ends = omega (arith, end, last) in
    c.loop-name.invariant.seats ∙ ap (fresh_channel_seats c.args.self.now c.args.stint 0) all

use Rattle.fak_processor.proofs.Common.{◌≡◌, ◌∙◌, ◌<◌, ap, sym, subst, true, rules, None, arith, common_steps}
use Rattle.fak_processor.specs.Asking.{AreAsked, looks_of}
use Rattle.fak_processor.proofs.Acting.{moves_none}
use Rattle.fak_processor.proofs.Looping.{moves_on, leaves_none}
use Rattle.fak_processor.proofs.Asking.{none_asked, asked_on, all_asked}
use Rattle.fak_processor.proofs.Working.{reached_on, reached_the_end}
use Rattle.fak_processor.proofs.worker.Worker.run_loop.Goals as goal

pub loop-init : goal.loop-init
loop-init g c =
    let number = ap (λ l. l.processor) c.new-looks.ensures ∙ c.self.invariant.2 in
    ((tt, tt), moves_none c.args.self.now, λ r. r, number, subst (λ n. AreAsked (g.G.Gate.answers c.args.gate.now g.P.Station.number) (looks_of c.args.self.now.ready) c.args.self.now.ready n) (sym (ap (λ l. l.made) c.new-looks.ensures)) (none_asked (g.G.Gate.answers c.args.gate.now g.P.Station.number) c.args.self.now.ready))

pub loop-preserved : goal.loop-preserved
loop-preserved g c =
    let same = c.loop.invariant.3 in
    ((tt, tt), moves_on c.loop.running c.in_ok-running.running c.loop.invariant.1 c.in_ok-running.ensures.general c.test_done.ensures.gains, λ r. reached_on c.loop.running c.in_ok-running.running (c.loop.invariant.2 r) c.in_ok-running.ensures.alone c.test_done.ensures.alone, c.step.ensures.number ∙ same, asked_on (g.G.Gate.answers c.args.gate.now) same c.loop.invariant.4 (c.in_ok-running.ensures.asked _) c.test_done.ensures.ready)

pub returns-then-test_done-clause-general : goal.returns-then-test_done-clause-general
returns-then-test_done-clause-general g c = grind (arith, common_steps, leaves_none)

pub returns-then-test_done-clause-alone : goal.returns-then-test_done-clause-alone
returns-then-test_done-clause-alone g c =
    let done : c.test_done.result ≡ true = search rules in
    let over = c.test_done.ensures.done done in
    let idle : c.loop.running ≡ None = search (rules, over) in
    λ r _. reached_the_end c.loop.running c.in_ok-running.running idle over.1 (c.loop.invariant.2 r) c.in_ok-running.ensures.alone c.test_done.ensures.alone

pub returns-then-test_done-clause-passed : goal.returns-then-test_done-clause-passed
returns-then-test_done-clause-passed g c =
    let are = asked_on (g.G.Gate.answers c.args.gate.now) c.loop.invariant.3 c.loop.invariant.4 (c.in_ok-running.ensures.asked _) c.test_done.ensures.ready in
    let done : c.test_done.result ≡ true = search rules in
    let over = c.test_done.ensures.done done in
    let idle : c.loop.running ≡ None = search (rules, over) in
    let low : 0 < c.step.new.looks.made = omega (arith, c.step.ensures.looked idle) in
    λ _. are.passed 0 low

pub returns-then-test_done-clause-asked : goal.returns-then-test_done-clause-asked
returns-then-test_done-clause-asked g c =
    let are = asked_on (g.G.Gate.answers c.args.gate.now) c.loop.invariant.3 c.loop.invariant.4 (c.in_ok-running.ensures.asked _) c.test_done.ensures.ready in
    all_asked (g.G.Gate.answers c.args.gate.now g.P.Station.number) c.args.self.now.ready are

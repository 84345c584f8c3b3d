use Rattle.fak_kernel.proofs.Common.{ProcessorOf, IsLeftBy, AreGathered, AreOfOne, ◌≡◌, ℕ, ◌+◌, get_or, ap, sym, ◌∙◌, subst, arith}
use Rattle.fak_kernel.proofs.JoiningProcessors.{gathered_of_first, next_of}
use Rattle.fak_kernel.proofs.Indexing.{took, took_first}
use Rattle.fak_kernel.proofs.ending.gather.gather.Goals as goal

pub of-requires : goal.of-requires
of-requires g c =
    let cases = c.in-Some.ensures.cases in
    let first = took_first (IsLeftBy g.K.Run.script c.args.objects.now) c.args.left.len c.into_iter-processors.result.rest.len c.next.new.self.rest.len c.into_iter-processors.ensures.rest c.into_iter-processors.ensures.len cases.0 (omega (arith, cases.1)) c.requires.left in
    record { idle = (first.0.between.are.ready_idle, first.0.between.are.free_idle, first.0.between.are.files_free) }

pub loop-joined-init : goal.loop-joined-init
loop-joined-init g c =
    let rest = c.into_iter-processors.ensures.rest in
    let len = c.into_iter-processors.ensures.len in
    let cases = c.in-Some.ensures.cases in
    let first = took_first (IsLeftBy g.K.Run.script c.args.objects.now) c.args.left.len c.into_iter-processors.result.rest.len c.next.new.self.rest.len c.into_iter-processors.ensures.rest c.into_iter-processors.ensures.len cases.0 (omega (arith, cases.1)) c.requires.left in
    let of = c.in_ok-all.ensures in
    let one : AreOfOne c.in-Some.first c.in_ok-all.all.tallies c.in_ok-all.all.ended.items c.in_ok-all.all.halted.items = record { tallies = of.tallies; ended_are = of.ended; halted_are = of.halted } in
    let at : (d : ProcessorOf) → get_or c.args.left.items 0 d ≡ c.in-Some.first = λ d. ap (λ l. get_or l 0 d) (sym rest ∙ cases.0) in
    record {
      from = omega arith;
      gathered = gathered_of_first first.0 one;
      len = omega (arith, len, cases.1, c.requires.some);
      left = first.1;
      alone = λ e d. subst (λ (p : ProcessorOf). AreOfOne p c.in_ok-all.all.tallies c.in_ok-all.all.ended.items c.in_ok-all.all.halted.items) (sym (at d)) one;
    }

pub join-requires-clause-seats : goal.join-requires-clause-seats
join-requires-clause-seats g c =
    let was = c.loop-joined.invariant in
    let cases = c.in-Some-next.ensures.cases in
    (took (IsLeftBy g.K.Run.script c.args.objects.now) c.loop-joined._joined (c.loop-joined._joined + 1) c.loop-joined.processors.rest.len c.next-in-loop-joined.new.self.rest.len (omega arith) cases.0 (omega (arith, cases.1)) was.left).0.between.are

pub loop-joined-preserved : goal.loop-joined-preserved
loop-joined-preserved g c =
    let was = c.loop-joined.invariant in
    let cases = c.in-Some-next.ensures.cases in
    let next = took (IsLeftBy g.K.Run.script c.args.objects.now) c.loop-joined._joined (c.loop-joined._joined + 1) c.loop-joined.processors.rest.len c.next-in-loop-joined.new.self.rest.len (omega arith) cases.0 (omega (arith, cases.1)) was.left in
    let more = c.in_ok-all-2.ensures in
    record {
      from = omega (arith, was.from);
      gathered = next_of (rw c.objects.view_is at c.objects.invariant.1) was.from was.gathered next.0 more.tallies more.ended more.halted;
      len = omega (arith, was.len, cases.1);
      left = next.1;
      alone = λ e d. absurd (omega (arith, was.from, e));
    }

pub returns-clause-gathered : goal.returns-clause-gathered
returns-clause-gathered g c =
    let end = c.loop-joined.auto._joined-end in
    let last = c.loop-joined-test.false in
    let all : c.loop-joined._joined ≡ c.args.left.len = omega (arith, end, last, c.loop-joined.invariant.from, c.loop-joined.invariant.len) in
    subst (λ (n : ℕ). AreGathered g.K.Run.script c.args.objects.now n c.loop-joined.all.tallies c.loop-joined.all.ended.items c.loop-joined.all.halted.items) all c.loop-joined.invariant.gathered

pub returns-clause-alone : goal.returns-clause-alone
returns-clause-alone g c one d =
    let end = c.loop-joined.auto._joined-end in
    let last = c.loop-joined-test.false in
    let is : c.loop-joined._joined ≡ 1 = omega (arith, end, last, c.loop-joined.invariant.from, c.loop-joined.invariant.len, one) in
    c.loop-joined.invariant.alone is d

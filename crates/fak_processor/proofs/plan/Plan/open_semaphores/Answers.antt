use Rattle.std.proofs.lemmas.List.{append-nil, map-append, length-map}
use Rattle.fak_processor.proofs.Common.{ids_of, ◌≡◌, ◌+◌, [], ◌∷◌, List, length, drop, ap, sym, ◌∙◌, subst, arith, map, All, SemId, SemInfo, common_steps}
use Rattle.fak_processor.specs.Opened.{IsSemaphoreFor, dealt_to, fresh_rows}
use Rattle.fak_processor.proofs.Dealing.{deals_more, drop_at, drop_past, length-fresh, length-rows, sems_more, starts_next}
use Rattle.fak_processor.proofs.plan.Plan.open_semaphores.Goals as goal

pub deal-requires : goal.deal-requires
deal-requires g c =
    let was = c.loop-start.invariant in
    record { len = omega (arith, length-map c.loop-start.rows.items (λ row. row.items), ap length was.rows, length-rows (ids_of c.loop-start.semaphores.items) c.args.self.now.script.now.stint 0 c.args.self.now.processors, ap length c.in_ok-semaphore.ensures.seats, length-fresh c.in_ok-semaphore.semaphore.object c.args.self.now.script.now.stint 0 c.args.self.now.processors) }

pub loop-start-preserved : goal.loop-start-preserved
loop-start-preserved g c =
    let was = c.loop-start.invariant in
    let opened = c.in_ok-semaphore.ensures.opened in
    let pushed = c.in_ok-push.ensures.items in
    let ids = ap ids_of pushed ∙ map-append (λ (s : SemInfo). s.object) c.loop-start.semaphores.items (c.in_ok-semaphore.semaphore ∷ []) in
    let S = c.semaphores-starts.result.now in
    let same = opened.0 in
    let step : drop c.loop-start.start-index c.semaphores-starts.result.now ≡ c.in_ok-semaphore.semaphore.object.start ∷ drop (c.loop-start.start-index + 1) c.semaphores-starts.result.now = drop_at c.loop-start.start-index S 0 (omega (arith, c.loop-start-test.true)) ∙ ap (λ x. x ∷ drop (c.loop-start.start-index + 1) S) (sym same) in
    record {
      starts_are = starts_next (λ (s : SemInfo). s.object.start) c.loop-start.semaphores.items c.push.new.self.items c.in_ok-semaphore.semaphore (drop c.loop-start.start-index S) (drop (c.loop-start.start-index + 1) S) S was.starts_are step pushed;
      each = subst (λ (l : List SemInfo). All (IsSemaphoreFor c.args.self.now.script.now c.args.self.now.processors) l) (sym pushed) (sems_more c.loop-start.semaphores.items c.in_ok-semaphore.semaphore was.each (record { size = opened.1; seats = opened.2; waits = opened.3 }));
      rows = c.in_ok-rows-2.ensures.dealt
          ∙ ((λ i. dealt_to (was.rows i) (c.in_ok-semaphore.ensures.seats i))
          ∙ (deals_more (ids_of c.loop-start.semaphores.items) c.in_ok-semaphore.semaphore.object c.args.self.now.script.now.stint 0 c.args.self.now.processors ∙ ap (λ (l : List SemId). fresh_rows l c.args.self.now.script.now.stint 0 c.args.self.now.processors) (sym ids)));
    }

pub returns-clause-opened : goal.returns-clause-opened
returns-clause-opened g c = grind (arith, common_steps, drop, drop_past, map, append-nil)

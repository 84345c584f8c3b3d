use Rattle.fak_queue.specs.Steps.{IsPlace}
use Rattle.fak_queue.proofs.StepTokens.{still_fits}
use Rattle.fak_queue.proofs.Common.{subst, arith, ◌∙◌, ap, refl, ℕ, ◌%◌}
use Rattle.fak_queue.proofs.BundleFilling.{fills_none, named_now, waits_so, stays_told, early_told, named_then, stores_now, slot_now, next_told}
use Rattle.fak_queue.proofs.bursts.filling.fill_while_ready.Goals as goal

pub has_room-requires : goal.has_room-requires
has_room-requires g c = record { table = still_fits c.requires.token.table c.loop-index.invariant.0; place = subst (λ (z : ℕ). IsPlace z c.place-place.result) c.requires.token.cells c.place-place.ensures.place; name = (named_now c.args.at.now.names.now c.args.at.now.ticket c.args.at.now.done c.loop-index.index c.args.at.now.granted c.args.kept.now.items c.loop-index.kept.items c.args.token.now.me c.loop-index.token.me c.requires.token.names.0 c.loop-index.invariant.3 c.loop-index-test.true c.place-place.result.ticket c.place-place.ensures.ticket); phase = (waits_so c.args.at.now.names.now c.args.at.now.ticket c.args.at.now.done c.loop-index.index c.args.at.now.granted c.args.kept.now.items c.loop-index.kept.items c.args.token.now.me c.loop-index.token.me c.requires.token.names.0 c.loop-index.invariant.3 c.loop-index-test.true c.place-place.result.ticket c.place-place.ensures.ticket) }

pub returns-then-not-has_room-clause-told : goal.returns-then-not-has_room-clause-told
returns-then-not-has_room-clause-told g c = record { same = c.has_room.ensures.same ∙ c.loop-index.invariant.0; told = stays_told c.args.at.now.names.now c.args.at.now.ticket c.args.at.now.done c.loop-index.index c.args.at.now.granted c.args.kept.now.items c.loop-index.kept.items c.args.token.now.me c.loop-index.token.me c.requires.token.names.0 c.loop-index.invariant.3 c.loop-index-test.true c.place-place.result.ticket c.place-place.ensures.ticket c.has_room.new.token.me c.if-not-has_room.ensures.told }

pub returns-then-not-has_room-clause-early : goal.returns-then-not-has_room-clause-early
returns-then-not-has_room-clause-early g c = λ _. early_told c.args.at.now.names.now c.args.at.now.ticket c.args.at.now.done c.loop-index.index c.args.at.now.granted c.args.kept.now.items c.loop-index.kept.items c.args.token.now.me c.loop-index.token.me c.requires.token.names.0 c.loop-index.invariant.3 c.loop-index-test.true c.place-place.result.ticket c.place-place.ensures.ticket c.has_room.new.token.me c.if-not-has_room.ensures.told

pub fill-requires-clause-token : goal.fill-requires-clause-token
fill-requires-clause-token g c = record { table = still_fits c.requires.token.table (c.has_room.ensures.same ∙ c.loop-index.invariant.0); place = subst (λ (z : ℕ). IsPlace z c.place-place.result) c.requires.token.cells c.place-place.ensures.place; name = (named_then c.args.at.now.names.now c.args.at.now.ticket c.args.at.now.done c.loop-index.index c.args.at.now.granted c.args.kept.now.items c.loop-index.kept.items c.args.token.now.me c.loop-index.token.me c.requires.token.names.0 c.loop-index.invariant.3 c.loop-index-test.true c.place-place.result.ticket c.place-place.ensures.ticket c.has_room.new.token.me c.if-not-has_room.ensures.told c.in-Some.item c.pop_front.new.self.items c.in-Some.ensures.items); phase = (stores_now c.args.at.now.names.now c.args.at.now.ticket c.args.at.now.done c.loop-index.index c.args.at.now.granted c.args.kept.now.items c.loop-index.kept.items c.args.token.now.me c.loop-index.token.me c.requires.token.names.0 c.loop-index.invariant.3 c.loop-index-test.true c.place-place.result.ticket c.place-place.ensures.ticket c.has_room.new.token.me c.if-not-has_room.ensures.told c.in-Some.item c.pop_front.new.self.items c.in-Some.ensures.items) }

pub fill-requires-clause-slot : goal.fill-requires-clause-slot
fill-requires-clause-slot g c = slot_now c.args.at.now.names.now c.args.at.now.ticket c.args.at.now.done c.loop-index.index c.args.at.now.granted c.args.kept.now.items c.loop-index.kept.items c.args.token.now.me c.loop-index.token.me c.requires.token.names.0 c.loop-index.invariant.3 c.loop-index-test.true c.place-place.result.ticket c.place-place.ensures.ticket c.has_room.new.token.me c.if-not-has_room.ensures.told c.in-Some.item c.pop_front.new.self.items c.in-Some.ensures.items c.place-place.result.cell (c.place-place.ensures.place.cell_is ∙ ap (λ (z : ℕ). c.place-place.result.ticket % z) c.requires.token.cells)

pub loop-index-preserved : goal.loop-index-preserved
loop-index-preserved g c =
    let low = c.loop-index-test.true in
    let i = c.loop-index.invariant in (
      c.fill.ensures.same ∙ (c.has_room.ensures.same ∙ i.0),
      omega (arith, i.1),
      omega (arith, low),
      next_told c.args.at.now.names.now c.args.at.now.ticket c.args.at.now.done c.loop-index.index c.args.at.now.granted c.args.kept.now.items c.loop-index.kept.items c.args.token.now.me c.loop-index.token.me c.requires.token.names.0 c.loop-index.invariant.3 c.loop-index-test.true c.place-place.result.ticket c.place-place.ensures.ticket c.has_room.new.token.me c.if-not-has_room.ensures.told c.in-Some.item c.pop_front.new.self.items c.in-Some.ensures.items c.fill.new.token.me c.fill.ensures.told,
      c.in-Some.ensures.capacity ∙ i.4,
    )

pub loop-index-init : goal.loop-index-init
loop-index-init g c =
    let o = c.requires.token.phase.order in
    (refl, omega arith, o.1, fills_none c.args.at.now.names.now c.args.at.now.ticket c.args.at.now.done c.args.at.now.granted c.args.kept.now.items c.args.token.now.me c.requires.token.lawful c.requires.token.phase c.requires.token.slots, refl)

use Rattle.fak_queue.specs.Steps.{IsPlace}
use Rattle.fak_queue.proofs.StepTokens.{still_fits}
use Rattle.fak_queue.proofs.Common.{arith, ◌∙◌, ap, refl, sym, subst, ℕ, ◌+◌, ◌%◌}
use Rattle.fak_queue.specs.Bundles.{EmptiesOn}
use Rattle.fak_queue.proofs.BundleEmptying.{empties_none, named_now, waits_now, stays_told, early_told, named_then, loads_now, slot_now, next_told}
use Rattle.fak_queue.proofs.bursts.emptying.take_while_ready.Goals as goal

pub has_item-requires : goal.has_item-requires
has_item-requires g c = record { table = still_fits c.requires.token.table c.loop-index.invariant.0; place = subst (λ (z : ℕ). IsPlace z c.place-place.result) c.requires.token.cells c.place-place.ensures.place; name = (named_now c.args.at.now.names.now c.args.at.now.ticket c.args.at.now.done c.loop-index.index c.args.at.now.granted c.args.out.now.items c.loop-index.out.items c.args.token.now.me c.loop-index.token.me c.requires.token.names.0 c.loop-index.invariant.3 c.loop-index-test.true c.place-place.result.ticket c.place-place.ensures.ticket); phase = (waits_now c.args.at.now.names.now c.args.at.now.ticket c.args.at.now.done c.loop-index.index c.args.at.now.granted c.args.out.now.items c.loop-index.out.items c.args.token.now.me c.loop-index.token.me c.requires.token.names.0 c.loop-index.invariant.3 c.loop-index-test.true c.place-place.result.ticket c.place-place.ensures.ticket) }

pub returns-then-not-has_item-clause-told : goal.returns-then-not-has_item-clause-told
returns-then-not-has_item-clause-told g c = record { same = c.has_item.ensures.same ∙ c.loop-index.invariant.0; told = stays_told c.args.at.now.names.now c.args.at.now.ticket c.args.at.now.done c.loop-index.index c.args.at.now.granted c.args.out.now.items c.loop-index.out.items c.args.token.now.me c.loop-index.token.me c.requires.token.names.0 c.loop-index.invariant.3 c.loop-index-test.true c.place-place.result.ticket c.place-place.ensures.ticket c.has_item.new.token.me c.if-not-has_item.ensures.told }

pub take-requires-clause-token : goal.take-requires-clause-token
take-requires-clause-token g c = record { table = still_fits c.requires.token.table (c.has_item.ensures.same ∙ c.loop-index.invariant.0); place = subst (λ (z : ℕ). IsPlace z c.place-place.result) c.requires.token.cells c.place-place.ensures.place; name = (named_then c.args.at.now.names.now c.args.at.now.ticket c.args.at.now.done c.loop-index.index c.args.at.now.granted c.args.out.now.items c.loop-index.out.items c.args.token.now.me c.loop-index.token.me c.requires.token.names.0 c.loop-index.invariant.3 c.loop-index-test.true c.place-place.result.ticket c.place-place.ensures.ticket c.has_item.new.token.me c.if-not-has_item.ensures.told); phase = (loads_now c.args.at.now.names.now c.args.at.now.ticket c.args.at.now.done c.loop-index.index c.args.at.now.granted c.args.out.now.items c.loop-index.out.items c.args.token.now.me c.loop-index.token.me c.requires.token.names.0 c.loop-index.invariant.3 c.loop-index-test.true c.place-place.result.ticket c.place-place.ensures.ticket c.has_item.new.token.me c.if-not-has_item.ensures.told) }

pub take-requires-clause-slot : goal.take-requires-clause-slot
take-requires-clause-slot g c = slot_now c.args.at.now.names.now c.args.at.now.ticket c.args.at.now.done c.loop-index.index c.args.at.now.granted c.args.out.now.items c.loop-index.out.items c.args.token.now.me c.loop-index.token.me c.requires.token.names.0 c.loop-index.invariant.3 c.loop-index-test.true c.place-place.result.ticket c.place-place.ensures.ticket c.has_item.new.token.me c.if-not-has_item.ensures.told c.place-place.result.cell (c.place-place.ensures.place.cell_is ∙ ap (λ (z : ℕ). c.place-place.result.ticket % z) c.requires.token.cells)

pub loop-index-init : goal.loop-index-init
loop-index-init g c =
    let o = c.requires.token.phase.order in
    (refl, omega arith, o.1, empties_none c.args.at.now.names.now c.args.at.now.ticket c.args.at.now.done c.args.at.now.granted c.args.out.now.items c.args.token.now.me c.requires.token.lawful c.requires.token.phase c.requires.token.slots, c.requires.room, refl, omega arith)

pub loop-index-preserved : goal.loop-index-preserved
loop-index-preserved g c =
    let low = c.loop-index-test.true in
    let i = c.loop-index.invariant in
    let more = c.push_back_reserved.ensures.len in
    let room = i.4 in
    let cap = c.push_back_reserved.ensures.capacity in (
      c.take.ensures.told.same ∙ (c.has_item.ensures.same ∙ i.0),
      omega (arith, i.1),
      omega (arith, low),
      subst (λ l. EmptiesOn c.args.words.now.table_id.slots c.args.words.now.key.seats c.args.at.now.names.now c.args.at.now.ticket c.args.at.now.done (c.loop-index.index + 1) c.args.at.now.granted c.args.out.now.items l c.args.token.now.me c.take.new.token.me) (sym c.push_back_reserved.ensures.items)
          (next_told c.args.at.now.names.now c.args.at.now.ticket c.args.at.now.done c.loop-index.index c.args.at.now.granted c.args.out.now.items c.loop-index.out.items c.args.token.now.me c.loop-index.token.me c.requires.token.names.0 c.loop-index.invariant.3 c.loop-index-test.true c.place-place.result.ticket c.place-place.ensures.ticket c.has_item.new.token.me c.if-not-has_item.ensures.told c.take.new.token.me c.place-place.result.cell (c.place-place.ensures.place.cell_is ∙ ap (λ (z : ℕ). c.place-place.result.ticket % z) c.requires.token.cells) c.take.result c.take.ensures.item c.take.ensures.told.told),
      omega (arith, low, more, room, cap),
      cap ∙ i.5,
      omega (arith, more, i.6, i.1),
    )

pub returns-then-not-has_item-clause-early : goal.returns-then-not-has_item-clause-early
returns-then-not-has_item-clause-early g c = λ _. early_told c.args.at.now.names.now c.args.at.now.ticket c.args.at.now.done c.loop-index.index c.args.at.now.granted c.args.out.now.items c.loop-index.out.items c.args.token.now.me c.loop-index.token.me c.requires.token.names.0 c.loop-index.invariant.3 c.loop-index-test.true c.place-place.result.ticket c.place-place.ensures.ticket c.has_item.new.token.me c.if-not-has_item.ensures.told

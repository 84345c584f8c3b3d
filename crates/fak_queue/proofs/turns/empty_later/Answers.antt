use Rattle.fak_queue.proofs.StepTokens.{still_fits}
use Rattle.fak_queue.proofs.Common.{◌∙◌}
use Rattle.fak_queue.proofs.Looking.{still_named, still_free, still_at, waits_out, found_names_out, found_phase_out, found_slot_out, taken_at_last}
use Rattle.fak_queue.proofs.turns.empty_later.Goals as goal

pub finds_item-requires : goal.finds_item-requires
finds_item-requires g c = record { table = still_fits c.requires.table c.loop.invariant.0; place = c.requires.place; seat = let w = c.loop.invariant.1 c.requires.seat.0 c.requires.seat.1 in (c.requires.seat.0, still_named w c.requires.seat.1); free = let w = c.loop.invariant.1 c.requires.seat.0 c.requires.seat.1 in still_free w c.requires.free; phase = still_at (c.loop.invariant.1 c.requires.seat.0 c.requires.seat.1) c.requires.phase }

pub empty_cell-requires-clause-token : goal.empty_cell-requires-clause-token
empty_cell-requires-clause-token g c = record { table = still_fits c.requires.table (c.finds_item.ensures.same ∙ c.loop.invariant.0); place = c.requires.place; seat = ((c.requires.seat.0, found_names_out (c.loop.invariant.1 c.requires.seat.0 c.requires.seat.1) c.requires.seat.1 c.requires.free c.if-finds_item.ensures.told)); phase = (found_phase_out (c.loop.invariant.1 c.requires.seat.0 c.requires.seat.1) c.requires.seat.1 c.requires.free c.if-finds_item.ensures.told) }

pub empty_cell-requires-clause-slot : goal.empty_cell-requires-clause-slot
empty_cell-requires-clause-slot g c = found_slot_out (c.loop.invariant.1 c.requires.seat.0 c.requires.seat.1) c.requires.seat.1 c.requires.free c.if-finds_item.ensures.told c.args.place.cell c.requires.place.cell_is

pub returns-then-finds_item : goal.returns-then-finds_item
returns-then-finds_item g c = record { same = c.empty_cell.ensures.same ∙ (c.finds_item.ensures.same ∙ c.loop.invariant.0); told = λ n one. taken_at_last (c.loop.invariant.1 n one) one c.requires.free c.if-finds_item.ensures.told c.empty_cell.ensures.told }

pub loop-preserved : goal.loop-preserved
loop-preserved g c = (c.finds_item.ensures.same ∙ c.loop.invariant.0, λ n one. waits_out (c.loop.invariant.1 n one) one c.requires.free c.if-finds_item.ensures.told)

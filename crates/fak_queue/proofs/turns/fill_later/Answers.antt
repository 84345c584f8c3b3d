use Rattle.fak_queue.proofs.StepTokens.{still_fits}
use Rattle.fak_queue.proofs.Common.{◌∙◌}
use Rattle.fak_queue.proofs.Looking.{still_named, still_free, still_at, waits_in, found_names_in, found_phase_in, found_slot_in, filled_at_last}
use Rattle.fak_queue.proofs.turns.fill_later.Goals as goal

pub finds_room-requires : goal.finds_room-requires
finds_room-requires g c = record { table = still_fits c.requires.table c.loop.invariant.0; place = c.requires.place; seat = let w = c.loop.invariant.1 c.requires.seat.0 c.requires.seat.1 in (c.requires.seat.0, still_named w c.requires.seat.1); free = let w = c.loop.invariant.1 c.requires.seat.0 c.requires.seat.1 in still_free w c.requires.free; phase = (c.args.item, still_at (c.loop.invariant.1 c.requires.seat.0 c.requires.seat.1) c.requires.phase) }

pub fill_cell-requires-clause-token : goal.fill_cell-requires-clause-token
fill_cell-requires-clause-token g c = record { table = still_fits c.requires.table (c.finds_room.ensures.same ∙ c.loop.invariant.0); place = c.requires.place; seat = ((c.requires.seat.0, found_names_in (c.loop.invariant.1 c.requires.seat.0 c.requires.seat.1) c.requires.seat.1 c.requires.free c.requires.phase c.if-finds_room.ensures.told)); phase = (found_phase_in (c.loop.invariant.1 c.requires.seat.0 c.requires.seat.1) c.requires.seat.1 c.requires.free c.requires.phase c.if-finds_room.ensures.told) }

pub fill_cell-requires-clause-slot : goal.fill_cell-requires-clause-slot
fill_cell-requires-clause-slot g c = found_slot_in (c.loop.invariant.1 c.requires.seat.0 c.requires.seat.1) c.requires.seat.1 c.requires.free c.requires.phase c.if-finds_room.ensures.told c.args.place.cell c.requires.place.cell_is

pub returns-then-finds_room : goal.returns-then-finds_room
returns-then-finds_room g c = record { same = c.fill_cell.ensures.same ∙ (c.finds_room.ensures.same ∙ c.loop.invariant.0); told = λ n one. filled_at_last (c.loop.invariant.1 n one) one c.requires.free c.requires.phase c.if-finds_room.ensures.told c.fill_cell.ensures.told }

pub loop-preserved : goal.loop-preserved
loop-preserved g c = (c.finds_room.ensures.same ∙ c.loop.invariant.0, λ n one. waits_in (c.loop.invariant.1 n one) one c.requires.free c.requires.phase c.if-finds_room.ensures.told)

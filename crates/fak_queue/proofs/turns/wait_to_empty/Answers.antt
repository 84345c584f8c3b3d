use Rattle.fak_queue.proofs.StepTokens.{still_fits}
use Rattle.fak_queue.proofs.Common.{◌∙◌, refl, inl}
use Rattle.fak_queue.proofs.Looking.{then_part, still_named, still_free, still_at, waits_out, found_names_out, found_phase_out, found_slot_out, taken_at_last}
use Rattle.fak_queue.proofs.turns.wait_to_empty.Goals as goal

pub empty_cell-requires-clause-token : goal.empty_cell-requires-clause-token
empty_cell-requires-clause-token g c = record { table = still_fits c.requires.table c.finds_item.ensures.same; place = c.requires.place; seat = ((c.requires.seat.0, found_names_out (inl refl) c.requires.seat.1 c.requires.free c.if-finds_item.ensures.told)); phase = (found_phase_out (inl refl) c.requires.seat.1 c.requires.free c.if-finds_item.ensures.told) }

pub empty_cell-requires-clause-slot : goal.empty_cell-requires-clause-slot
empty_cell-requires-clause-slot g c = found_slot_out (inl refl) c.requires.seat.1 c.requires.free c.if-finds_item.ensures.told c.args.place.cell c.requires.place.cell_is

pub returns-then-finds_item : goal.returns-then-finds_item
returns-then-finds_item g c = record { same = c.empty_cell.ensures.same ∙ c.finds_item.ensures.same; told = λ n one. taken_at_last (inl refl) one c.requires.free c.if-finds_item.ensures.told c.empty_cell.ensures.told }

pub empty_later-requires : goal.empty_later-requires
empty_later-requires g c = record { table = still_fits c.requires.table c.finds_item.ensures.same; place = c.requires.place; seat = let w = waits_out (inl refl) c.requires.seat.1 c.requires.free c.if-finds_item.ensures.told in (c.requires.seat.0, still_named w c.requires.seat.1); free = let w = waits_out (inl refl) c.requires.seat.1 c.requires.free c.if-finds_item.ensures.told in still_free w c.requires.free; phase = still_at (waits_out (inl refl) c.requires.seat.1 c.requires.free c.if-finds_item.ensures.told) c.requires.phase }

pub returns : goal.returns
returns g c = record { same = c.empty_later.ensures.same ∙ c.finds_item.ensures.same; told = λ n one. let w = waits_out (inl refl) one c.requires.free c.if-finds_item.ensures.told in let t = c.empty_later.ensures.told n (still_named w one) in record { part = then_part w t.part; put = t.put } }

use Rattle.fak_queue.proofs.StepTokens.{still_fits}
use Rattle.fak_queue.proofs.Common.{◌∙◌, refl, inl}
use Rattle.fak_queue.proofs.Looking.{then_part, still_named, still_free, still_at, waits_in, found_names_in, found_phase_in, filled_at_last}
use Rattle.fak_queue.proofs.turns.wait_to_fill.Goals as goal

pub fill_cell-requires-clause-token : goal.fill_cell-requires-clause-token
fill_cell-requires-clause-token g c = record { table = still_fits c.requires.table c.finds_room.ensures.same; place = c.requires.place; seat = (c.requires.seat.0, found_names_in (inl refl) c.requires.seat.1 c.requires.free c.requires.phase c.if-finds_room.ensures.told); phase = found_phase_in (inl refl) c.requires.seat.1 c.requires.free c.requires.phase c.if-finds_room.ensures.told }

pub returns-then-finds_room : goal.returns-then-finds_room
returns-then-finds_room g c = record { same = c.fill_cell.ensures.same ∙ c.finds_room.ensures.same; told = λ n one. filled_at_last (inl refl) one c.requires.free c.requires.phase c.if-finds_room.ensures.told c.fill_cell.ensures.told }

pub fill_later-requires : goal.fill_later-requires
fill_later-requires g c = record { table = still_fits c.requires.table c.finds_room.ensures.same; place = c.requires.place; seat = let w = waits_in (inl refl) c.requires.seat.1 c.requires.free c.requires.phase c.if-finds_room.ensures.told in (c.requires.seat.0, still_named w c.requires.seat.1); free = let w = waits_in (inl refl) c.requires.seat.1 c.requires.free c.requires.phase c.if-finds_room.ensures.told in still_free w c.requires.free; phase = still_at (waits_in (inl refl) c.requires.seat.1 c.requires.free c.requires.phase c.if-finds_room.ensures.told) c.requires.phase }

pub returns : goal.returns
returns g c = record { same = c.fill_later.ensures.same ∙ c.finds_room.ensures.same; told = λ n one. let w = waits_in (inl refl) one c.requires.free c.requires.phase c.if-finds_room.ensures.told in then_part w (c.fill_later.ensures.told n (still_named w one)) }

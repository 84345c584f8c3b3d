use Rattle.fak_callers.proofs.schedules.loads_what_was_put.Goals as goal

pub returns : goal.returns
returns g c = λ size schedule s k z at. let loads = c.a_deletion_loads_the_item_of_its_ticket.ensures size schedule s k z at in (loads.item, loads.loaded, loads.put, loads.ticket)

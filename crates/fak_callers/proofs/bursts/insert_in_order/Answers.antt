use Rattle.fak_callers.proofs.bursts.insert_in_order.Goals as goal

pub returns-in-Ok-clause-order : goal.returns-in-Ok-clause-order
returns-in-Ok-clause-order g c = λ i n x e low it. (c.in-Ok.ensures.call.granted i n x e low it).put

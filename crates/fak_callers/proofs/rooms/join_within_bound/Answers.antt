use Rattle.fak_callers.proofs.rooms.join_within_bound.Goals as goal

pub returns-clause-bound : goal.returns-clause-bound
returns-clause-bound c = c.a_room_refuses_at_its_bound.ensures.granted _ _ _ c.join.ensures.joined.lawful c.join.ensures.joined.named

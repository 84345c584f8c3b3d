use Rattle.fak_count_tests.proofs.rooms.fit_together.Goals as goal

pub returns-clause-fits : goal.returns-clause-fits
returns-clause-fits c = c.amounts_held_in_a_room_fit.ensures _ _ _ c.join-tally.ensures.joined.lawful c.join-tally.ensures.joined.named

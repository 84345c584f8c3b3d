use Rattle.fak_callers.proofs.files.join_within_seats.Goals as goal

pub returns-clause-within : goal.returns-clause-within
returns-clause-within c = c.amounts_held_in_a_file_table_fit.ensures _ _ _ c.join.ensures.joined.lawful c.join.ensures.joined.named

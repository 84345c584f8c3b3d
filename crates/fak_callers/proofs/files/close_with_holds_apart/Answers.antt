use Rattle.fak_callers.proofs.files.close_with_holds_apart.Goals as goal

pub returns-clause-apart : goal.returns-clause-apart
returns-clause-apart c = c.no_set_of_another_seat_lies_in_a_hold.ensures _ c.requires.seats _ _ c.close.ensures.lawful c.close.ensures.named

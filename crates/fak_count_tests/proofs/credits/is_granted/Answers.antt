use Rattle.fak_count_tests.proofs.credits.is_granted.Goals as goal

pub returns-clause-grants : goal.returns-clause-grants
returns-clause-grants c = c.a_credit_grants_what_it_can.ensures 7 _ c.is_whole.ensures.lawful

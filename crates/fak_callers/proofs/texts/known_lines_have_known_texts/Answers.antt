use Rattle.fak_callers.proofs.texts.known_lines_have_known_texts.Goals as goal

pub returns-clause-bare : goal.returns-clause-bare
returns-clause-bare c = c.the_texts_of_lines_are_known.ensures.bare 63 1024

pub returns-clause-negative : goal.returns-clause-negative
returns-clause-negative c = c.the_texts_of_lines_are_known.ensures.negative 0 11

pub returns-clause-amount : goal.returns-clause-amount
returns-clause-amount c = c.the_texts_of_lines_are_known.ensures.amount 7 0 4294967295

pub returns-clause-item : goal.returns-clause-item
returns-clause-item c = c.the_texts_of_lines_are_known.ensures.item 1 4095 9

pub returns-clause-ticket : goal.returns-clause-ticket
returns-clause-ticket c = c.the_texts_of_lines_are_known.ensures.ticket 2 3 1

pub returns-clause-refusal : goal.returns-clause-refusal
returns-clause-refusal c = c.the_texts_of_lines_are_known.ensures.refusal 5

pub returns-clause-other_refusal : goal.returns-clause-other_refusal
returns-clause-other_refusal c = c.the_texts_of_lines_are_known.ensures.other_refusal 64

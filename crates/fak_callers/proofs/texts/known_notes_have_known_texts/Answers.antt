use Rattle.std.proofs.Common.{ap, length}
use Rattle.fak_callers.proofs.texts.known_notes_have_known_texts.Goals as goal

pub returns-clause-said : goal.returns-clause-said
returns-clause-said c = c.the_texts_of_journals_are_known.ensures.said

pub returns-clause-yielded : goal.returns-clause-yielded
returns-clause-yielded c = c.the_texts_of_journals_are_known.ensures.yielded

pub returns-clause-downed : goal.returns-clause-downed
returns-clause-downed c = c.the_texts_of_journals_are_known.ensures.downed 15

pub returns-clause-upped : goal.returns-clause-upped
returns-clause-upped c = c.the_texts_of_journals_are_known.ensures.upped 0

pub returns-clause-opened : goal.returns-clause-opened
returns-clause-opened c = c.the_texts_of_journals_are_known.ensures.opened 7 63

pub returns-clause-not_opened : goal.returns-clause-not_opened
returns-clause-not_opened c = c.the_texts_of_journals_are_known.ensures.not_opened 4294967296

pub returns-clause-closed : goal.returns-clause-closed
returns-clause-closed c = c.the_texts_of_journals_are_known.ensures.closed 7 0

pub returns-clause-not_closed : goal.returns-clause-not_closed
returns-clause-not_closed c = c.the_texts_of_journals_are_known.ensures.not_closed 8

pub returns-clause-statted : goal.returns-clause-statted
returns-clause-statted c = c.the_texts_of_journals_are_known.ensures.statted 7 4294967295

pub returns-clause-not_statted : goal.returns-clause-not_statted
returns-clause-not_statted c = c.the_texts_of_journals_are_known.ensures.not_statted 9

pub returns-clause-spawned : goal.returns-clause-spawned
returns-clause-spawned c = c.the_texts_of_journals_are_known.ensures.spawned 3 1

pub returns-clause-no_birth : goal.returns-clause-no_birth
returns-clause-no_birth c = c.the_texts_of_journals_are_known.ensures.no_birth

pub returns-clause-no_slot : goal.returns-clause-no_slot
returns-clause-no_slot c = c.the_texts_of_journals_are_known.ensures.no_slot

pub returns-clause-shut_down : goal.returns-clause-shut_down
returns-clause-shut_down c = c.the_texts_of_journals_are_known.ensures.shut_down

pub returns-clause-order : goal.returns-clause-order
returns-clause-order c = c.the_texts_of_journals_are_known.ensures.order

pub returns-clause-child : goal.returns-clause-child
returns-clause-child c = c.the_texts_of_journals_are_known.ensures.child 3 1

pub returns-clause-name : goal.returns-clause-name
returns-clause-name c = c.the_texts_of_journals_are_known.ensures.name 0 12 3

pub returns-clause-first_name : goal.returns-clause-first_name
returns-clause-first_name c = c.the_texts_of_journals_are_known.ensures.first_name 63

pub returns-clause-empty : goal.returns-clause-empty
returns-clause-empty c = ap length c.the_texts_of_journals_are_known.ensures.empty

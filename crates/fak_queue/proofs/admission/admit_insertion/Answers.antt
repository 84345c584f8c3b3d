use Rattle.fak_queue.proofs.Common.{◌∙◌}
use Rattle.fak_queue.proofs.StepTokens.{still_fits}
use Rattle.fak_queue.proofs.Admissions.{refused_at_test, add_names, ticket_names, add_phase, ticket_phase, claimed_in, back_names, back_phase, refused_at_add}
use Rattle.fak_queue.proofs.admission.admit_insertion.Goals as goal

pub returns-in-Err : goal.returns-in-Err
returns-in-Err g c = record { same = c.test_up.ensures.same; told = λ n one. refused_at_test c.args.words.now.table_id.slots c.args.words.now.key.seats n c.args.item.now _ c.args.token.now.me c.test_up.new.token.me one c.requires.token.free (c.test_up.ensures.told n one) c.in-Err.reason c.in-Err.is }

pub add_up-requires-clause-token : goal.add_up-requires-clause-token
add_up-requires-clause-token g c = record { table = still_fits c.requires.token.table c.test_up.ensures.same; seat = (c.requires.token.seat.0, add_names c.args.words.now.table_id.slots c.args.words.now.key.seats c.requires.token.seat.0 c.args.item.now _ c.args.token.now.me c.test_up.new.token.me c.requires.token.seat.1 c.requires.token.free (c.test_up.ensures.told c.requires.token.seat.0 c.requires.token.seat.1) c.in-Ok.is); phase = ((c.args.item.now, add_phase c.args.words.now.table_id.slots c.args.words.now.key.seats c.requires.token.seat.0 c.args.item.now _ c.args.token.now.me c.test_up.new.token.me c.requires.token.seat.1 c.requires.token.free (c.test_up.ensures.told c.requires.token.seat.0 c.requires.token.seat.1) c.in-Ok.is)) }

pub ticket_in-requires-clause-token : goal.ticket_in-requires-clause-token
ticket_in-requires-clause-token g c = record { table = still_fits c.requires.token.table (c.add_up.ensures.same ∙ c.test_up.ensures.same); seat = (c.requires.token.seat.0, ticket_names c.args.words.now.table_id.slots c.args.words.now.key.seats c.requires.token.seat.0 c.args.item.now _ c.args.token.now.me c.test_up.new.token.me c.requires.token.seat.1 c.requires.token.free (c.test_up.ensures.told c.requires.token.seat.0 c.requires.token.seat.1) c.in-Ok.is _ c.add_up.new.token.me c.add_up.ensures.told c.in-Ok-add_up.is); phase = ((c.args.item.now, ticket_phase c.args.words.now.table_id.slots c.args.words.now.key.seats c.requires.token.seat.0 c.args.item.now _ c.args.token.now.me c.test_up.new.token.me c.requires.token.seat.1 c.requires.token.free (c.test_up.ensures.told c.requires.token.seat.0 c.requires.token.seat.1) c.in-Ok.is _ c.add_up.new.token.me c.add_up.ensures.told c.in-Ok-add_up.is)) }

pub back_up-requires : goal.back_up-requires
back_up-requires g c = record { table = still_fits c.requires.token.table (c.add_up.ensures.same ∙ c.test_up.ensures.same); seat = ((c.requires.token.seat.0, back_names c.args.words.now.table_id.slots c.args.words.now.key.seats c.requires.token.seat.0 c.args.item.now _ c.args.token.now.me c.test_up.new.token.me c.requires.token.seat.1 c.requires.token.free (c.test_up.ensures.told c.requires.token.seat.0 c.requires.token.seat.1) c.in-Ok.is _ c.add_up.new.token.me c.add_up.ensures.told _ c.in-Err-add_up.is)); phase = ((c.args.item.now, back_phase c.args.words.now.table_id.slots c.args.words.now.key.seats c.requires.token.seat.0 c.args.item.now _ c.args.token.now.me c.test_up.new.token.me c.requires.token.seat.1 c.requires.token.free (c.test_up.ensures.told c.requires.token.seat.0 c.requires.token.seat.1) c.in-Ok.is _ c.add_up.new.token.me c.add_up.ensures.told _ c.in-Err-add_up.is)) }

pub returns-in-Ok-add_up : goal.returns-in-Ok-add_up
returns-in-Ok-add_up g c = record { same = c.ticket_in.ensures.same ∙ (c.add_up.ensures.same ∙ c.test_up.ensures.same); told = λ n one. claimed_in c.args.words.now.table_id.slots c.args.words.now.key.seats n c.args.item.now _ c.args.token.now.me c.test_up.new.token.me one c.requires.token.free (c.test_up.ensures.told n one) c.in-Ok.is _ c.add_up.new.token.me c.add_up.ensures.told c.in-Ok-add_up.is c.ticket_in.ensures.told }

pub returns-in-Err-add_up : goal.returns-in-Err-add_up
returns-in-Err-add_up g c = record { same = c.back_up.ensures.same ∙ (c.add_up.ensures.same ∙ c.test_up.ensures.same); told = λ n one. refused_at_add c.args.words.now.table_id.slots c.args.words.now.key.seats n c.args.item.now _ c.args.token.now.me c.test_up.new.token.me one c.requires.token.free (c.test_up.ensures.told n one) c.in-Ok.is _ c.add_up.new.token.me c.add_up.ensures.told c.in-Err-add_up.reason c.in-Err-add_up.is c.back_up.ensures.told }

use Rattle.fak_processor.proofs.Common.{ap}
use Rattle.fak_text.specs.Journal.{after_note, shut_down}
use Rattle.fak_run.specs.ListScheduler as lists
use Rattle.fak_processor.proofs.Stepping.{moves_to, moves_shut}
use Rattle.fak_processor.proofs.worker.Worker.shutdown.Goals as goal

pub returns-clause-step : goal.returns-clause-step
returns-clause-step g c = record { moves = moves_to (after_note c.args.turn.now.process shut_down) (ap (λ (t : lists.Turn). t.process) c.in_ok-note.ensures.noted) (moves_shut c.args.turn.now.process c.note.ensures.fits c.requires.turn.stands c.shut_ready.ensures.gains); looks = c.shut_ready.ensures.looks }
